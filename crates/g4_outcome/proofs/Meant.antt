-- What outcomes mean, from what parsing and lexing answer.
use Rattle.std.proofs.Common.{◌≡◌, ℕ, List, [], ◌∷◌, Ok, Err, IfOk, Result, subst}
use Rattle.g4_tokens.specs.Symbols.{eof}
use Rattle.g4_derivation.specs.Spelling.{DerivesFrom}
use Rattle.g4_grammar.specs.StepRules.{AreUnpredicated, CanBeRewritten, StepRule}
use Rattle.g4_layout.specs.Built.{IsBuilt}
use Rattle.g4_leftrec.specs.Rewriting.{numberings, rewritten}
use Rattle.g4_load.specs.Usable.{IsUsable}
use Rattle.g4_load.specs.declared.interpreter.Interpreter.{Interpreter}
use Rattle.g4_net.specs.Network.{ParserNetwork}
use Rattle.g4_parse.specs.Parsing.{IsAcceptance, LeavesClosing}
use Rattle.g4_parse.specs.declared.parser.ParseFault.{ParseFault}
use Rattle.g4_tokens.specs.TokenList.{word_of}
use Rattle.g4_tokens.specs.declared.token.Token.{Token}
use Rattle.g4_tokens.specs.declared.token.Tokens.{Tokens}
use Rattle.g4_outcome.specs.Meaning.{IsMeantAnywhere}
use Rattle.g4_outcome.specs.declared.outcome.Outcome.TheVariants as outcomes
use Rattle.g4_tree_check.specs.TreesOf.{IsTreeOf}
use Rattle.g4_trees.specs.declared.tree.Item.{Item}

-- what parsing says of its answer, for every start rule
abbrev pub SaysAcceptance : ParserNetwork → List Token → Result (List Item) ParseFault → Type 0
SaysAcceptance net tokens result = (set : List ℕ) (rules : List StepRule) (start : List ℕ) → CanBeRewritten rules →
    IsBuilt set (rewritten rules) (numberings rules) start net →
    IsAcceptance (AreUnpredicated rules) (DerivesFrom set rules start (word_of tokens)) result

abbrev pub SaysTree : ParserNetwork → List Token → Result (List Item) ParseFault → Type 0
SaysTree net tokens result = (set : List ℕ) (rules : List StepRule) (start : List ℕ) → CanBeRewritten rules →
    IsBuilt set (rewritten rules) (numberings rules) start net →
    IfOk result (IsTreeOf rules (word_of tokens))

abbrev pub SaysWhole : ParserNetwork → List Token → Result (List Item) ParseFault → Type 0
SaysWhole net tokens result = (set : List ℕ) (rules : List StepRule) (start : List ℕ) → CanBeRewritten rules →
    IsBuilt set (rewritten rules) (numberings rules) start net →
    IfOk result (LeavesClosing set (word_of tokens))

module _ (interpreter : Interpreter) (usable : IsUsable interpreter) (tokens : Tokens) (lent : List Token) (same : lent ≡ tokens.list) where
  -- so it says this of a tree
  pub tree_meant : (tree : List Item) → SaysAcceptance interpreter.net lent (Ok tree) → SaysTree interpreter.net lent (Ok tree) →
      SaysWhole interpreter.net lent (Ok tree) → IsMeantAnywhere interpreter (outcomes.Tree tokens tree)
  tree_meant tree accepts fits whole start network = (
    subst (λ (ts : List Token). DerivesFrom (eof ∷ []) interpreter.rules start (word_of ts)) same
        (accepts (eof ∷ []) interpreter.rules start usable.rewritable network),
    subst (λ (ts : List Token). IsTreeOf interpreter.rules (word_of ts) tree) same
        (fits (eof ∷ []) interpreter.rules start usable.rewritable network),
    subst (λ (ts : List Token). LeavesClosing (eof ∷ []) (word_of ts) tree) same
        (whole (eof ∷ []) interpreter.rules start usable.rewritable network),
  )

  -- and of a fault
  pub fault_meant : (fault : ParseFault) → SaysAcceptance interpreter.net lent (Err fault) →
      IsMeantAnywhere interpreter (outcomes.Parse tokens fault)
  fault_meant fault accepts start network =
      subst (λ (ts : List Token). IsAcceptance (AreUnpredicated interpreter.rules)
      (DerivesFrom (eof ∷ []) interpreter.rules start (word_of ts)) (Err fault)) same
      (accepts (eof ∷ []) interpreter.rules start usable.rewritable network)
