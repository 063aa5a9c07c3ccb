-- What the outcome of a file says of its tokens, in the terms of the grammar alone.
use Rattle.std.specs.Prelude.{ℕ, List, [], ◌∷◌, Err}
use Rattle.g4_tokens.specs.Symbols.{eof}
use Rattle.g4_derivation.specs.Spelling.{DerivesFrom}
use Rattle.g4_grammar.specs.StepRules.{AreUnpredicated}
use Rattle.g4_load.specs.Usable.{IsNetworkFrom}
use Rattle.g4_load.specs.declared.interpreter.Interpreter.{Interpreter}
use Rattle.g4_parse.specs.Parsing.{IsAcceptance, LeavesClosing}
use Rattle.g4_tokens.specs.TokenList.{word_of}
use Rattle.g4_tokens.specs.declared.token.Tokens.{Tokens}
use Rattle.g4_outcome.specs.declared.outcome.Outcome.{Outcome}
use Rattle.g4_outcome.specs.declared.outcome.Outcome.TheVariants as outcomes
use Rattle.g4_tree_check.specs.TreesOf.{IsTreeOf}

-- the rules of the grammar, as they are written, derive the tokens from this start rule, with what ends their list
abbrev pub DerivesTokens : Interpreter → List ℕ → Tokens → Type 0
DerivesTokens interpreter start tokens = DerivesFrom (eof ∷ []) interpreter.rules start (word_of tokens.list)

-- A file with a tree: its tokens are derived, the tree is one of the rules, as they are written, over these tokens, and all tokens
-- but EOFs at their end, and END, are in it. A file with a fault of the parser: where no rule has a predicate, its tokens are not derived,
-- unless the fault is that too many rules are open.
abbrev pub IsMeant : Interpreter → List ℕ → Outcome → Type 0
IsMeant interpreter start (outcomes.Tree tokens tree) = DerivesTokens interpreter start tokens ×
    IsTreeOf interpreter.rules (word_of tokens.list) tree × LeavesClosing (eof ∷ []) (word_of tokens.list) tree
IsMeant interpreter start (outcomes.Parse tokens fault) =
    IsAcceptance (AreUnpredicated interpreter.rules) (DerivesTokens interpreter start tokens) (Err fault)
IsMeant interpreter start (outcomes.Lex fault) = Unit {0}
IsMeant interpreter start (outcomes.TooLarge size) = Unit {0}

-- whichever start rule the network is from
abbrev pub IsMeantAnywhere : Interpreter → Outcome → Type 0
IsMeantAnywhere interpreter outcome = (start : List ℕ) → IsNetworkFrom interpreter start → IsMeant interpreter start outcome
