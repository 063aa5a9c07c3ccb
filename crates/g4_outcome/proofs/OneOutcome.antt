-- A file has at most one outcome.
use Rattle.std.proofs.Common.{◌≡◌, ◌≢◌, ℕ, List, [], ◌∷◌, Result, Ok, Err, ap, sym, ◌∙◌, refl, subst}
use Rattle.g4_net.specs.Network.{ParserNetwork}
use Rattle.g4_tokens.specs.declared.token.Tokens.{Tokens}
use Rattle.g4_tokens.specs.TokenList.{word_of}
use Rattle.g4_lexer.specs.declared.fault.LexFault.{LexFault}
use Rattle.g4_lexer.specs.declared.fault.LexFault.TheVariants as lexing
use Rattle.g4_lexer.specs.Lexing.{IsLexing}
use Rattle.g4_lexer.specs.declared.lexing.TheConstants.{MOST_TOKENS}
use Rattle.g4_lexer.proofs.Unique.{one_answer}
use Rattle.g4_trees.specs.declared.tree.Item.{Item}
use Rattle.g4_trees.specs.Trees.{items_of}
use Rattle.g4_parse.specs.declared.parser.ParseFault.{ParseFault}
use Rattle.g4_parse.specs.declared.parser.ParseFault.TheVariants as parsing
use Rattle.g4_parse.specs.Parsing.{IsParse}
use Rattle.g4_run.specs.Running.{Ending, parsed, not_viable, mismatch, failed_predicate, too_deep, beginning, Ends, Values}
use Rattle.g4_run.proofs.OneEnding.{one_end}
use Rattle.g4_outcome.specs.Predicates.{values_of}
use Rattle.g4_outcome.specs.declared.input.Input.{Input}
use Rattle.g4_load.specs.declared.interpreter.Interpreter.{Interpreter}
use Rattle.g4_outcome.specs.declared.outcome.Outcome.{Outcome}
use Rattle.g4_outcome.specs.declared.outcome.Outcome.TheVariants as outcomes
use Rattle.g4_outcome.specs.Outcomes.{IsOutcome, too_large, not_lexed, not_parsed, parsed as has_tree, AreOutcomes}
use Rattle.g4_load.proofs.OneStage.{IsSingleBeside}

-- what a run's ending is as a result
abbrev result_of : Ending → Result (List Item) ParseFault
result_of (parsed tree) = Ok (items_of tree)
result_of (not_viable at) = Err (parsing.NoViable at)
result_of (mismatch at state) = Err (parsing.Mismatch at state)
result_of (failed_predicate at rule) = Err (parsing.FailedPredicate at rule)
result_of (too_deep at) = Err (parsing.TooDeep at)

-- a result is that of an ending, want of memory aside
from_ending : (net : ParserNetwork) (values : Values) (word : List ℕ) (r : Result (List Item) ParseFault) → IsParse net values word r
    → r ≢ Err parsing.NoMemory → (e : Ending) × Ends net values word e × (result_of e ≡ r)
from_ending net values word (Ok tree) (t, p, e) n = (parsed t, p, ap Ok (sym e))
from_ending net values word (Err (parsing.NoViable at)) p n = (not_viable at, p, refl)
from_ending net values word (Err (parsing.Mismatch at state)) p n = (mismatch at state, p, refl)
from_ending net values word (Err (parsing.FailedPredicate at rule)) p n = (failed_predicate at rule, p, refl)
from_ending net values word (Err (parsing.TooDeep at)) p n = (too_deep at, p, refl)
from_ending net values word (Err parsing.NoMemory) p n = absurd (n refl)

-- a run over a word has at most one result
one_parse : (net : ParserNetwork) (values : Values) (word : List ℕ) → IsSingleBeside parsing.NoMemory (IsParse net values word)
one_parse net values word a b p q n m =
    let e = from_ending net values word a p n in
    let d = from_ending net values word b q m in
    sym e.2 ∙ ap result_of (one_end net values word beginning e.0 d.0 e.1 d.1) ∙ d.2

module _ (interpreter : Interpreter) where
  -- one lexing of the bytes, and one run over the tokens
  one_lexing : (a b : List ℕ) (r s : Result Tokens LexFault) → a ≡ b → IsLexing interpreter.lexer a r → IsLexing interpreter.lexer b s
      → r ≢ Err lexing.NoMemory → s ≢ Err lexing.NoMemory → r ≡ s
  one_lexing a b r s same h k n m = one_answer interpreter.lexer MOST_TOKENS b r s
      (subst (λ bs. IsLexing interpreter.lexer bs r) same h) k n m

  one_run : (a b : Tokens) (r s : Result (List Item) ParseFault) → ◌≡◌ {A = Result Tokens LexFault} (Ok a) (Ok b)
      → IsParse interpreter.net (values_of interpreter a) (word_of a.list) r
      → IsParse interpreter.net (values_of interpreter b) (word_of b.list) s → r ≢ Err parsing.NoMemory
      → s ≢ Err parsing.NoMemory → r ≡ s
  one_run a b r s ok h k n m =
      let same : a ≡ b = cc in
      one_parse interpreter.net (values_of interpreter b) (word_of b.list) r s
      (subst (λ (t : Tokens). IsParse interpreter.net (values_of interpreter t) (word_of t.list) r) same h) k n m

  -- an input has at most one outcome
  pub one_outcome : (input : Input) (a b : Outcome) → IsOutcome interpreter input a → IsOutcome interpreter input b → a ≡ b
  one_outcome input a b (too_large n p) (too_large m q) = let same : n ≡ m = cc in ap (λ k. outcomes.TooLarge k) same
  one_outcome input a b (too_large n p) (not_lexed bytes fault q l f) = absurd (let no_way : ⊥ = cc in no_way)
  one_outcome input a b (too_large n p) (not_parsed bytes tokens fault q l r f) = absurd (let no_way : ⊥ = cc in no_way)
  one_outcome input a b (too_large n p) (has_tree bytes tokens tree q l r) = absurd (let no_way : ⊥ = cc in no_way)
  one_outcome input a b (not_lexed bytes fault p l f) (too_large n q) = absurd (let no_way : ⊥ = cc in no_way)
  one_outcome input a b (not_lexed bytes fault p l f) (not_lexed others error q m g) =
      let bytes_same : bytes ≡ others = cc in
      let same : ◌≡◌ {A = Result Tokens LexFault} (Err fault) (Err error) =
      one_lexing bytes others (Err fault) (Err error) bytes_same l m (λ e. f cc) (λ e. g cc) in
      let faults : fault ≡ error = cc in
      ap (λ k. outcomes.Lex k) faults
  one_outcome input a b (not_lexed bytes fault p l f) (not_parsed others tokens error q m r g) =
      let bytes_same : bytes ≡ others = cc in
      let same : ◌≡◌ {A = Result Tokens LexFault} (Err fault) (Ok tokens) =
      one_lexing bytes others (Err fault) (Ok tokens) bytes_same l m (λ e. f cc) (λ e. cc) in
      absurd (let no_way : ⊥ = cc in no_way)
  one_outcome input a b (not_lexed bytes fault p l f) (has_tree others tokens tree q m r) =
      let bytes_same : bytes ≡ others = cc in
      let same : ◌≡◌ {A = Result Tokens LexFault} (Err fault) (Ok tokens) =
      one_lexing bytes others (Err fault) (Ok tokens) bytes_same l m (λ e. f cc) (λ e. cc) in
      absurd (let no_way : ⊥ = cc in no_way)
  one_outcome input a b (not_parsed bytes tokens fault p l r f) (too_large n q) = absurd (let no_way : ⊥ = cc in no_way)
  one_outcome input a b (not_parsed bytes tokens fault p l r f) (not_lexed others error q m g) =
      let bytes_same : bytes ≡ others = cc in
      let same : ◌≡◌ {A = Result Tokens LexFault} (Ok tokens) (Err error) =
      one_lexing bytes others (Ok tokens) (Err error) bytes_same l m (λ e. cc) (λ e. g cc) in
      absurd (let no_way : ⊥ = cc in no_way)
  one_outcome input a b (not_parsed bytes tokens fault p l r f) (not_parsed others also error q m s g) =
      let bytes_same : bytes ≡ others = cc in
      let lexed : ◌≡◌ {A = Result Tokens LexFault} (Ok tokens) (Ok also) =
      one_lexing bytes others (Ok tokens) (Ok also) bytes_same l m (λ e. cc) (λ e. cc) in
      let same : ◌≡◌ {A = Result (List Item) ParseFault} (Err fault) (Err error) =
      one_run tokens also (Err fault) (Err error) lexed r s (λ e. f cc) (λ e. g cc) in
      let tokens_same : tokens ≡ also = cc in
      let faults : fault ≡ error = cc in
      ap (λ t. outcomes.Parse t fault) tokens_same ∙ ap (λ k. outcomes.Parse also k) faults
  one_outcome input a b (not_parsed bytes tokens fault p l r f) (has_tree others also tree q m s) =
      let bytes_same : bytes ≡ others = cc in
      let lexed : ◌≡◌ {A = Result Tokens LexFault} (Ok tokens) (Ok also) =
      one_lexing bytes others (Ok tokens) (Ok also) bytes_same l m (λ e. cc) (λ e. cc) in
      let same : ◌≡◌ {A = Result (List Item) ParseFault} (Err fault) (Ok tree) =
      one_run tokens also (Err fault) (Ok tree) lexed r s (λ e. f cc) (λ e. cc) in
      absurd (let no_way : ⊥ = cc in no_way)
  one_outcome input a b (has_tree bytes tokens tree p l r) (too_large n q) = absurd (let no_way : ⊥ = cc in no_way)
  one_outcome input a b (has_tree bytes tokens tree p l r) (not_lexed others error q m g) =
      let bytes_same : bytes ≡ others = cc in
      let same : ◌≡◌ {A = Result Tokens LexFault} (Ok tokens) (Err error) =
      one_lexing bytes others (Ok tokens) (Err error) bytes_same l m (λ e. cc) (λ e. g cc) in
      absurd (let no_way : ⊥ = cc in no_way)
  one_outcome input a b (has_tree bytes tokens tree p l r) (not_parsed others also error q m s g) =
      let bytes_same : bytes ≡ others = cc in
      let lexed : ◌≡◌ {A = Result Tokens LexFault} (Ok tokens) (Ok also) =
      one_lexing bytes others (Ok tokens) (Ok also) bytes_same l m (λ e. cc) (λ e. cc) in
      let same : ◌≡◌ {A = Result (List Item) ParseFault} (Ok tree) (Err error) =
      one_run tokens also (Ok tree) (Err error) lexed r s (λ e. cc) (λ e. g cc) in
      absurd (let no_way : ⊥ = cc in no_way)
  one_outcome input a b (has_tree bytes tokens tree p l r) (has_tree others also more q m s) =
      let bytes_same : bytes ≡ others = cc in
      let lexed : ◌≡◌ {A = Result Tokens LexFault} (Ok tokens) (Ok also) =
      one_lexing bytes others (Ok tokens) (Ok also) bytes_same l m (λ e. cc) (λ e. cc) in
      let same : ◌≡◌ {A = Result (List Item) ParseFault} (Ok tree) (Ok more) =
      one_run tokens also (Ok tree) (Ok more) lexed r s (λ e. cc) (λ e. cc) in
      let tokens_same : tokens ≡ also = cc in
      let trees : tree ≡ more = cc in
      ap (λ t. outcomes.Tree t tree) tokens_same ∙ ap (λ k. outcomes.Tree also k) trees

  -- inputs have at most one list of outcomes
  pub one_outcome_each : (inputs : List Input) (a b : List Outcome) → AreOutcomes interpreter inputs a
      → AreOutcomes interpreter inputs b → a ≡ b
  one_outcome_each [] [] [] p q = refl
  one_outcome_each [] [] (y ∷ ys) p q = absurd q
  one_outcome_each [] (x ∷ xs) b p q = absurd p
  one_outcome_each (i ∷ is) [] b p q = absurd p
  one_outcome_each (i ∷ is) (x ∷ xs) [] p q = absurd q
  one_outcome_each (i ∷ is) (x ∷ xs) (y ∷ ys) p q =
      ap (λ z. z ∷ xs) (one_outcome i x y p.0 q.0) ∙ ap (λ zs. y ∷ zs) (one_outcome_each is xs ys p.1 q.1)
