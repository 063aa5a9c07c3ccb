-- What a file leaves its pass, by what becomes of its bytes.
use Rattle.std.proofs.Common.{◌≡◌, ◌≢◌, ◌⊎◌, inl, inr, ℕ, List, All, Result, Ok, Err, refl, sym, ◌∙◌, ap, subst, true≢false}
use Rattle.g4_classes.specs.Classes.{IsSymbol}
use Rattle.g4_decide.specs.Asked.{Told}
use Rattle.g4_learned.specs.Tables.{Tables}
use Rattle.g4_lexer.specs.declared.fault.LexFault.{LexFault}
use Rattle.g4_lexer.specs.declared.fault.LexFault.TheVariants as lexing
use Rattle.g4_lexer.specs.declared.lexing.TheConstants.{MOST_TOKENS}
use Rattle.g4_lexer.specs.Lexing.{IsLexing}
use Rattle.g4_lexer.proofs.Unique.{one_answer}
use Rattle.g4_load.specs.declared.interpreter.Interpreter.{Interpreter}
use Rattle.g4_net.specs.Configurations.{Config}
use Rattle.g4_parse.specs.declared.parser.ParseFault.{ParseFault}
use Rattle.g4_parse.specs.declared.parser.ParseFault.TheVariants as parsing
use Rattle.g4_parse.specs.Teaching.{HasKept, IsNoRefusal, IsPassed, IsTaught}
use Rattle.g4_store.specs.declared.automaton.Fact.{Fact}
use Rattle.g4_store.specs.declared.automaton.Plan.{Plan}
use Rattle.g4_tokens.specs.declared.token.Tokens.{Tokens}
use Rattle.g4_tokens.specs.TokenList.{word_of}
use Rattle.g4_outcome.specs.declared.input.Input.{Input}
use Rattle.g4_outcome.specs.declared.input.Input.TheVariants.{Bytes, TooLarge}
use Rattle.g4_outcome.specs.declared.outcome.Outcome.{Outcome}
use Rattle.g4_outcome.specs.Outcomes.{IsOutcome, not_lexed, not_parsed, parsed, too_large}
use Rattle.g4_outcome.specs.Predicates.{run_over, values_of}
use Rattle.g4_run.specs.Running.{RunOver}
use Rattle.g4_outcome.specs.Taught.{HasTaught, IsPassedIn, IsRunOf}

-- what is passed by one name is passed by the other
pub same_taught : (p : Plan Tables) (One Other : Fact (List Config) → Type 0) → ((f : Fact (List Config)) → One f → Other f)
    → ((f : Fact (List Config)) → Other f → One f) → (old new : Told) → IsTaught p One old new → IsTaught p Other old new
same_taught p One Other to from old new h = record {
  within = λ f seen. elim (h.within f seen) [ inl before ↦ inl before | inr passed ↦ inr (to f passed) ];
  teaches = λ f taught. elim (h.teaches f taught) [ inl before ↦ inl before | inr passed ↦ inr (to f passed) ];
  whole = λ not_full f passed. h.whole not_full f (from f passed);
  some = λ f passed within. h.some f (from f passed) within;
  missing = λ was is. let m = h.missing was is in (m.0, (m.1.0, to m.1.0 m.1.1, m.1.2), m.2);
  stays_full = h.stays_full;
  rows = elim h.rows [ inl none ↦ inl (λ f passed. none.0 f (from f passed), none.1) | inr knows ↦ inr knows ];
}

module _ (p : Plan Tables) (interpreter : Interpreter) (input : Input) where
  -- a file without tokens leaves the pass as it is
  no_run : ((over : RunOver) → IsRunOf interpreter input over → ⊥) → (told : Told) → HasTaught p interpreter input told told
  no_run none told = record {
    kept = record { seen = λ f h. h; taught = λ f h. h; known = λ t y h. h; holds = refl; count = refl };
    taught = record {
      within = λ f h. inl h;
      teaches = λ f h. inl h;
      whole = λ not_full f passed. absurd (none passed.over passed.of);
      some = λ f passed within. absurd (none passed.over passed.of);
      missing = λ was is. absurd (true≢false (sym is ∙ was));
      stays_full = λ is. is;
      rows = inl (λ f passed. none passed.over passed.of, refl);
    };
    symbols = λ over of. absurd (none over of);
  }

-- a file that is too large
pub large_taught : (p : Plan Tables) (interpreter : Interpreter) (size : ℕ) (told : Told)
    → HasTaught p interpreter (TooLarge size) told told
large_taught p interpreter size told =
    no_run p interpreter (TooLarge size) (λ over of. let same = of.given in let no_way : ⊥ = cc in no_way) told

module _ (p : Plan Tables) (interpreter : Interpreter) (bytes : List ℕ) where
  -- there is one lexing
  run_is : (tokens : Tokens) (over : RunOver) → IsLexing interpreter.lexer bytes (Ok tokens)
      → (of : IsRunOf interpreter (Bytes bytes) over) → over ≡ run_over interpreter tokens
  run_is tokens over lexed of =
      let same : bytes ≡ of.bytes = let g = of.given in cc in
      let ok : ◌≡◌ {A = Result Tokens LexFault} (Ok of.tokens) (Ok tokens) =
      one_answer interpreter.lexer MOST_TOKENS bytes (Ok of.tokens) (Ok tokens)
      (subst (λ (bs : List ℕ). IsLexing interpreter.lexer bs (Ok of.tokens)) (sym same) of.lexed) lexed
      (λ e. let no_way : ⊥ = cc in no_way) (λ e. let no_way : ⊥ = cc in no_way) in
      let tokens_same : of.tokens ≡ tokens = cc in
      of.is ∙ ap (run_over interpreter) tokens_same

  -- a fault of its characters
  pub unlexed_taught : (fault : LexFault) (told : Told) → IsLexing interpreter.lexer bytes (Err fault) → fault ≢ lexing.NoMemory
      → HasTaught p interpreter (Bytes bytes) told told
  unlexed_taught fault told lexed apart = no_run p interpreter (Bytes bytes) none told
    where
      none : (over : RunOver) → IsRunOf interpreter (Bytes bytes) over → ⊥
      none over of =
          let same : bytes ≡ of.bytes = let g = of.given in cc in
          let clash : ◌≡◌ {A = Result Tokens LexFault} (Ok of.tokens) (Err fault) =
          one_answer interpreter.lexer MOST_TOKENS bytes (Ok of.tokens) (Err fault)
          (subst (λ (bs : List ℕ). IsLexing interpreter.lexer bs (Ok of.tokens)) (sym same) of.lexed) lexed
          (λ e. let no_way : ⊥ = cc in no_way) (λ e. apart (let f : fault ≡ lexing.NoMemory = cc in f)) in
          let no_way : ⊥ = cc in no_way

  -- a file with tokens
  pub lexed_taught : (tokens : Tokens) (old new : Told) → IsLexing interpreter.lexer bytes (Ok tokens)
      → All IsSymbol (word_of tokens.list) → HasKept old new
      → IsTaught p (IsPassed p.net (values_of interpreter tokens) (word_of tokens.list)) old new
      → HasTaught p interpreter (Bytes bytes) old new
  lexed_taught tokens old new lexed symbols kept taught = record {
    kept = kept;
    taught = same_taught p (IsPassed p.net (values_of interpreter tokens) (word_of tokens.list))
        (IsPassedIn p.net interpreter (Bytes bytes)) to from old new taught;
    symbols = λ over of. subst (λ (o : RunOver). All IsSymbol o.word) (sym (run_is tokens over lexed of)) symbols;
  }
    where
      to : (f : Fact (List Config)) → IsPassed p.net (values_of interpreter tokens) (word_of tokens.list) f
          → IsPassedIn p.net interpreter (Bytes bytes) f
      to f passed = record {
        over = run_over interpreter tokens;
        of = record { bytes = bytes; tokens = tokens; given = refl; lexed = lexed; is = refl };
        passed = passed;
      }

      from : (f : Fact (List Config)) → IsPassedIn p.net interpreter (Bytes bytes) f
          → IsPassed p.net (values_of interpreter tokens) (word_of tokens.list) f
      from f passed = subst (λ (o : RunOver). IsPassed p.net o.values o.word f) (run_is tokens passed.over lexed passed.of) passed.passed

-- a fault that is no want of memory
pub had_memory : (fault : ParseFault) → fault ≢ parsing.NoMemory → IsNoRefusal fault
had_memory (parsing.Mismatch at state) apart = tt
had_memory (parsing.NoViable at) apart = tt
had_memory (parsing.FailedPredicate at rule) apart = tt
had_memory (parsing.TooDeep at) apart = tt
had_memory parsing.NoMemory apart = absurd (apart refl)

-- ---- the run of a file, by its outcome

module _ (interpreter : Interpreter) where
  -- a file has at most one run
  pub one_run : (input : Input) (a b : RunOver) → IsRunOf interpreter input a → IsRunOf interpreter input b → a ≡ b
  one_run input a b h k =
      let same : h.bytes ≡ k.bytes = let g = sym h.given ∙ k.given in cc in
      let ok : ◌≡◌ {A = Result Tokens LexFault} (Ok h.tokens) (Ok k.tokens) =
      one_answer interpreter.lexer MOST_TOKENS k.bytes (Ok h.tokens) (Ok k.tokens)
      (subst (λ (bs : List ℕ). IsLexing interpreter.lexer bs (Ok h.tokens)) same h.lexed) k.lexed
      (λ e. let no_way : ⊥ = cc in no_way) (λ e. let no_way : ⊥ = cc in no_way) in
      let tokens : h.tokens ≡ k.tokens = cc in
      h.is ∙ (ap (run_over interpreter) tokens ∙ sym k.is)

  -- one with a tree or a fault of the parser has one, any other has none
  pub has_run : (input : Input) (outcome : Outcome) → IsOutcome interpreter input outcome
      → ((over : RunOver) × IsRunOf interpreter input over) ⊎ ((over : RunOver) → IsRunOf interpreter input over → ⊥)
  has_run input _ (too_large size given) =
      inr (λ over of. let g = sym given ∙ of.given in let no_way : ⊥ = cc in no_way)
  has_run input _ (not_lexed bytes fault given lexed apart) =
      inr (λ over of.
      let same : of.bytes ≡ bytes = let g = sym of.given ∙ given in cc in
      let clash : ◌≡◌ {A = Result Tokens LexFault} (Ok of.tokens) (Err fault) =
      one_answer interpreter.lexer MOST_TOKENS bytes (Ok of.tokens) (Err fault)
      (subst (λ (bs : List ℕ). IsLexing interpreter.lexer bs (Ok of.tokens)) same of.lexed) lexed
      (λ e. let no_way : ⊥ = cc in no_way) (λ e. apart (let f : fault ≡ lexing.NoMemory = cc in f)) in
      let no_way : ⊥ = cc in no_way)
  has_run input _ (not_parsed bytes tokens fault given lexed parse apart) =
      inl (run_over interpreter tokens, record { bytes = bytes; tokens = tokens; given = given; lexed = lexed; is = refl })
  has_run input _ (parsed bytes tokens tree given lexed parse) =
      inl (run_over interpreter tokens, record { bytes = bytes; tokens = tokens; given = given; lexed = lexed; is = refl })
