-- The flags that are given ask for one output.
use Rattle.std.proofs.Common.{◌≡◌, ◌⊎◌, Bool, List, Option, Some, None, true, false, ap, inl, inr, refl, subst, sym, true≢false, ◌∙◌}
use Rattle.std.specs.Prelude.{Err, codes}
use Rattle.std.specs.Str.{bytes_eq}
use Rattle.std.proofs.lemmas.Slice.Eq.{bytes_eq-Decides}
use Rattle.clap.specs.Words.{Row, Text, first_of, one_of}
use Rattle.g4_words.specs.Commands.{AreGiven, Finds, HasFlag, IsAskedFor, IsLearned, IsNumber, IsOutput, IsOutputFlag, IsParse}
use Rattle.g4_words.specs.declared.command.Output.{Output}
use Rattle.g4_words.specs.declared.command.Output.TheVariants as outputs
use Rattle.g4_words.specs.declared.command.TheConstants.{DEFAULT_JOBS, DEFAULT_ROWS, MOST_JOBS, MOST_ROWS}
use Rattle.g4_words.specs.declared.reading.WordsFault.{WordsFault}
use Rattle.g4_words.specs.declared.reading.WordsFault.TheVariants.{Usage, NoMemory}

events_are_not_tokens : outputs.Events ≡ outputs.Tokens → ⊥
events_are_not_tokens same = cc

-- the flags differ
other_flag : (one other : Text) → bytes_eq one one ≡ true → bytes_eq one other ≡ false → one ≡ other → ⊥
other_flag one other itself not_other same = true≢false (sym itself ∙ ap (bytes_eq one) same ∙ not_other)

events_flag_is_not_tokens : codes "events" ≡ codes "tokens" → ⊥
events_flag_is_not_tokens = other_flag (codes "events") (codes "tokens") refl refl

learned_flag_is_not_events : codes "learned" ≡ codes "events" → ⊥
learned_flag_is_not_events = other_flag (codes "learned") (codes "events") refl refl

learned_flag_is_not_tokens : codes "learned" ≡ codes "tokens" → ⊥
learned_flag_is_not_tokens = other_flag (codes "learned") (codes "tokens") refl refl

module _ (rows : List Row) where
  -- flags ask for at most one output
  pub one_output : (a b : Output) → IsOutput rows a → IsOutput rows b → a ≡ b
  one_output a b p q = by_asked p.asked q.asked
    where
      by_asked : ((a ≡ outputs.Trees) ⊎ IsAskedFor rows a) → ((b ≡ outputs.Trees) ⊎ IsAskedFor rows b) → a ≡ b
      by_asked (inr asked) other = q.only a asked
      by_asked (inl trees) (inr asked) = sym (p.only b asked)
      by_asked (inl trees) (inl others) = trees ∙ sym others

  -- the trees, where no flag is given
  is_trees : (HasFlag (codes "events") rows → ⊥) → (HasFlag (codes "tokens") rows → ⊥) → IsOutput rows outputs.Trees
  is_trees no_events no_tokens = record { only = only_trees; asked = inl refl }
    where
      only_trees : (other : Output) → IsAskedFor rows other → other ≡ outputs.Trees
      only_trees outputs.Trees asked = refl
      only_trees outputs.Events asked = absurd (no_events asked)
      only_trees outputs.Tokens asked = absurd (no_tokens asked)

  -- the events, where their flag is given alone
  is_events : HasFlag (codes "events") rows → (HasFlag (codes "tokens") rows → ⊥) → IsOutput rows outputs.Events
  is_events given no_tokens = record { only = only_events; asked = inr given }
    where
      only_events : (other : Output) → IsAskedFor rows other → other ≡ outputs.Events
      only_events outputs.Trees asked = absurd asked
      only_events outputs.Events asked = refl
      only_events outputs.Tokens asked = absurd (no_tokens asked)

  -- the tokens, where their flag is given alone
  is_tokens : (HasFlag (codes "events") rows → ⊥) → HasFlag (codes "tokens") rows → IsOutput rows outputs.Tokens
  is_tokens no_events given = record { only = only_tokens; asked = inr given }
    where
      only_tokens : (other : Output) → IsAskedFor rows other → other ≡ outputs.Tokens
      only_tokens outputs.Trees asked = absurd asked
      only_tokens outputs.Events asked = absurd (no_events asked)
      only_tokens outputs.Tokens asked = refl

  -- no output, where both flags are given
  pub not_both : HasFlag (codes "events") rows → HasFlag (codes "tokens") rows → (output : Output) → IsOutput rows output → ⊥
  not_both events tokens output is = events_are_not_tokens (is.only outputs.Events events ∙ sym (is.only outputs.Tokens tokens))

  -- whether the flag is given is one answer
  pub one_learned : (a b : Output) (x y : Bool) → IsLearned rows a x → IsLearned rows b y → x ≡ y
  one_learned a b true true p q = refl
  one_learned a b true false p q = sym (q.given.1 (p.given.0 refl))
  one_learned a b false true p q = p.given.1 (q.given.0 refl)
  one_learned a b false false p q = refl

  -- values that ask for no output, or for an output with which the flag for what was learned does not go, are those of no `parse`
  pub no_parse : (fault : WordsFault) → Finds (IsOutput rows) (Err fault) → Finds (IsParse rows) (Err fault)
  no_parse Usage none = λ parse is. none parse.output is.output
  no_parse NoMemory none = tt

  pub no_learned : (output : Output) (fault : WordsFault) → IsOutput rows output → Finds (IsLearned rows output) (Err fault)
      → Finds (IsParse rows) (Err fault)
  no_learned output Usage is none = λ parse all.
      none parse.learned (subst (λ (o : Output). IsLearned rows o parse.learned) (one_output parse.output output all.output is) all.learned)
  no_learned output NoMemory is none = tt

  -- values with a number that is not within its limit are those of no `parse`
  pub no_jobs : (fault : WordsFault) (text : Option Text) → text ≡ first_of (codes "jobs") rows
      → Finds (IsNumber text DEFAULT_JOBS MOST_JOBS) (Err fault) → Finds (IsParse rows) (Err fault)
  no_jobs Usage text same none = λ parse is.
      none parse.jobs (subst (λ (t : Option Text). IsNumber t DEFAULT_JOBS MOST_JOBS parse.jobs) (sym same) is.jobs)
  no_jobs NoMemory text same none = tt

  pub no_rows : (fault : WordsFault) (text : Option Text) → text ≡ first_of (codes "rows") rows
      → Finds (IsNumber text DEFAULT_ROWS MOST_ROWS) (Err fault) → Finds (IsParse rows) (Err fault)
  no_rows Usage text same none = λ parse is.
      none parse.rows (subst (λ (t : Option Text). IsNumber t DEFAULT_ROWS MOST_ROWS parse.rows) (sym same) is.rows)
  no_rows NoMemory text same none = tt

  -- values with a name of a flag that is none are those of no `parse`
  pub no_flags : (fault : WordsFault) (text : Option Text) → text ≡ first_of (codes "flags") rows
      → Finds (AreGiven text) (Err fault) → Finds (IsParse rows) (Err fault)
  no_flags Usage text same none = λ parse is.
      none parse.flags (subst (λ (t : Option Text). AreGiven t parse.flags) (sym same) is.flags)
  no_flags NoMemory text same none = tt

  -- a flag is given or not
  has_or_not : (name : Text) → HasFlag name rows ⊎ (HasFlag name rows → ⊥)
  has_or_not name = by_value (one_of name rows) refl
    where
      by_value : (given : Option Text) → given ≡ one_of name rows → HasFlag name rows ⊎ (HasFlag name rows → ⊥)
      by_value None is = inr (λ has. cc)
      by_value (Some value) is = by_test (bytes_eq value (codes "true")) refl
        where
          by_test : (same : Bool) → bytes_eq value (codes "true") ≡ same → HasFlag name rows ⊎ (HasFlag name rows → ⊥)
          by_test true same = inl (cc ((bytes_eq-Decides value (codes "true")).0 same))
          by_test false same =
              let is_not_true : value ≡ codes "true" → ⊥ =
              λ is_true. true≢false (sym ((bytes_eq-Decides value (codes "true")).1 is_true) ∙ same) in
              inr (λ has. let is_true : value ≡ codes "true" = cc in is_not_true is_true)

  -- of the flags that say what is written no more than one is given
  abbrev IsOne : Type 0
  IsOne = (a b : Text) → IsOutputFlag a → IsOutputFlag b → HasFlag a rows → HasFlag b rows → a ≡ b

  -- then they ask for some output
  pub some_output : IsOne → (output : Output) × IsOutput rows output
  some_output one = by_flags (has_or_not (codes "events")) (has_or_not (codes "tokens"))
    where
      by_flags : (HasFlag (codes "events") rows ⊎ (HasFlag (codes "events") rows → ⊥))
          → (HasFlag (codes "tokens") rows ⊎ (HasFlag (codes "tokens") rows → ⊥)) → (output : Output) × IsOutput rows output
      by_flags (inl events) (inl tokens) =
          absurd (events_flag_is_not_tokens (one (codes "events") (codes "tokens") (inl refl) (inr (inl refl)) events tokens))
      by_flags (inl events) (inr no_tokens) = (outputs.Events, is_events events no_tokens)
      by_flags (inr no_events) (inl tokens) = (outputs.Tokens, is_tokens no_events tokens)
      by_flags (inr no_events) (inr no_tokens) = (outputs.Trees, is_trees no_events no_tokens)

  -- and where the one that is given asks how much was learned, the output is the trees
  pub some_learned : (output : Output) → IsOne → IsOutput rows output → (learned : Bool) × IsLearned rows output learned
  some_learned output one is = by_flag (has_or_not (codes "learned"))
    where
      by_asked : HasFlag (codes "learned") rows → (other : Output) → IsAskedFor rows other → ⊥
      by_asked learned outputs.Trees asked = asked
      by_asked learned outputs.Events asked =
          learned_flag_is_not_events (one (codes "learned") (codes "events") (inr (inr refl)) (inl refl) learned asked)
      by_asked learned outputs.Tokens asked =
          learned_flag_is_not_tokens (one (codes "learned") (codes "tokens") (inr (inr refl)) (inr (inl refl)) learned asked)

      trees : HasFlag (codes "learned") rows → ((output ≡ outputs.Trees) ⊎ IsAskedFor rows output) → output ≡ outputs.Trees
      trees learned (inl same) = same
      trees learned (inr asked) = absurd (by_asked learned output asked)

      by_flag : (HasFlag (codes "learned") rows ⊎ (HasFlag (codes "learned") rows → ⊥))
          → (learned : Bool) × IsLearned rows output learned
      by_flag (inl given) = (true, record { given = (λ _. given, λ _. refl); alone = λ _. trees given is.asked })
      by_flag (inr none) = (
        false,
        record {
          given = (λ yes. absurd (true≢false (sym yes)), λ given. absurd (none given));
          alone = λ yes. absurd (true≢false (sym yes));
        },
      )
