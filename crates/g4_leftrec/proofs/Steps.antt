-- No step both calls a rule and is silent.
use Rattle.std.proofs.Common.{◌≡◌, ℕ, true, false, refl}
use Rattle.g4_source.specs.Elements.{Element, atom, block}
use Rattle.g4_grammar.specs.declared.step.Step.{Step}
use Rattle.g4_grammar.specs.declared.step.Step.TheVariants.{Edge, Call, Predicate, Level, Action, Empty}
use Rattle.g4_leftrec.specs.OwnCalls.{is_atom}
use Rattle.g4_leftrec.specs.OwnSteps.{calls, is_silent}

-- what is silent calls no rule
pub silent_calls_none : {L : Type 0} (k : ℕ) (x : Element (Step L)) → is_atom is_silent x ≡ true → is_atom (calls k) x ≡ false
silent_calls_none k (atom (Edge label)) h = refl
silent_calls_none k (atom (Call rule level)) h = absurd (cc)
silent_calls_none k (atom (Predicate n)) h = refl
silent_calls_none k (atom (Level q)) h = refl
silent_calls_none k (atom Action) h = refl
silent_calls_none k (atom Empty) h = refl
silent_calls_none k (block label repeat xs) h = refl

-- what calls a rule is not silent
pub call_is_not_silent : {L : Type 0} (k : ℕ) (x : Element (Step L)) → is_atom (calls k) x ≡ true → is_atom is_silent x ≡ false
call_is_not_silent k (atom (Edge label)) h = refl
call_is_not_silent k (atom (Call rule level)) h = refl
call_is_not_silent k (atom (Predicate n)) h = absurd (cc)
call_is_not_silent k (atom (Level q)) h = refl
call_is_not_silent k (atom Action) h = absurd (cc)
call_is_not_silent k (atom Empty) h = refl
call_is_not_silent k (block label repeat xs) h = refl
