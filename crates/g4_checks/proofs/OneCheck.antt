-- One fault of the rules of a grammar is reported, and none where there is none.
use Rattle.std.proofs.Common.{◌≡◌, ◌≢◌, Result, Ok, Err, ap, refl}
use Rattle.std.specs.Prelude.{⊤}
use Rattle.g4_source.specs.declared.source.Source.{Source}
use Rattle.g4_source.specs.declared.refused.Refused.{Refused}
use Rattle.g4_source.specs.declared.refused.Refused.TheVariants.{Fault, NoMemory}
use Rattle.g4_recursion.proofs.OneAnswer as calling
use Rattle.g4_checks.specs.declared.fault.CheckFault.{CheckFault}
use Rattle.g4_checks.specs.declared.fault.CheckFault.TheVariants.{Reference, Recursion}
use Rattle.g4_checks.specs.Checking.{HasNoFault, IsChecked, IsFault}
use Rattle.g4_checks.proofs.OneReference as naming

module _ (source : Source) where
  pub one_fault : (f g : CheckFault) → IsFault source f → IsFault source g → f ≡ g
  one_fault (Reference f) (Reference g) h k = ap Reference (naming.one_fault source f g h k)
  one_fault (Reference f) (Recursion g) h k = absurd (naming.no_fault source f k.0 h)
  one_fault (Recursion f) (Reference g) h k = absurd (naming.no_fault source g h.0 k)
  one_fault (Recursion f) (Recursion g) h k = ap Recursion (calling.one_fault source.rules f g h.1 k.1)

  pub no_fault : (f : CheckFault) → HasNoFault source → IsFault source f → ⊥
  no_fault (Reference f) none h = naming.no_fault source f none.0 h
  no_fault (Recursion f) none h = calling.no_fault source.rules f none.1 h.1

  -- so what is reported is one answer, where memory suffices
  pub one_answer : (a b : Result ⊤ (Refused CheckFault)) → IsChecked source a → IsChecked source b → a ≢ Err NoMemory → b ≢ Err NoMemory
      → a ≡ b
  one_answer (Ok _) (Ok _) h k n m = refl
  one_answer (Ok _) (Err (Fault f)) h k n m = absurd (no_fault f h k)
  one_answer (Ok _) (Err NoMemory) h k n m = absurd (m refl)
  one_answer (Err (Fault f)) (Ok _) h k n m = absurd (no_fault f k h)
  one_answer (Err (Fault f)) (Err (Fault g)) h k n m = ap (λ (x : CheckFault). Err (Fault x)) (one_fault f g h k)
  one_answer (Err (Fault f)) (Err NoMemory) h k n m = absurd (m refl)
  one_answer (Err NoMemory) b h k n m = absurd (n refl)
