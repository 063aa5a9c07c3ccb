-- What a step of reading a predicate answers.
use Rattle.std.specs.Prelude.{Result, Ok, Err}
use Rattle.g4_preds.specs.declared.fault.Fault.{Fault}
use Rattle.g4_preds.specs.declared.fault.Fault.TheVariants.{Unknown, NoMemory}

-- the call answers with something that is so, or that nothing is, unless memory runs out
abbrev pub Answers : {T : Type 0} → (T → Type 0) → Result T Fault → Type 0
Answers Is (Ok found) = Is found
Answers {T} Is (Err Unknown) = (any : T) → Is any → ⊥
Answers Is (Err NoMemory) = Unit {0}
