-- What is answered, seen as the answer of a later stage.
use Rattle.std.proofs.Common.{Result, Ok, Err}
use Rattle.g4_source.specs.declared.refused.Refused.{Refused}
use Rattle.g4_source.specs.declared.refused.Refused.TheVariants.{Fault, NoMemory}
use Rattle.g4_source.specs.Refusals.{Answers, passed}

-- an answer by faults that are faults of the later stage
pub answers_passed : {T F G : Type 0} (fault_of : F → G) (Holds : T → Type 0) (IsFault : F → Type 0) (IsLater : G → Type 0)
    → ((fault : F) → IsFault fault → IsLater (fault_of fault)) → (answer : Result T (Refused F)) → Answers Holds IsFault answer
    → Answers Holds IsLater (passed fault_of answer)
answers_passed fault_of Holds IsFault IsLater later (Ok value) h = h
answers_passed fault_of Holds IsFault IsLater later (Err (Fault fault)) h = later fault h
answers_passed fault_of Holds IsFault IsLater later (Err NoMemory) h = tt
