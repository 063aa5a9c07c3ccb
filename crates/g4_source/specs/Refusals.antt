-- What stages answer, and their refusals as those of a later stage.
use Rattle.std.specs.Prelude.{Result, Ok, Err}
use Rattle.g4_source.specs.declared.refused.Refused.{Refused}
use Rattle.g4_source.specs.declared.refused.Refused.TheVariants.{Fault, NoMemory}

-- the answer is a value of which this holds, or a refusal for a fault of which that holds, unless memory runs out
abbrev pub Answers : {T F : Type 0} → (T → Type 0) → (F → Type 0) → Result T (Refused F) → Type 0
Answers Holds IsFault (Ok value) = Holds value
Answers Holds IsFault (Err (Fault fault)) = IsFault fault
Answers Holds IsFault (Err NoMemory) = Unit {0}

-- the same refusal, its fault being one of a later stage
abbrev pub refused : {F G : Type 0} → (F → G) → Refused F → Refused G
refused fault_of (Fault fault) = Fault (fault_of fault)
refused fault_of NoMemory = NoMemory

-- the same answer, its fault being one of a later stage
abbrev pub passed : {T F G : Type 0} → (F → G) → Result T (Refused F) → Result T (Refused G)
passed fault_of (Ok value) = Ok value
passed fault_of (Err refusal) = Err (refused fault_of refusal)
