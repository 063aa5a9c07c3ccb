-- The files of a run.
use Rattle.std.specs.Prelude.{◌≡◌, ◌≤◌, ℕ, List, [], ◌∷◌, length, Option, Some, None, Result, Ok, Err, nat_lt, cond}
use Rattle.g4_base.specs.declared.limits.TheConstants.{MOST_BYTES}
use Rattle.g4_fetch.specs.Files.{Files}
use Rattle.g4_outcome.specs.declared.input.Input.{Input}
use Rattle.g4_outcome.specs.declared.input.Input.TheVariants.{Bytes, TooLarge}
use Rattle.g4_load.specs.declared.stop.Stop.TheVariants as stops
use Rattle.g4_load.specs.declared.stop.Halt.{Halt}
use Rattle.g4_load.specs.declared.stop.Halt.TheVariants as halts

-- what is fetched of a file: its bytes, or its size past the limit
abbrev pub input_of : List ℕ → Input
input_of bytes = cond (nat_lt MOST_BYTES (length bytes)) (TooLarge (length bytes)) (Bytes bytes)

-- an input before more of them
abbrev pub then_more : Input → Result (List Input) (List ℕ) → Result (List Input) (List ℕ)
then_more input (Ok inputs) = Ok (input ∷ inputs)
then_more input (Err name) = Err name

-- what is fetched of a name, and then of more
abbrev pub fetch_next : List ℕ → Option (List ℕ) → Result (List Input) (List ℕ) → Result (List Input) (List ℕ)
fetch_next name None more = Err name
fetch_next name (Some bytes) more = then_more (input_of bytes) more

-- the inputs of all the names, or the name of the first that is absent
abbrev pub inputs_of : Files → List (List ℕ) → Result (List Input) (List ℕ)
inputs_of files [] = Ok []
inputs_of files (name ∷ names) = fetch_next name (files name) (inputs_of files names)

-- the call answers with the inputs of all the names, or stops at the first that is absent, unless a fetch fails or memory runs out
abbrev pub GivesInputs : {X : Type 0} → (X → List Input) → Result (List Input) (List ℕ) → Result X Halt → Type 0
GivesInputs view inputs (Ok x) = inputs ≡ Ok (view x)
GivesInputs view inputs (Err (halts.Stop stops.Usage)) = ⊥
GivesInputs view inputs (Err (halts.Stop (stops.Absent name))) = inputs ≡ Err name
GivesInputs view inputs (Err (halts.Stop (stops.TooLarge name size))) = ⊥
GivesInputs view inputs (Err (halts.Stop (stops.Fault name fault))) = ⊥
GivesInputs view inputs (Err halts.Failed) = Unit {0}
GivesInputs view inputs (Err halts.NoMemory) = Unit {0}
