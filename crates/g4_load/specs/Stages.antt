-- Stages, one after another: each gives what the next one needs, or the fault at which all ends.
use Rattle.std.specs.Prelude.{◌≡◌, ℕ, List, Result, Ok, Err}
use Rattle.g4_load.specs.declared.fault.GrammarFault.{GrammarFault}
use Rattle.g4_load.specs.declared.fault.CheckError.{CheckError}
use Rattle.g4_load.specs.declared.fault.CheckError.TheVariants as errors
use Rattle.g4_load.specs.declared.stop.Stop.{Stop}
use Rattle.g4_load.specs.declared.stop.Stop.TheVariants as stopping
use Rattle.g4_load.specs.declared.stop.Halt.{Halt}
use Rattle.g4_load.specs.declared.stop.Halt.TheVariants as halts

-- a stage gives what the layer answers, its faults seen as those of a grammar
abbrev pub Gives : {X E : Type 0} → (Result X E → Type 0) → (E → CheckError) → Result X GrammarFault → Type 0
Gives IsAnswer seen (Ok x) = IsAnswer (Ok x)
Gives {E = E} IsAnswer seen (Err fault) = (e : E) × IsAnswer (Err e) × (seen e ≡ errors.Fault fault)

-- One stage and then another: the first fault of both, or else what the second gives of what the first gave.
pub data Then {X Y F : Type 0} (First : Result X F → Type 0) (Second : X → Result Y F → Type 0) : Result Y F → Type 0 where
  stops : (fault : F) → First (Err fault) → Then First Second (Err fault)
  goes_on : (x : X) (result : Result Y F) → First (Ok x) → Second x result → Then First Second result

-- A stage over the grammar of the file of this name: its faults are faults of that file.
pub data OfFile {X : Type 0} (name : List ℕ) (Stage : Result X GrammarFault → Type 0) : Result X Stop → Type 0 where
  passes : (x : X) → Stage (Ok x) → OfFile name Stage (Ok x)
  fails : (fault : GrammarFault) → Stage (Err fault) → OfFile name Stage (Err (stopping.Fault name fault))

-- an error of a call: a fault that the stage gives, or want of memory
abbrev pub IsErrorOf : {X : Type 0} → (Result X GrammarFault → Type 0) → CheckError → Type 0
IsErrorOf Stage (errors.Fault fault) = Stage (Err fault)
IsErrorOf Stage errors.NoMemory = Unit {0}

-- the call answers with what the stage gives, unless memory runs out
abbrev pub IsAnswerOf : {X : Type 0} → (Result X GrammarFault → Type 0) → Result X CheckError → Type 0
IsAnswerOf Stage (Ok x) = Stage (Ok x)
IsAnswerOf Stage (Err error) = IsErrorOf Stage error

-- why a call halts: a stop that the stages give, a failed fetch, or want of memory
abbrev pub IsHaltOf : {X : Type 0} → (Result X Stop → Type 0) → Halt → Type 0
IsHaltOf Stage (halts.Stop stop) = Stage (Err stop)
IsHaltOf Stage halts.Failed = Unit {0}
IsHaltOf Stage halts.NoMemory = Unit {0}

-- the call answers with what the stages give, unless a fetch fails or memory runs out
abbrev pub GivesOrHalts : {X : Type 0} → (Result X Stop → Type 0) → Result X Halt → Type 0
GivesOrHalts Stage (Ok x) = Stage (Ok x)
GivesOrHalts Stage (Err halt) = IsHaltOf Stage halt

-- why a call that fetches nothing halts: a stop that the stages give, or want of memory
abbrev pub IsStopOf : {X : Type 0} → (Result X Stop → Type 0) → Halt → Type 0
IsStopOf Stage (halts.Stop stop) = Stage (Err stop)
IsStopOf Stage halts.Failed = ⊥
IsStopOf Stage halts.NoMemory = Unit {0}

-- such a call answers with what the stages give, unless memory runs out
abbrev pub GivesOrStops : {X : Type 0} → (Result X Stop → Type 0) → Result X Halt → Type 0
GivesOrStops Stage (Ok x) = Stage (Ok x)
GivesOrStops Stage (Err halt) = IsStopOf Stage halt

-- what stages give, whatever names were fetched for it
abbrev pub AfterFetches : {X : Type 0} → (List (List ℕ) → Result X Stop → Type 0) → Result X Stop → Type 0
AfterFetches Stage result = (fetched : List (List ℕ)) × Stage fetched result
