-- What a step looks up, and when it is answered with NotEnabled.
use Rattle.std.specs.Prelude.{Result, Ok, Err}
use Rattle.g4_core.specs.declared.machine.StepFault.{StepFault}
use Rattle.g4_core.specs.declared.machine.StepFault.TheVariants.{NotEnabled, NoMemory}
use Rattle.g4_core.specs.declared.event.Change.{Change}
use Rattle.g4_core.specs.declared.event.Event.{Event}
use Rattle.g4_core.specs.States.{State}
use Rattle.g4_core.specs.Steps.{Changes}
use Rattle.g4_store.specs.declared.automaton.Led.{Led}
use Rattle.g4_store.specs.declared.automaton.Led.TheVariants.{Row, End}

-- NotEnabled comes only where the event changes nothing
abbrev pub IsNotEnabled : {N C : Type 0} → State N C → Event → Result (Unit {0}) StepFault → Type 0
IsNotEnabled {N} {C} s event (Err NotEnabled) = (c : Change C) → Changes s event c → ⊥
IsNotEnabled s event (Err NoMemory) = Unit {0}
IsNotEnabled s event (Ok done) = Unit {0}

-- the content at which a path goes on
abbrev pub after : {C : Type 0} → Led C → C → C
after (Row y mark) x = y
after (End code) x = x
