-- What deciding says at a moment of a run, and its faults as those of parsing.
use Rattle.std.specs.Prelude.{◌≡◌, ℕ, ◌+◌, List, Option, Some, None, Result, Ok, Err}
use Rattle.g4_decide.specs.declared.fault.DecideFault.{DecideFault}
use Rattle.g4_decide.specs.declared.fault.DecideFault.TheVariants as deciding
use Rattle.g4_net.specs.Network.{ParserNetwork, IsFirst}
use Rattle.g4_net.specs.Prediction.{chosen, no_viable}
use Rattle.g4_guards.specs.Tests.{HasTests}
use Rattle.g4_guards.specs.declared.tests.Tests.TheVariants.{Many}
use Rattle.g4_run.specs.Running.{Predicts, Run, Values}
use Rattle.g4_parse.specs.Teaching.{IsConditionAt}
use Rattle.g4_parse.specs.declared.parser.ParseFault.{ParseFault}
use Rattle.g4_parse.specs.declared.parser.ParseFault.TheVariants.{NoViable, NoMemory}

-- the fault of parsing that a fault of deciding is
abbrev pub of_decide : DecideFault → ParseFault
of_decide (deciding.NoViable at) = NoViable at
of_decide deciding.NoMemory = NoMemory

-- the answer is what prediction says at this moment, an alternative being one of the decision's, unless memory runs out
abbrev pub IsPredicted : ParserNetwork → Values → List ℕ → Run → Result ℕ DecideFault → Type 0
IsPredicted net values word r (Ok i) = Predicts net values word r (chosen i) × ((t : ℕ) × IsFirst net r.state i t)
IsPredicted net values word r (Err (deciding.NoViable at)) = (k : ℕ) × Predicts net values word r (no_viable k) × (at ≡ r.place + k)
IsPredicted net values word r (Err deciding.NoMemory) = Unit {0}

-- the condition of the decision of this moment, or there are too many tests for one
abbrev pub GivesCondition : ParserNetwork → Values → List ℕ → Run → Option ℕ → Type 0
GivesCondition net values word r (Some n) = IsConditionAt net values word r n
GivesCondition net values word r None = HasTests net r.state Many
