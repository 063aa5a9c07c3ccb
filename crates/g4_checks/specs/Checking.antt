-- The faults that are looked for in a grammar's rules: first those of what the rules name, and then those of how they call each
-- other.
use Rattle.std.specs.Prelude.{Result, ⊤}
use Rattle.g4_source.specs.declared.source.Source.{Source}
use Rattle.g4_source.specs.declared.refused.Refused.{Refused}
use Rattle.g4_source.specs.Refusals.{Answers}
use Rattle.g4_checks.specs.References.{HasNoClash}
use Rattle.g4_checks.specs.References as naming
use Rattle.g4_recursion.specs.Checking.{HaveNoFault}
use Rattle.g4_recursion.specs.Checking as calling
use Rattle.g4_checks.specs.declared.fault.CheckFault.{CheckFault}
use Rattle.g4_checks.specs.declared.fault.CheckFault.TheVariants.{Reference, Recursion}

-- the grammar has none of the faults
abbrev pub HasNoFault : Source → Type 0
HasNoFault source = HasNoClash source × HaveNoFault source.rules

-- this is the fault that is reported: the first of the first kind that has one
abbrev pub IsFault : Source → CheckFault → Type 0
IsFault source (Reference fault) = naming.IsFault source fault
IsFault source (Recursion fault) = HasNoClash source × calling.IsFault source.rules fault

-- the call answers that there is no fault, or with the one that is reported, unless memory runs out
abbrev pub IsChecked : Source → Result ⊤ (Refused CheckFault) → Type 0
IsChecked source = Answers (λ _. HasNoFault source) (IsFault source)
