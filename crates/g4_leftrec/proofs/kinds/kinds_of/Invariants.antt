use Rattle.std.proofs.Common.{◌≡◌, length, map}
use Rattle.g4_source.specs.Trees.{alternative_of}
use Rattle.g4_leftrec.specs.OwnCalls.{Part, operators, primaries}
use Rattle.g4_leftrec.specs.OwnSteps.{calls}
use Rattle.g4_leftrec.specs.Rewriting.{StepIn, operator_form, primary_form}
use Rattle.g4_leftrec.proofs.kinds.kinds_of.Given as goal

abbrev pub invariant-loop-alternative : goal.invariant-loop-alternative
invariant-loop-alternative l = record {
  number : l.number ≡ length l.yielded;
  starts : l.kinds.starts.items ≡ map (λ (x : Part StepIn). x.number) (primaries (calls l.rule) l.yielded);
  primaries : map alternative_of l.kinds.primaries.items ≡ map (primary_form l.rule l.count) (primaries (calls l.rule) l.yielded);
  operators : map alternative_of l.kinds.operators.items ≡ map (operator_form l.rule l.count) (operators (calls l.rule) l.yielded);
}
