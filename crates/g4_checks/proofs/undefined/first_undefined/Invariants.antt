use Rattle.g4_checks.specs.Names.{is_one_of}
use Rattle.g4_checks.specs.Uses.{IsUndefined}
use Rattle.g4_checks.specs.Views.{use_view}
use Rattle.g4_source.proofs.Firsts.{ArePassed}
use Rattle.g4_checks.proofs.undefined.first_undefined.Given as goal

abbrev pub invariant-loop-atom : goal.invariant-loop-atom
invariant-loop-atom l = ArePassed (IsUndefined (is_one_of l.parsers) (is_one_of l.lexers)) use_view l.atoms l.atom-index
