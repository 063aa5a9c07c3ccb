use Rattle.std.proofs.Common.{subst, sym}
use Rattle.g4_matching.specs.Classes.{AreClasses}
use Rattle.g4_matching.specs.Partitions.{Classing}
use Rattle.g4_matching.proofs.automaton.Automaton.another.Goals as goal

pub by_classes-requires : goal.by_classes-requires
by_classes-requires c = subst (λ (v : Classing). AreClasses c.args.modes.now.net.now v) (sym c.in_ok-classes.ensures)
    c.requires.classes_are
