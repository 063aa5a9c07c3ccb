use Rattle.std.proofs.Common.{Option, subst}
use Rattle.g4_base.specs.declared.place.Place.{Place}
use Rattle.g4_source.specs.First.{Finds}
use Rattle.g4_checks.specs.Uses.{IsUnknownPredicate}
use Rattle.g4_checks.specs.Views.{use_view}
use Rattle.g4_source.proofs.Firsts.{one_passed, one_reported, all_passed}
use Rattle.g4_checks.proofs.predicates.first_unknown.Goals as goal

pub returns-in-Some : goal.returns-in-Some
returns-in-Some c =
    one_reported IsUnknownPredicate use_view c.args.atoms.now c.loop-atom.atom-index c.atom-item.result c.in-Some.place
    c.loop-atom-test.true c.atom-item.is
    (subst (λ (found : Option Place). Finds IsUnknownPredicate (use_view c.atom-item.result) found) c.in-Some.is
    c.in_ok-place.ensures) c.loop-atom.invariant

pub loop-atom-preserved : goal.loop-atom-preserved
loop-atom-preserved c =
    one_passed IsUnknownPredicate use_view c.args.atoms.now c.loop-atom.atom-index c.atom-item.result c.loop-atom-test.true c.atom-item.is
    (subst (λ (found : Option Place). Finds IsUnknownPredicate (use_view c.atom-item.result) found) c.in_default.is
    c.in_ok-place.ensures) c.loop-atom.invariant

pub returns : goal.returns
returns c = all_passed IsUnknownPredicate use_view c.args.atoms.now c.loop-atom.atom-index c.loop-atom-test.false c.loop-atom.invariant
