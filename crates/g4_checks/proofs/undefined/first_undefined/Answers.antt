use Rattle.std.proofs.Common.{ℕ, List, Option, subst}
use Rattle.g4_source.specs.Atoms.{AtomIn}
use Rattle.g4_source.specs.First.{Finds}
use Rattle.g4_checks.specs.Names.{is_one_of}
use Rattle.g4_checks.specs.Uses.{IsUndefined}
use Rattle.g4_checks.specs.Views.{use_view}
use Rattle.g4_source.proofs.Firsts.{one_passed, one_reported, all_passed}
use Rattle.g4_checks.proofs.undefined.first_undefined.Goals as goal

pub returns-in-Some : goal.returns-in-Some
returns-in-Some c =
    let Reports : AtomIn → List ℕ → Type 0 = IsUndefined (is_one_of c.args.parsers.now) (is_one_of c.args.lexers.now) in
    one_reported Reports use_view c.args.atoms.now c.loop-atom.atom-index c.atom-item.result c.in-Some.name c.loop-atom-test.true
    c.atom-item.is
    (subst (λ (found : Option (List ℕ)). Finds Reports (use_view c.atom-item.result) found) c.in-Some.is c.in_ok-name.ensures)
    c.loop-atom.invariant

pub loop-atom-preserved : goal.loop-atom-preserved
loop-atom-preserved c =
    let Reports : AtomIn → List ℕ → Type 0 = IsUndefined (is_one_of c.args.parsers.now) (is_one_of c.args.lexers.now) in
    one_passed Reports use_view c.args.atoms.now c.loop-atom.atom-index c.atom-item.result c.loop-atom-test.true c.atom-item.is
    (subst (λ (found : Option (List ℕ)). Finds Reports (use_view c.atom-item.result) found) c.in_default.is c.in_ok-name.ensures)
    c.loop-atom.invariant

pub returns : goal.returns
returns c = all_passed (IsUndefined (is_one_of c.args.parsers.now) (is_one_of c.args.lexers.now)) use_view c.args.atoms.now
    c.loop-atom.atom-index c.loop-atom-test.false c.loop-atom.invariant
