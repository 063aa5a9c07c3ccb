use Rattle.std.proofs.Common.{◌≡◌, ℕ, List, Option, length, sym, subst, ap, ◌∙◌, arith}
use Rattle.g4_matching.specs.Automaton.{AreLearned, Begins, starts_in}
use Rattle.g4_matching.specs.Cells.{IsNoted}
use Rattle.g4_matching.specs.Listing.{listed, returns_of}
use Rattle.g4_matching.proofs.Learning.{learned_first, put_back}
use Rattle.g4_matching.proofs.Numbered.{has_listed}
use Rattle.g4_matching.proofs.automaton.Automaton.learn_first.Goals as goal

pub returns-clause-first : goal.returns-clause-first
returns-clause-first c = record {
  list = listed c.make_first.new.self.listing;
  has = has_listed c.learn.new.self c.make_first.new.self.listing c.in_ok-number.number c.in_ok-number.ensures.listing
      c.in_ok-number.ensures.learned;
  is_first = c.in_ok-make_first.ensures.made;
}

pub returns-clause-sound : goal.returns-clause-sound
returns-clause-sound c =
    let a = c.learn.new.self in
    let net = c.args.modes.now.net.now in
    let modes = c.args.modes.now.starts.now in
    let old = a.firsts.items in
    let new = c.note.new.cells in
    let n = c.in_ok-number.number in
    let many : length new ≡ length old = c.note.auto.cells ∙ ap length c.as_mut_slice.ensures.value in
    let noted : IsNoted old c.args.mode n new =
    subst (λ (l : List (Option ℕ)). IsNoted l c.args.mode n new) c.as_mut_slice.ensures.value c.note.ensures in
    let begins : Begins net (starts_in modes c.args.mode) (returns_of a.listing) a.lists.items n = record {
      list = listed c.make_first.new.self.listing;
      has = has_listed a c.make_first.new.self.listing n c.in_ok-number.ensures.listing c.in_ok-number.ensures.learned;
      is_first = c.in_ok-make_first.ensures.made;
    } in
    subst (λ (l : List (Option ℕ)). AreLearned net modes a.classes (returns_of a.listing) a.lists.items a.next.items l)
    (sym (put_back a.firsts.len old new many (omega (arith, a.firsts.ok.0))))
    (learned_first net modes a.classes (returns_of a.listing) a.lists.items a.next.items old new c.args.mode n
    c.in_ok-number.ensures.sound noted begins)
