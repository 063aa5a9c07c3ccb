use Rattle.std.proofs.Common.{◌≡◌, ℕ, List, Option, length, sym, subst, ap, ◌∙◌, arith}
use Rattle.g4_matching.specs.Cells.{IsNoted}
use Rattle.g4_matching.specs.Listing.{returns_of}
use Rattle.g4_matching.specs.Automaton.{AreLearned, cell_of}
use Rattle.g4_matching.proofs.Learning.{learned_next, put_back}
use Rattle.g4_matching.proofs.automaton.Automaton.note_next.Goals as goal

pub returns-clause-sound : goal.returns-clause-sound
returns-clause-sound c =
    let a = c.args.self.now in
    let old = a.next.items in
    let new = c.note.new.cells in
    let many : length new ≡ length old = c.note.auto.cells ∙ ap length c.as_mut_slice.ensures.value in
    let noted : IsNoted old (cell_of a.classes c.args.from c.args.character) c.args.number new =
    subst (λ (k : ℕ). IsNoted old k c.args.number new) c.cell-cell.ensures
    (subst (λ (l : List (Option ℕ)). IsNoted l c.cell-cell.result c.args.number new) c.as_mut_slice.ensures.value c.note.ensures) in
    subst (λ (l : List (Option ℕ)). AreLearned c.args.modes.now.net.now c.args.modes.now.starts.now a.classes (returns_of a.listing)
    a.lists.items l a.firsts.items) (sym (put_back a.next.len old new many (omega (arith, a.next.ok.0))))
    (learned_next c.args.modes.now.net.now c.args.modes.now.starts.now a.classes (returns_of a.listing) a.lists.items old new
    a.firsts.items c.args.character c.args.from c.args.number c.requires.sound many noted c.requires.steps)
