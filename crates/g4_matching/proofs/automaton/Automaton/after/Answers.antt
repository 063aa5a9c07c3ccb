use Rattle.std.proofs.Common.{◌≡◌, ℕ, List, Option, Some, slice_get, sym, ap, ◌∙◌}
use Rattle.g4_matching.specs.Automaton.{cell_of}
use Rattle.g4_matching.proofs.automaton.Automaton.after.Goals as goal

pub returns-in-Some-clause-next : goal.returns-in-Some-clause-next
returns-in-Some-clause-next c =
    let a = c.args.self.now in
    let noted : slice_get a.next.items (cell_of a.classes c.args.from c.args.character) ≡ Some (Some c.in-Some.number) =
    ap (slice_get a.next.items) (sym c.cell.ensures)
    ∙ ap (λ (l : List (Option ℕ)). slice_get l c.cell.result) (sym c.as_slice.ensures.value) ∙ c.in-Some.ensures in
    let s = c.requires.sound.noted c.args.character c.args.from c.in-Some.number c.requires.within noted in
    record { list = s.list; next = s.next; before = s.before; after = s.after; is_next = s.is_next }
