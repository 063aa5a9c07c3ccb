use Rattle.std.proofs.Common.{sym, ap, ◌∙◌}
use Rattle.g4_store.specs.declared.view.View.{View}
use Rattle.g4_store.proofs.Moves.{leaves}
use Rattle.g4_store.proofs.book.Book.copy_row.Goals as goal

pub split_seat-guest-requires : goal.split_seat-guest-requires
split_seat-guest-requires g c =
    let p = c.pass.invariant in
    let d = c.desk.ensures in
    (p.0 ∙ sym d.0, d.3, rw d.1 (leaves g.A.Automaton.starts g.A.Automaton.leads g.B.Home.plan _ _ (ap (λ (v : View _). v.spent) p.2)))
