use Rattle.std.proofs.Common.{◌≡◌, ℕ, List, ◌++◌, sym, ap, ◌∙◌, subst}
use Rattle.g4_store.specs.declared.view.View.{View}
use Rattle.g4_store.specs.Numbers.{union}
use Rattle.g4_store.specs.Views.{hosting, count_of, Kept}
use Rattle.g4_store.specs.Closing.{Closes}
use Rattle.g4_store.proofs.Closed.{closes}
use Rattle.g4_store.proofs.listing.finish.Goals as goal

pub returns-clause-closes : goal.returns-clause-closes
returns-clause-closes g c =
    let f = c.close_with-closed.ensures.values.2 in
    let b = c.board.invariant in
    let p = c.bench.invariant in
    let idle = c.requires.idle in
    let v = c.args.guest.me.0 in
    let is : c.bench.inside.seat.me.0 ≡ hosting c.args.bench v = c.bench.view_is ∙ c.host.ensures in
    subst (λ rows. Closes g.A.Automaton.starts g.A.Automaton.leads g.B.Home.plan v c.words_of-words.result.items rows)
    (sym c.into_contents.ensures)
    (subst (λ (ws : List ℕ). Closes g.A.Automaton.starts g.A.Automaton.leads g.B.Home.plan v ws c.bench.inside.rows.0)
    (f.2 ∙ sym c.words_of-words.ensures)
    (closes g.A.Automaton.starts g.A.Automaton.leads g.B.Home.plan f.0.words f.0.views c.bench.inside.seat.id c.bench.inside.seat.me.0
    v c.bench.inside.rows.0
    (subst (λ (q : _). Kept g.A.Automaton.starts g.A.Automaton.leads q f.0.words f.0.views) (b.1 ∙ b.2) f.1.0)
    f.1.1 (ap (λ (u : View _). u.spent) p.2) (ap (λ (u : View _). u.is_book) p.2)
    (ap (λ (u : View _). u.loose) is ∙ ap (λ (u : View _). u.loose) idle)
    (ap (λ (u : View _). u.rows) p.2)
    (ap (λ (u : View _). u.seen) is ∙ ap (λ (u : View _). u.seen ++ v.seen) idle)
    (ap (λ (u : View _). u.taught) is ∙ ap (λ (u : View _). u.taught ++ v.taught) idle)
    (ap (λ (u : View _). u.known) is ∙ ap (λ (u : View _). u.known ++ v.known) idle)
    (ap (λ (u : View _). u.holds) is ∙ ap (λ (u : View _). union u.holds v.holds) idle)
    (ap (λ (u : View _). u.count) is ∙ ap (λ (u : View _). count_of u v) idle)))
