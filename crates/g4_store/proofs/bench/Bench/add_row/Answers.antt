use Rattle.std.proofs.Common.{◌≡◌, [], ◌∷◌, sym, ap, ◌∙◌, subst, ⊎_elim}
use mathlib.Core.Option as maybe
use lib.ListN.{get_elem?}
use Rattle.g4_store.specs.declared.automaton.Led.TheVariants.{Row}
use Rattle.g4_store.specs.declared.automaton.Fact.TheVariants.{Cell}
use Rattle.g4_store.specs.declared.view.View.{View}
use Rattle.g4_store.specs.Numbers.{Among}
use Rattle.g4_store.specs.Views.{grown}
use Rattle.atomic_table.proofs.Lists.{at_longer, at_last}
use Rattle.g4_store.proofs.Following.{grow_takes}
use Rattle.g4_store.proofs.bench.Bench.add_row.Goals as goal

pub fill_row-requires-clause-row : goal.fill_row-requires-clause-row
fill_row-requires-clause-row g c =
    let e : c.grow_row.new.self ≡ grown c.args.content c.args.self.now = c.grow_row.ensures in
    let r = c.requires.row in (
      r.0,
      c.args.content,
      subst (λ (v : View _). get_elem? v.rows c.args.row ≡ maybe.some r.0) (sym e)
          (at_longer c.args.self.now.rows (c.args.content ∷ []) c.args.row r.0 r.1),
      subst (λ (v : View _). get_elem? v.rows c.len-target.result ≡ maybe.some c.args.content) (sym e)
          (at_last c.args.self.now.rows c.args.content c.len-target.result (sym c.len-target.ensures.0)),
      r.2,
      λ z m. ⊎_elim (λ (q : z ≡ c.args.content). sym q) (λ (q : ⊥). absurd q) (subst (λ (v : View _). Among z v.loose) e m),
    )

pub fill_row-requires-clause-empty : goal.fill_row-requires-clause-empty
fill_row-requires-clause-empty g c = λ x row led m.
    let e : c.grow_row.new.self ≡ grown c.args.content c.args.self.now = c.grow_row.ensures in
    let r = c.requires.row in
    let is : x ≡ r.0 = maybe.some-injective _ _
    (sym row ∙ subst (λ (v : View _). get_elem? v.rows c.args.row ≡ maybe.some r.0) (sym e)
    (at_longer c.args.self.now.rows (c.args.content ∷ []) c.args.row r.0 r.1)) in
    c.requires.empty x (r.1 ∙ ap maybe.some (sym is)) led (subst (λ (v : View _). Among (Cell x c.args.column led) v.facts) e m)

pub returns : goal.returns
returns g c = λ x row.
    let e : c.grow_row.new.self ≡ grown c.args.content c.args.self.now = c.grow_row.ensures in
    grow_takes g.B.Home.plan.rows (Cell x c.args.column (Row c.args.content c.args.mark)) c.args.content c.len-target.result
    c.args.self.now c.grow_row.new.self c.fill_row.new.self (c.requires.empty x row (Row c.args.content c.args.mark)) e
    (c.fill_row.ensures x c.args.content (subst (λ (v : View _). get_elem? v.rows c.args.row ≡ maybe.some x) (sym e)
    (at_longer c.args.self.now.rows (c.args.content ∷ []) c.args.row x row))
    (subst (λ (v : View _). get_elem? v.rows c.len-target.result ≡ maybe.some c.args.content) (sym e)
    (at_last c.args.self.now.rows c.args.content c.len-target.result (sym c.len-target.ensures.0)))) c.len-target.ensures.0
    c.requires.room.0
