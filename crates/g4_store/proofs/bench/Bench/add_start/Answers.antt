use Rattle.std.proofs.Common.{◌≡◌, sym, subst, ⊎_elim}
use mathlib.Core.Option as maybe
use lib.ListN.{get_elem?}
use Rattle.g4_store.specs.declared.automaton.Fact.TheVariants.{Start}
use Rattle.g4_store.specs.declared.view.View.{View}
use Rattle.g4_store.specs.Numbers.{Among}
use Rattle.g4_store.specs.Views.{grown}
use Rattle.atomic_table.proofs.Lists.{at_last}
use Rattle.g4_store.proofs.Following.{grow_takes}
use Rattle.g4_store.proofs.bench.Bench.add_start.Goals as goal

pub fill_start-requires-clause-row : goal.fill_start-requires-clause-row
fill_start-requires-clause-row g c =
    let e : c.grow_start.new.self ≡ grown c.args.content c.args.self.now = c.grow_start.ensures in (
      c.args.content,
      subst (λ (v : View _). get_elem? v.rows c.len-target.result ≡ maybe.some c.args.content) (sym e)
          (at_last c.args.self.now.rows c.args.content c.len-target.result (sym c.len-target.ensures.0)),
      c.requires.start.1,
      λ z m. ⊎_elim (λ (q : z ≡ c.args.content). sym q) (λ (q : ⊥). absurd q) (subst (λ (v : View _). Among z v.loose) e m),
    )

pub fill_start-requires-clause-empty : goal.fill_start-requires-clause-empty
fill_start-requires-clause-empty g c = λ y m.
    c.requires.empty y (subst (λ (v : View _). Among (Start c.args.start y) v.facts) c.grow_start.ensures m)

pub returns : goal.returns
returns g c =
    let e : c.grow_start.new.self ≡ grown c.args.content c.args.self.now = c.grow_start.ensures in
    grow_takes g.B.Home.plan.rows (Start c.args.start c.args.content) c.args.content c.len-target.result c.args.self.now
    c.grow_start.new.self c.fill_start.new.self (c.requires.empty c.args.content) e
    (c.fill_start.ensures c.args.content (subst (λ (v : View _). get_elem? v.rows c.len-target.result ≡ maybe.some c.args.content)
    (sym e) (at_last c.args.self.now.rows c.args.content c.len-target.result (sym c.len-target.ensures.0))))
    c.len-target.ensures.0 c.requires.room.0
