use Rattle.std.proofs.Common.{sym, ap, ◌∙◌, subst}
use Rattle.atomic_table.specs.Table.{step}
use mathlib.Core.Option.{none}
use lib.ListN.{get_elem?}
use Rattle.g4_store.specs.declared.view.View.{View}
use Rattle.g4_store.specs.Numbers.{Among}
use Rattle.g4_store.proofs.Loads.{checks}
use Rattle.g4_store.proofs.bench.Bench.check.Goals as goal

pub load-requires : goal.load-requires
load-requires g c =
    let p = c.self.invariant in
    let d = c.desk.ensures in (
      p.0 ∙ sym d.0,
      d.3,
      rw d.1 (checks g.A.Automaton.starts g.A.Automaton.leads g.B.Home.plan _ _ 0 _ (step c.desk.result.now.table_id.slots 0 0 0 none)
          (ap (λ v. v.spent) p.2) (ap (λ v. v.is_book) p.2)),
    )

pub returns-clause-filled : goal.returns-clause-filled
returns-clause-filled g c = λ f m.
    subst (λ (v : View _). Among f v.facts) c.self.view_is
    (c.load.ensures.2.4 f (subst (λ (v : View _). Among f v.seen) (sym c.self.view_is) m))

pub returns-clause-known : goal.returns-clause-known
returns-clause-known g c = λ t y m.
    ap (λ (v : View _). get_elem? v.rows t) (sym c.self.view_is)
    ∙ c.load.ensures.2.2 t y (subst (λ (v : View _). Among (t, y) v.known) (sym c.self.view_is) m)
