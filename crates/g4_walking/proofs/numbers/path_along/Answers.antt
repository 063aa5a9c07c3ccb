use Rattle.std.proofs.Common.{rules, ℕ, ◌<◌, List, slice_index_or, refl, sym, subst}
use Rattle.g4_walking.specs.declared.numbers.Salt.{Salt}
use Rattle.g4_walking.specs.declared.numbers.Number.{Number}
use Rattle.g4_walking.specs.Numbers.{Leads, number}
use Rattle.g4_store.specs.declared.path.Looked.{Looked}
use Rattle.g4_walking.proofs.Along.{leads_more, leads_on}
use Rattle.g4_walking.proofs.numbers.path_along.Goals as goal

pub loop-column-preserved : goal.loop-column-preserved
loop-column-preserved c =
    let s = slice_index_or c.args.columns.now c.loop-column.column-index 0 in
    let lt : s < 64 = search rules in (
      subst (λ (ls : List (Looked Number)). Leads c.args.net.now 64 (number 0) ls (number c.next-value.result))
          (sym c.in_ok-push_back.ensures.items)
          (leads_more c.args.net.now 64 (number 0) (number c.loop-column.value) (number c.next-value.result) c.loop-column.looked.items _
          c.loop-column.invariant.0 lt c.next-value.ensures.after refl),
      c.next-value.ensures.below,
    )

pub returns : goal.returns
returns c = λ p net columns lt. (
  lt,
  refl,
  leads_on p (number 0) (number c.loop-column.value) c.loop-column.looked.items
      (subst (λ (q : Salt × ℕ). Leads q.0 q.1 (number 0) c.loop-column.looked.items (number c.loop-column.value))
      (λ i. (sym net i, sym columns i)) c.loop-column.invariant.0),
)
