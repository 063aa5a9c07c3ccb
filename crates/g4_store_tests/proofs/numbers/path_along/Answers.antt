use Rattle.std.proofs.Common.{rules, ℕ, ◌+◌, ◌*◌, ◌%◌, ◌<◌, List, slice_index_or, refl, sym, subst}
use Rattle.g4_store_tests.specs.declared.numbers.Salt.{Salt}
use Rattle.g4_store_tests.specs.declared.numbers.Number.{Number}
use Rattle.g4_store_tests.specs.Numbers.{Leads, number}
use Rattle.g4_store.specs.declared.path.Looked.{Looked}
use Rattle.g4_store_tests.proofs.Along.{leads_more, leads_on}
use Rattle.g4_store_tests.proofs.numbers.path_along.Goals as goal

pub loop-column-preserved : goal.loop-column-preserved
loop-column-preserved c =
    let s = slice_index_or c.args.columns.now c.loop-column.column-index 0 in
    let lt : s < c.args.count = search rules in
    let v = (c.loop-column.value * 7 + s % 1000 + c.args.net.now.salt % 1000) % 1000003 in
    let content : Number = record { value = c.args.start % 1000003 } in (
      subst (λ (ls : List (Looked Number)). Leads c.args.net.now c.args.count content ls (number v)) (sym c.in_ok-push_back.ensures.items)
          (leads_more c.args.net.now c.args.count content (number c.loop-column.value) c.loop-column.looked.items _
          c.loop-column.invariant.0 lt refl),
      search rules,
    )

pub returns : goal.returns
returns c = λ p net columns lt.
    let content : Number = record { value = c.args.start % 1000003 } in (
      lt,
      refl,
      leads_on p content (number c.loop-column.value) c.loop-column.looked.items
          (subst (λ (q : Salt × ℕ). Leads q.0 q.1 content c.loop-column.looked.items (number c.loop-column.value))
          (λ i. (sym net i, sym columns i)) c.loop-column.invariant.0),
    )
