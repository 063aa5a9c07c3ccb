use Rattle.std.proofs.Common.{◌≡◌, length, ℕ, suc, ◌-◌, ◌≤◌, refl, ◌∙◌, subst, arith, rules}
use Rattle.g4_trees.specs.Unwinding.{HasRead}
use Rattle.g4_trees.proofs.Places.{read_item, read_wrap, all_read}
use Rattle.g4_trees.specs.declared.tree.Item.TheVariants as items
use Rattle.std.proofs.Common.{get_or}
use Rattle.g4_trees.proofs.unwinding.put_in_place.Goals as goal

pub loop-place-preserved-in-Some : goal.loop-place-preserved-in-Some
loop-place-preserved-in-Some c =
    let loop = c.loop-place in
    let one : loop.place ≡ suc (loop.place - 1) = omega (arith, c.loop-place-test.true) in
    let below : loop.place ≤ length c.args.items.now = search rules in
    let few = loop.invariant.within in
    record {
      within = omega arith;
      read = λ ordered. read_wrap c.args.items.now c.args.wraps.now (loop.place - 1) loop.rest c.in-Some.alt loop.unwound
          c.read_wrap.new.self (omega arith) few (subst
          (λ (k : ℕ). HasRead c.args.items.now c.args.wraps.now k loop.rest loop.unwound) one (loop.invariant.read ordered))
          c.in-Some.ensures c.in_ok-read_wrap-in-Some.ensures;
    }

pub loop-place-preserved : goal.loop-place-preserved
loop-place-preserved c =
    let loop = c.loop-place in
    let one : loop.place ≡ suc (loop.place - 1) = omega (arith, c.loop-place-test.true) in
    let below : loop.place ≤ length c.args.items.now = search rules in
    record {
      within = loop.invariant.within;
      read = λ ordered. read_item c.args.items.now c.args.wraps.now (loop.place - 1) loop.rest
          (get_or c.args.items.now (loop.place - 1) (items.Enter 0 0 0)) (items.Enter 0 0 0) loop.unwound c.read.new.self
          (omega arith) refl (subst (λ (k : ℕ). HasRead c.args.items.now c.args.wraps.now k loop.rest loop.unwound) one
          (loop.invariant.read ordered)) c.in-None.ensures c.in_ok-read-in-None.ensures;
    }

pub returns : goal.returns
returns c = λ ordered.
    let none : c.loop-place.place ≡ 0 = omega (arith, c.loop-place-test.false) in
    c.reverse.ensures.items ∙ all_read c.args.items.now c.args.wraps.now c.loop-place.rest c.loop-place.unwound
    c.loop-place.invariant.within (subst (λ (k : ℕ).
    HasRead c.args.items.now c.args.wraps.now k c.loop-place.rest c.loop-place.unwound) none (c.loop-place.invariant.read ordered))
