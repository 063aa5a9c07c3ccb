use Rattle.std.proofs.Common.{rules, ◌≡◌, ◌∷◌, [], List, ℕ, length, ◌++◌, slice_set, refl, ◌∙◌, ap, arith}
use Rattle.g4_trees.specs.declared.tree.Item.{Item}
use Rattle.g4_trees.specs.declared.tree.Item.TheVariants as items
use Rattle.g4_trees.proofs.Steps.{newest, newest_item, wraps}
use Rattle.g4_trees.proofs.builder.TreeBuilder.wrap.Goals as goal

pub returns-then-enter-end : goal.returns-then-enter-end
returns-then-enter-end c = λ g h.
    let within = (newest c.args.self.now g c.in-Some.enter.now (rw c.deref.ensures.value at c.in-Some.ensures.value) h).within in
    let place : c.len-end.result ≡ length c.args.self.now.items.items = search rules in
    let past = c.if-enter-end.true in
    absurd (omega (arith, place))

pub returns-in_ok-push-2 : goal.returns-in_ok-push-2
returns-in_ok-push-2 c = λ g h.
    let place : c.len-end.result ≡ length c.args.self.now.items.items = search rules in
    let ended : c.push.new.self.items ≡ c.args.self.now.wraps.items
    ++ record { end = length c.args.self.now.items.items; alt = c.in-Enter.alt } ∷ [] =
    c.in_ok-push.ensures.items ∙ ap (λ (k : ℕ). c.args.self.now.wraps.items ++ record { end = k; alt = c.in-Enter.alt } ∷ []) place in
    wraps c.args.self.now _ c.in-Some.enter.now c.in-Enter.rule c.in-Enter.alt c.in-Enter.at c.args.alternative c.index.result.now g
    (rw c.deref.ensures.value at c.in-Some.ensures.value) c.index.ensures c.in-Enter.is
    (ap (λ (xs : List Item). slice_set xs c.in-Some.enter.now (items.Enter c.in-Enter.rule c.args.alternative c.in-Enter.at))
    c.in_ok-push-2.ensures.items) refl ended h

pub returns-in_default-index : goal.returns-in_default-index
returns-in_default-index c = λ g h.
    let item = newest_item c.args.self.now g c.in-Some.enter.now c.index.result.now
    (rw c.deref.ensures.value at c.in-Some.ensures.value) h c.index.ensures in
    absurd (c.in_default-index.not-Enter item.0 item.1 item.2 item.3)
