use Rattle.std.proofs.Common.{rules, ◌≡◌, length, refl, arith}
use Rattle.g4_trees.proofs.Steps.{newest, newest_item, alters}
use Rattle.g4_trees.proofs.builder.TreeBuilder.set_alternative.Goals as goal

pub returns-then-enter-len : goal.returns-then-enter-len
returns-then-enter-len c = λ g h.
    let within = (newest c.args.self.now g c.in-Some.enter.now (rw c.deref.ensures.value at c.in-Some.ensures.value) h).within in
    let place : c.len.result ≡ length c.args.self.now.items.items = search rules in
    let past = c.if-enter-len.true in
    absurd (omega (arith, place))

pub returns-in-Enter : goal.returns-in-Enter
returns-in-Enter c = λ g h. alters c.args.self.now _ c.in-Some.enter.now c.in-Enter.rule c.in-Enter.alt c.in-Enter.at
    c.args.alternative c.index.result.now g (rw c.deref.ensures.value at c.in-Some.ensures.value) c.index.ensures c.in-Enter.is refl
    refl refl h

pub returns-in_default-index : goal.returns-in_default-index
returns-in_default-index c = λ g h.
    let item = newest_item c.args.self.now g c.in-Some.enter.now c.index.result.now
    (rw c.deref.ensures.value at c.in-Some.ensures.value) h c.index.ensures in
    absurd (c.in_default-index.not-Enter item.0 item.1 item.2 item.3)
