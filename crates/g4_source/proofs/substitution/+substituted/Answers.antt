use Rattle.std.proofs.Common.{map, refl, sym, ap, ◌∙◌}
use Rattle.g4_source.specs.Trees.{element_of, alternative_of, in_order}
use Rattle.g4_source.specs.Bind.{bind, in_order_bind}
use Rattle.g4_source.proofs.Nodes.{made_more, made_all, image_more, bound_in_order, bound_atom, bound_block, bound_side}
use Rattle.g4_source.proofs.substitution.+substituted.Goals as goal

pub element-loop-alternative-preserved : goal.element-loop-alternative-preserved
element-loop-alternative-preserved g t c =
    let f = g.S.Substitution.image c.args.stage.now in
    made_more (λ ys. map (in_order_bind f) (map alternative_of ys)) c.deref-alternative-items.result.now
    c.loop-alternative.alternative-index c.alternative-item.result
    (in_order_bind f (alternative_of c.alternative-item.result)) (map alternative_of c.loop-alternative.all.items)
    (map alternative_of c.push.new.self.items) _
    c.loop-alternative-test.true c.alternative-item.is refl
    (image_more alternative_of _ _ c.loop-alternative.all.items c.push.new.self.items
    (bound_side f c.alternative-item.result c.as_slice.result.now c.in_ok-elements-in-Block.elements c.as_slice.ensures.value
    c.in_ok-elements-in-Block.ensures) c.in_ok-push-in-Block.ensures.items)
    c.loop-alternative.invariant

pub element-returns-in_ok-made-in-Atom : goal.element-returns-in_ok-made-in-Atom
element-returns-in_ok-made-in-Atom g t c = bound_atom (g.S.Substitution.image c.args.stage.now) c.args.old.now c.in-Atom.atom _ c.in-Atom.is
    c.in_ok-made-in-Atom.ensures

pub element-returns-in_ok-label-in-Block : goal.element-returns-in_ok-label-in-Block
element-returns-in_ok-label-in-Block g t c =
    bound_block (g.S.Substitution.image c.args.stage.now) c.args.old.now c.in-Block.label c.in_ok-label-in-Block.label c.in-Block.repeat
    c.in-Block.alternatives c.loop-alternative.all c.deref-alternative-items.result.now c.loop-alternative.alternative-index
    c.in-Block.is c.in_ok-label-in-Block.ensures c.deref-alternative-items.ensures.value c.loop-alternative-test.false
    c.loop-alternative.invariant

pub run-returns : goal.run-returns
run-returns g t c =
    let f = g.S.Substitution.image c.args.stage.now in
    ap in_order (made_all (λ ys. map (bind f) (map element_of ys)) c.args.elements.now c.loop-old.old-index
    (map element_of c.loop-old.all.items) _ refl c.loop-old-test.false c.loop-old.invariant)
    ∙ sym (bound_in_order f (map element_of c.args.elements.now))
