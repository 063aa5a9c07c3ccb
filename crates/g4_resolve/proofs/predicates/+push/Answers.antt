use Rattle.std.proofs.Common.{◌++◌, ℕ, List, sym, ap, ◌∙◌}
use Rattle.g4_vocab.proofs.Lists.{parts_more, parts_all}
use Rattle.g4_resolve.proofs.Gathering.{side_texts, node_texts, atom_texts, block_texts, elements_texts, side_is}
use Rattle.g4_resolve.proofs.predicates.+push.Goals as goal

pub push_element-loop-alternative-init : goal.push_element-loop-alternative-init
push_element-loop-alternative-init t c =
    ap (λ (xs : List (List ℕ)). c.args.found.now.items ++ xs)
    (sym (block_texts c.args.element.now _ _ c.in-Block.alternatives c.deref-alternative-items.result.now c.in-Block.is
    c.deref-alternative-items.ensures.value))

pub push_element-loop-alternative-preserved : goal.push_element-loop-alternative-preserved
push_element-loop-alternative-preserved t c =
    parts_more side_texts c.deref-alternative-items.result.now c.loop-alternative.alternative-index c.alternative-item.result _ _ _
    c.loop-alternative-test.true c.alternative-item.is
    (c.in_ok-push_elements-in-Block.ensures ∙ ap (λ (xs : List (List ℕ)). c.loop-alternative.found.items ++ xs)
    (side_is c.alternative-item.result c.as_slice.result.now c.as_slice.ensures.value)) c.loop-alternative.invariant

pub push_element-returns-in_ok-push_atom-in-Atom : goal.push_element-returns-in_ok-push_atom-in-Atom
push_element-returns-in_ok-push_atom-in-Atom t c =
    c.in_ok-push_atom-in-Atom.ensures ∙ ap (λ (xs : List (List ℕ)). c.args.found.now.items ++ xs)
    (sym (atom_texts c.args.element.now c.in-Atom.atom c.in-Atom.is))

pub push_elements-returns : goal.push_elements-returns
push_elements-returns t c =
    parts_all node_texts c.args.elements.now c.loop-element.element-index _ _ c.loop-element-test.false c.loop-element.invariant
    ∙ ap (λ (xs : List (List ℕ)). c.args.found.now.items ++ xs) (sym (elements_texts c.args.elements.now))
