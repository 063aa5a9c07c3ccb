use Rattle.std.proofs.Common.{◌++◌, List, map, sym, ap, ◌∙◌}
use Rattle.g4_source.specs.declared.atom.TokenReference.{TokenReference}
use Rattle.g4_vocab.specs.Tables.{reference_of}
use Rattle.g4_vocab.proofs.Lists.{parts_more, parts_all}
use Rattle.g4_vocab.proofs.Nodes.{side_tokens, node_tokens, atom_tokens, block_tokens, elements_tokens, side_is}
use Rattle.g4_vocab.proofs.references.+push.Goals as goal

pub push_element-loop-alternative-init : goal.push_element-loop-alternative-init
push_element-loop-alternative-init t c =
    ap (λ (xs : List TokenReference). map reference_of c.args.found.now.items ++ xs)
    (sym (block_tokens c.args.element.now _ _ c.in-Block.alternatives c.deref-alternative-items.result.now c.in-Block.is
    c.deref-alternative-items.ensures.value))

pub push_element-loop-alternative-preserved : goal.push_element-loop-alternative-preserved
push_element-loop-alternative-preserved t c =
    parts_more side_tokens c.deref-alternative-items.result.now c.loop-alternative.alternative-index c.alternative-item.result _ _ _
    c.loop-alternative-test.true c.alternative-item.is
    (c.in_ok-push_elements-in-Block.ensures ∙ ap (λ (xs : List TokenReference). map reference_of c.loop-alternative.found.items ++ xs)
    (side_is c.alternative-item.result c.as_slice.result.now c.as_slice.ensures.value)) c.loop-alternative.invariant

pub push_element-returns-in_ok-push_atom-in-Atom : goal.push_element-returns-in_ok-push_atom-in-Atom
push_element-returns-in_ok-push_atom-in-Atom t c =
    c.in_ok-push_atom-in-Atom.ensures ∙ ap (λ (xs : List TokenReference). map reference_of c.args.found.now.items ++ xs)
    (sym (atom_tokens c.args.element.now c.in-Atom.atom c.in-Atom.is))

pub push_elements-returns : goal.push_elements-returns
push_elements-returns t c =
    parts_all node_tokens c.args.elements.now c.loop-element.element-index _ _ c.loop-element-test.false c.loop-element.invariant
    ∙ ap (λ (xs : List TokenReference). map reference_of c.args.found.now.items ++ xs) (sym (elements_tokens c.args.elements.now))
