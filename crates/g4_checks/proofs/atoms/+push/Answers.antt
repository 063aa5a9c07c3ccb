use Rattle.std.proofs.Common.{◌++◌, List, map, refl, sym, ap, ◌∙◌}
use Rattle.g4_source.specs.Atoms.{AtomIn, atom_in}
use Rattle.g4_checks.specs.Views.{use_view}
use Rattle.g4_source.proofs.Lists.{parts_more, parts_all, pushed}
use Rattle.g4_checks.proofs.Nodes.{side_atoms, node_atoms, atom_atoms, block_atoms, elements_atoms, side_is}
use Rattle.g4_checks.proofs.atoms.+push.Goals as goal

pub push_element-loop-alternative-init : goal.push_element-loop-alternative-init
push_element-loop-alternative-init t c =
    ap (λ (xs : List AtomIn). map use_view c.args.found.now.items ++ xs)
    (sym (block_atoms c.args.kind c.args.element.now _ _ c.in-Block.alternatives c.deref-alternative-items.result.now
    c.in-Block.is c.deref-alternative-items.ensures.value))

pub push_element-loop-alternative-preserved : goal.push_element-loop-alternative-preserved
push_element-loop-alternative-preserved t c =
    parts_more (side_atoms c.args.kind) c.deref-alternative-items.result.now c.loop-alternative.alternative-index
    c.alternative-item.result _ _ _ c.loop-alternative-test.true c.alternative-item.is
    (c.in_ok-push_elements-in-Block.ensures ∙ ap (λ (xs : List AtomIn). map use_view c.loop-alternative.found.items ++ xs)
    (side_is c.args.kind c.alternative-item.result c.as_slice.result.now c.as_slice.ensures.value)) c.loop-alternative.invariant

pub push_elements-returns : goal.push_elements-returns
push_elements-returns t c =
    parts_all (node_atoms c.args.kind) c.args.elements.now c.loop-element.element-index _ _ c.loop-element-test.false
    c.loop-element.invariant
    ∙ ap (λ (xs : List AtomIn). map use_view c.args.found.now.items ++ xs) (sym (elements_atoms c.args.kind c.args.elements.now))

pub push_element-returns-in_ok-push-in-Atom : goal.push_element-returns-in_ok-push-in-Atom
push_element-returns-in_ok-push-in-Atom t c =
    pushed use_view (atom_in c.args.kind c.in-Atom.atom) c.args.found.now.items c.push.new.self.items
    c.in_ok-push-in-Atom.ensures.items refl
    ∙ ap (λ (xs : List AtomIn). map use_view c.args.found.now.items ++ xs)
    (sym (atom_atoms c.args.kind c.args.element.now c.in-Atom.atom c.in-Atom.is))
