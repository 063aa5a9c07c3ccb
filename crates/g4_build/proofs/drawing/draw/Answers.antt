use Rattle.std.proofs.Common.{ℕ, ◌+◌, ◌*◌, [], ◌∷◌, List, length, sum_by, subst, sym, ◌∙◌, ap, arith}
use Rattle.g4_source.specs.Elements.{Alternatives}
use Rattle.g4_grammar.specs.declared.step.Step.{Step}
use Rattle.g4_net.specs.declared.network.State.{State}
use Rattle.g4_layout.specs.Callers.{callers_of}
use Rattle.g4_layout.specs.Size.{states_of_rule}
use Rattle.g4_layout.specs.Numbers.{added_numbering}
use Rattle.g4_states.specs.Numberings.{CanAllBeNumbered}
use Rattle.g4_states.specs.Rules.{AreFullTrees, HaveLaid, ends_from}
use Rattle.g4_build.proofs.Drawn.{all_states, can_number, drawn, started_size, sum_of_map, full_trees}
use Rattle.g4_states.proofs.Trees.{same_rules}
use Rattle.g4_build.proofs.drawing.draw.Goals as goal

pub lay_rules-requires-clause-full : goal.lay_rules-requires-clause-full
lay_rules-requires-clause-full c = subst (λ (trees : List (Alternatives (Step (List ℕ)))). AreFullTrees trees)
    (sym (same_rules (λ x. x.elements) (λ r. r.alternatives) c.args.rules.now)) (full_trees c.args.rules.now c.requires.full)

pub lay_rules-requires-clause-room : goal.lay_rules-requires-clause-room
lay_rules-requires-clause-room c =
    let e = ap (sum_by states_of_rule) (same_rules (λ x. x.elements) (λ r. r.alternatives) c.args.rules.now)
    ∙ sum_of_map c.args.rules.now in
    let size = started_size c.args.set.now c.args.start c.in_ok-states.states.items c.add_start.new.states.items
    c.in_ok-add_start.ensures in
    omega (arith, e, size, c.requires.room, c.in_ok-states.ensures.size)

pub numbers-requires-clause-fit : goal.numbers-requires-clause-fit
numbers-requires-clause-fit c =
    let laid = subst (λ (trees : List (Alternatives (Step (List ℕ)))).
    HaveLaid 1 c.add_start.new.states.items c.lay_rules.new.states.items (1 + length c.args.rules.now) trees [])
    (same_rules (λ x. x.elements) (λ r. r.alternatives) c.args.rules.now) c.in_ok-ends.ensures.laid in
    let ends = c.as_slice-3.ensures.value ∙ (c.in_ok-ends.ensures.ends
    ∙ ap (λ (trees : List (Alternatives (Step (List ℕ)))). ends_from (length c.add_start.new.states.items) trees)
    (same_rules (λ x. x.elements) (λ r. r.alternatives) c.args.rules.now)) in
    subst (λ (xs : List (State (List ℕ))). CanAllBeNumbered xs 0 (2 * length c.args.numberings.now + 2)
    ((2 * length c.args.numberings.now + 7) ∷ c.as_slice-3.result.now) (added_numbering ∷ c.args.numberings.now))
    (sym c.as_slice-2.ensures.value)
    (can_number c.args.set.now c.args.rules.now c.args.numberings.now c.args.start c.in_ok-states.states.items
    c.add_start.new.states.items c.lay_rules.new.states.items c.in_ok-states.ensures c.in_ok-add_start.ensures laid c.requires.fit
    _ ends)

pub numbers-requires-clause-few : goal.numbers-requires-clause-few
numbers-requires-clause-few c =
    let laid = subst (λ (trees : List (Alternatives (Step (List ℕ)))).
    HaveLaid 1 c.add_start.new.states.items c.lay_rules.new.states.items (1 + length c.args.rules.now) trees [])
    (same_rules (λ x. x.elements) (λ r. r.alternatives) c.args.rules.now) c.in_ok-ends.ensures.laid in
    let count = all_states c.args.set.now c.args.rules.now c.args.numberings.now c.args.start c.in_ok-states.states.items
    c.add_start.new.states.items c.lay_rules.new.states.items c.in_ok-states.ensures c.in_ok-add_start.ensures laid c.requires.fit in
    omega (arith, ap length c.as_slice-2.ensures.value, count, c.requires.room)

pub returns : goal.returns
returns c =
    let laid = subst (λ (trees : List (Alternatives (Step (List ℕ)))).
    HaveLaid 1 c.add_start.new.states.items c.lay_rules.new.states.items (1 + length c.args.rules.now) trees [])
    (same_rules (λ x. x.elements) (λ r. r.alternatives) c.args.rules.now) c.in_ok-ends.ensures.laid in
    let ends = c.as_slice-3.ensures.value ∙ (c.in_ok-ends.ensures.ends
    ∙ ap (λ (trees : List (Alternatives (Step (List ℕ)))). ends_from (length c.add_start.new.states.items) trees)
    (same_rules (λ x. x.elements) (λ r. r.alternatives) c.args.rules.now)) in
    rw (c.new.ensures, c.new-2.ensures, c.new-3.ensures)
    (drawn c.args.set.now c.args.rules.now c.args.numberings.now c.args.start c.in_ok-states.states.items c.add_start.new.states.items
    c.lay_rules.new.states.items c.in_ok-states.ensures c.in_ok-add_start.ensures laid c.requires.fit
    c.in_ok-written.written.items _ c.in_ok-callers.callers.items ends
    (c.in_ok-callers.ensures ∙ ap (λ (xs : List (State (List ℕ))). callers_of xs (length c.args.rules.now + 1))
    c.as_slice.ensures.value)
    (rw c.as_slice-2.ensures.value at c.in_ok-written.ensures))
