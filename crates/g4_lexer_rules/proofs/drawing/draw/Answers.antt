use Rattle.std.proofs.Common.{◌≡◌, ◌*◌, List, length, sym, ◌∙◌, ap, subst, arith}
use Rattle.std.proofs.lemmas.List.{length-replicate}
use Rattle.g4_net.specs.declared.network.State.{State}
use Rattle.g4_ordered.specs.declared.network.Reads.{Reads}
use Rattle.g4_layout.specs.Callers.{callers_of}
use Rattle.g4_states.specs.Numberings.{CanAllBeNumbered, RulesAreNumbered}
use Rattle.g4_states.specs.Trees.{rules_over}
use Rattle.g4_states.proofs.Trees.{length_trees}
use Rattle.g4_lexer_rules.specs.Steps.{step_of}
use Rattle.g4_lexer_rules.proofs.Drawn.{can_number, fit_length, whole}
use Rattle.g4_lexer_rules.proofs.drawing.draw.Goals as goal

pub number_rules-requires-clause-fit : goal.number_rules-requires-clause-fit
number_rules-requires-clause-fit c =
    let trees = rules_over step_of (λ x. x) (λ rule. rule) c.args.rules.now in
    let many : length c.args.rules.now ≡ length trees = sym (length_trees step_of (λ x. x) (λ rule. rule) c.args.rules.now) in
    let zeros : length c.in_ok-written.written.items ≡ 2 * length c.args.rules.now =
    ap length c.in_ok-written.ensures ∙ length-replicate (2 * length c.args.rules.now) 0 in
    subst (λ (xs : List (State Reads)). CanAllBeNumbered xs 0 (length c.in_ok-written.written.items) c.as_slice-3.result.now
    c.args.numberings.now) (sym c.as_slice-2.ensures.value)
    (can_number trees c.args.numberings.now (length c.args.rules.now) many c.in_ok-states.states.items c.lay_rules.new.states.items
    c.in_ok-states.ensures c.in_ok-ends.ensures.laid c.as_slice-3.result.now
    (c.as_slice-3.ensures.value ∙ c.in_ok-ends.ensures.ends) (length c.in_ok-written.written.items) zeros c.requires.fit)

pub number_rules-requires-clause-heads : goal.number_rules-requires-clause-heads
number_rules-requires-clause-heads c =
    let trees = rules_over step_of (λ x. x) (λ rule. rule) c.args.rules.now in
    let many = length_trees step_of (λ x. x) (λ rule. rule) c.args.rules.now in
    let zeros : length c.in_ok-written.written.items ≡ 2 * length c.args.rules.now =
    ap length c.in_ok-written.ensures ∙ length-replicate (2 * length c.args.rules.now) 0 in
    omega (arith, many, zeros, fit_length trees c.args.numberings.now c.requires.fit)

pub returns : goal.returns
returns c =
    let trees = rules_over step_of (λ x. x) (λ rule. rule) c.args.rules.now in
    let many : length c.args.rules.now ≡ length trees = sym (length_trees step_of (λ x. x) (λ rule. rule) c.args.rules.now) in
    let zeros : length c.in_ok-written.written.items ≡ 2 * length c.args.rules.now =
    ap length c.in_ok-written.ensures ∙ length-replicate (2 * length c.args.rules.now) 0 in
    let places = c.as_slice-3.ensures.value ∙ c.in_ok-ends.ensures.ends in
    let numbered = subst (λ (xs : List (State Reads)).
    RulesAreNumbered xs c.in_ok-written.written.items c.number_rules.new.written.items 0 c.as_slice-3.result.now
    c.args.numberings.now) c.as_slice-2.ensures.value c.in_ok-number_rules.ensures in
    let listed = c.in_ok-callers.ensures ∙ ap (λ (xs : List (State Reads)). callers_of xs (length c.args.rules.now))
    c.as_slice.ensures.value in
    rw (c.new.ensures, c.new-2.ensures, c.new-3.ensures)
    (whole trees c.args.numberings.now (length c.args.rules.now) many c.in_ok-states.states.items c.lay_rules.new.states.items
    c.in_ok-states.ensures c.in_ok-ends.ensures.laid c.as_slice-3.result.now places c.in_ok-written.written.items
    c.number_rules.new.written.items c.in_ok-callers.callers.items zeros numbered listed)
