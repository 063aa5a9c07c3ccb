use Rattle.std.proofs.Common.{◌≡◌, ℕ, ◌+◌, ◌*◌, List, length, arith, ap, ◌∙◌, subst}
use Rattle.std.proofs.lemmas.List.{length-replicate}
use Rattle.g4_layout.specs.Numbers.{added_numbering}
use Rattle.g4_states.specs.Numberings.{RuleIsNumbered}
use Rattle.g4_build.proofs.Written.{first_and_others}
use Rattle.g4_build.proofs.numbering.numbers.Goals as goal

pub returns : goal.returns
returns g c =
    let heads = 2 * length c.args.numberings.now + 2 in
    let blank = ap length c.in_ok-written.ensures ∙ length-replicate heads 0 in
    let end_is : heads + 5 ≡ 2 * length c.args.numberings.now + 7 = omega arith in
    let starts = c.new.ensures ∙ c.in_ok-vec.ensures.items in
    let one : RuleIsNumbered c.args.states.now c.in_ok-written.written.items c.number_rule.new.written.items 0 added_numbering
    (2 * length c.args.numberings.now + 7) =
    subst (λ (m : ℕ). RuleIsNumbered c.args.states.now c.in_ok-written.written.items c.number_rule.new.written.items 0 added_numbering
    m) end_is
    (subst (λ (s : List ℕ). RuleIsNumbered c.args.states.now c.in_ok-written.written.items c.number_rule.new.written.items 0
    (record { starts = s; count = 1 }) (heads + 5)) starts c.in_ok-number_rule.ensures) in
    first_and_others c.args.states.now c.in_ok-written.written.items c.number_rule.new.written.items c.number_rules.new.written.items
    heads (2 * length c.args.numberings.now + 7) c.args.ends.now added_numbering c.args.numberings.now blank (omega arith)
    (omega arith) one c.in_ok-number_rules.ensures
