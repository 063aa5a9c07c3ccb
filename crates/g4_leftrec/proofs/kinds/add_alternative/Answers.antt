use Rattle.std.proofs.Common.{◌≡◌, ℕ, true, false, map, sym, ap, ◌∙◌, arith}
use Rattle.g4_source.specs.Elements.{Elements}
use Rattle.g4_source.specs.Trees.{element_of, in_order}
use Rattle.g4_leftrec.specs.OwnCalls.{after_self, is_some}
use Rattle.g4_leftrec.specs.OwnSteps.{calls}
use Rattle.g4_leftrec.specs.Rewriting.{StepIn, operator_elements, precedence, with_last_at}
use Rattle.g4_leftrec.proofs.Made.{operator_added, primary_added}
use Rattle.g4_leftrec.proofs.kinds.add_alternative.Goals as goal

pub returns-then-begins_with_call-clause-operators : goal.returns-then-begins_with_call-clause-operators
returns-then-begins_with_call-clause-operators c =
    let k : ℕ = c.args.rule in
    let a = c.args.alternative in
    let same = ap (λ ys. in_order (map element_of ys)) c.as_slice.ensures.value ∙ c.into_vec-elements.ensures in
    let begins : is_some (after_self (calls k) a.elements) ≡ true =
    sym (ap (λ (x : Elements StepIn). is_some (after_self (calls k) x)) same)
    ∙ (sym c.begins_with_call.ensures ∙ c.if-begins_with_call.true) in
    let level : c.saturating_sub-precedence.result ≡ precedence c.args.count c.args.number =
    omega (arith, c.saturating_sub-precedence.ensures) in
    operator_added k c.args.count c.args.number a c.args.kinds.now.operators.items c.push.new.self.items
    c.operator_elements-elements.result begins
    (λ rest h. c.operator_elements-elements.ensures rest (ap (after_self (calls k)) c.into_vec-elements.ensures ∙ h)
    ∙ ap (λ (p : ℕ). operator_elements k p a.right rest) level) c.in_ok-push.ensures.items

pub returns-clause-primaries : goal.returns-clause-primaries
returns-clause-primaries c =
    let k : ℕ = c.args.rule in
    let a = c.args.alternative in
    let same = ap (λ ys. in_order (map element_of ys)) c.as_slice.ensures.value ∙ c.into_vec-elements.ensures in
    let begins : is_some (after_self (calls k) a.elements) ≡ false =
    sym (ap (λ (x : Elements StepIn). is_some (after_self (calls k) x)) same)
    ∙ (sym c.begins_with_call.ensures ∙ c.if-begins_with_call.false) in
    let level : c.saturating_sub-precedence.result ≡ precedence c.args.count c.args.number =
    omega (arith, c.saturating_sub-precedence.ensures) in
    let is = c.with_last_at-elements.ensures ∙ (ap
    (λ (p : ℕ). with_last_at k p (in_order (map element_of c.into_vec-elements.result.items))) level
    ∙ ap (with_last_at k (precedence c.args.count c.args.number)) c.into_vec-elements.ensures) in
    primary_added k c.args.count c.args.number a c.args.kinds.now.primaries.items c.push-2.new.self.items
    c.with_last_at-elements.result begins is c.in_ok-push-2.ensures.items
