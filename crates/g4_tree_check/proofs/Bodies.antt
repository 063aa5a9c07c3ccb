-- The alternatives of rules by their numbers.
use Rattle.std.proofs.Common.{◌≡◌, ℕ, List, Some, sym, ap, ◌∙◌, arith}
use Rattle.std.specs.List.{slice_get}
use Rattle.std.specs.Option.{option_map}
use Rattle.std.proofs.lemmas.Option.{same_Some, slice_get-map}
use Rattle.g4_source.specs.Elements.{Elements}
use Rattle.g4_source.specs.Rules.{bodies_of}
use Rattle.g4_source.specs.declared.rule.RuleAlternative.{RuleAlternative}
use Rattle.g4_grammar.specs.declared.step.Step.{Step}
use Rattle.g4_grammar.specs.StepRules.{StepRule}
use Rattle.g4_tree_check.specs.TreesOf.{IsBody}

-- an alternative that is looked up
pub body_at : (r : StepRule) (i : ℕ) (a : RuleAlternative (Step (List ℕ))) → slice_get r.alternatives i ≡ Some a
    → slice_get (bodies_of r) i ≡ Some a.elements
body_at r i a at = slice_get-map (λ (b : RuleAlternative (Step (List ℕ))). b.elements) r.alternatives i
    ∙ ap (option_map (λ (b : RuleAlternative (Step (List ℕ))). b.elements)) at

-- there is one alternative of these numbers at most
pub one_body : (rules : List StepRule) (rule alt : ℕ) (x y : Elements (Step (List ℕ))) → IsBody rules rule alt x
    → IsBody rules rule alt y → x ≡ y
one_body rules rule alt x y (k, i, r, rule_is, alt_is, at, body) (l, j, s, rule_same, alt_same, there, other) =
    let same_rule : l ≡ k = omega arith in
    let same_alt : j ≡ i = omega arith in
    let found : slice_get rules k ≡ Some s = ap (slice_get rules) (sym same_rule) ∙ there in
    let s_is_r : r ≡ s = same_Some r s (sym at ∙ found) in
    same_Some x y (sym body ∙ ap (λ (t : StepRule). slice_get (bodies_of t) i) s_is_r ∙ ap (slice_get (bodies_of s)) (sym same_alt) ∙ other)
