-- The numberings of rewritten rules fit them.
use Rattle.std.proofs.Common.{◌≡◌, ◌<◌, ◌^◌, ℕ, zero, suc, ◌+◌, List, [], ◌∷◌, Some, length, map, inl, inr, refl, sym, ◌∙◌, subst, slice_get, arith}
use Rattle.std.specs.List.{All, enumerate_from}
use Rattle.std.proofs.lemmas.Bool.{cases_Bool}
use Rattle.std.proofs.lemmas.List.{length-map}
use Rattle.std.proofs.lemmas.List.Elements.{All-head, All-tail}
use Rattle.std.proofs.lemmas.Option.{same_Some}
use Rattle.g4_source.specs.Full.{IsSome}
use Rattle.g4_source.specs.Elements.{Elements, only, either}
use Rattle.g4_source.specs.Blocks.{ParserRuleIsFull}
use Rattle.g4_source.specs.Rules.{alternatives_of}
use Rattle.g4_grammar.specs.declared.step.Numbering.{Numbering}
use Rattle.g4_grammar.specs.OwnCalls.{LacksPrimary}
use Rattle.g4_grammar.specs.StepRules.{CanBeRewritten, StepRule}
use Rattle.g4_grammar.specs.Steps.{CallsRule}
use Rattle.g4_layout.specs.Decisions.{number_of}
use Rattle.g4_layout.specs.Numbers.{CanStartWith, NumberingsFit, StartsFit}
use Rattle.g4_leftrec.specs.OwnCalls.{Part, is_left_recursive, primaries}
use Rattle.g4_leftrec.specs.OwnSteps.{calls}
use Rattle.g4_leftrec.specs.Rewriting.{StepIn, Written, after_primary, formed, numbering_of, numberings, operator_forms, primary_form, rewritten, turns_of}
use Rattle.g4_leftrec.proofs.Fullness.{some_primary}
use Rattle.g4_leftrec.proofs.Laid.{full_at}
use Rattle.g4_leftrec.proofs.Numbers.{at_number}
use Rattle.g4_leftrec.proofs.Sources.{bodies}

-- a number is small enough to be that of an alternative
abbrev pub IsSmall : Numbering → Type 0
IsSmall numbering = numbering.count + 1 < 2 ^ 32

-- as many alternatives as elements
number_either : {A : Type 0} (xs : List (Elements A)) → number_of (either xs) ≡ length xs
number_either [] = refl
number_either (x ∷ xs) = let others = number_either xs in omega (arith, others)

-- as many numbers as items
number_list : {X : Type 0} (n : ℕ) (xs : List X) → length (map (λ x. x.0) (enumerate_from n xs)) ≡ length xs
number_list n [] = refl
number_list n (x ∷ xs) = let others = number_list (n + 1) xs in omega (arith, others)

-- a rule that stays as it is written
written_start : (xs : List Written) → (xs ≡ [] → ⊥) → CanStartWith (bodies xs) (map (λ x. x.0) (enumerate_from 1 xs))
written_start [] some = absurd (some refl)
written_start (a ∷ []) some = tt
written_start (a ∷ b ∷ xs) some =
    inl (number_either (map (λ (x : Written). x.elements) (a ∷ b ∷ xs))
    ∙ (length-map (a ∷ b ∷ xs) (λ (x : Written). x.elements) ∙ sym (number_list 1 (a ∷ b ∷ xs))))

-- primaries and then these
loop_start : (f : Part StepIn → Elements StepIn) (ps : List (Part StepIn)) (more : Elements StepIn) → (ps ≡ [] → ⊥)
    → CanStartWith (only (after_primary (map f ps) more)) (map (λ x. x.number) ps)
loop_start f [] more some = absurd (some refl)
loop_start f (p ∷ []) more some = tt
loop_start f (p ∷ q ∷ ps) more some = inr (number_either (map f (p ∷ q ∷ ps))
    ∙ (length-map (p ∷ q ∷ ps) f ∙ sym (length-map (p ∷ q ∷ ps) (λ (x : Part StepIn). x.number))))

-- a rule has an alternative
some_written : (xs : List Written) → IsSome (bodies xs) → xs ≡ [] → ⊥
some_written [] h e = h
some_written (a ∷ xs) h e = cc

-- a rule as it is laid starts as its numbering says
formed_start : (k : ℕ) (rule : StepRule) → (LacksPrimary CallsRule k (alternatives_of rule) → ⊥) → ParserRuleIsFull rule
    → CanStartWith (alternatives_of (formed (k, rule))) (numbering_of (k, rule)).starts
formed_start k rule primed full = elim (cases_Bool (is_left_recursive (calls k) rule.alternatives)) [
  | inl recursive ↦ rw recursive (loop_start (primary_form k (length rule.alternatives)) (primaries (calls k) rule.alternatives)
      (turns_of (operator_forms k rule.alternatives)) (some_primary k rule.alternatives recursive primed full.1))
  | inr plain ↦ rw plain (written_start rule.alternatives (some_written rule.alternatives full.0))
]

-- the count of the rule at an index
small_at : (n : ℕ) (rules : List StepRule) → All IsSmall (map numbering_of (enumerate_from n rules)) → (i : ℕ) (rule : StepRule)
    → slice_get rules i ≡ Some rule → length rule.alternatives + 1 < 2 ^ 32
small_at n [] h i rule is = absurd (cc)
small_at n (other ∷ rules) h zero rule is =
    subst (λ (r : StepRule). length r.alternatives + 1 < 2 ^ 32) (same_Some other rule is)
    (All-head IsSmall (numbering_of (n, other)) (map numbering_of (enumerate_from (n + 1) rules)) h)
small_at n (other ∷ rules) h (suc i) rule is =
    small_at (n + 1) rules (All-tail IsSmall (numbering_of (n, other)) (map numbering_of (enumerate_from (n + 1) rules)) h) i rule is

-- each numbering fits, where that at each index does
fit_from : (n : ℕ) (rules : List StepRule) → ((i : ℕ) (rule : StepRule) → slice_get rules i ≡ Some rule
    → StartsFit (alternatives_of (formed (n + i, rule))) (numbering_of (n + i, rule))) →
    NumberingsFit (map alternatives_of (map formed (enumerate_from n rules))) (map numbering_of (enumerate_from n rules))
fit_from n [] h = tt
fit_from n (rule ∷ rules) h =
    let same : n + 0 ≡ n = omega arith in (
      subst (λ (m : ℕ). StartsFit (alternatives_of (formed (m, rule))) (numbering_of (m, rule))) same (h 0 rule refl),
      fit_from (n + 1) rules (λ i other is. let next : n + suc i ≡ n + 1 + i = omega arith in
          subst (λ (m : ℕ). StartsFit (alternatives_of (formed (m, other))) (numbering_of (m, other))) next (h (suc i) other is)),
    )

-- the numberings fit the rewritten rules, where their counts are small
pub numberings_fit : (rules : List StepRule) → CanBeRewritten rules → All IsSmall (numberings rules)
    → NumberingsFit (map alternatives_of (rewritten rules)) (numberings rules)
numberings_fit rules can small = fit_from 1 rules (λ i rule is. (
  formed_start (1 + i) rule (can.run.primaries (1 + i) (alternatives_of rule) (at_number rules i rule is))
      (full_at rules can.full i rule is),
  small_at 1 rules small i rule is,
))

-- the same of lists that they are
pub made_fit : (rules made : List StepRule) (numbers : List Numbering) → CanBeRewritten rules → made ≡ rewritten rules
    → numbers ≡ numberings rules → All IsSmall numbers → NumberingsFit (map alternatives_of made) numbers
made_fit rules made numbers can is are small =
    let both : NumberingsFit (map alternatives_of (rewritten rules)) (numberings rules) =
    numberings_fit rules can (subst (All IsSmall) are small) in
    subst (λ (xs : List StepRule). NumberingsFit (map alternatives_of xs) numbers) (sym is)
    (subst (λ (ns : List Numbering). NumberingsFit (map alternatives_of (rewritten rules)) ns) (sym are) both)
