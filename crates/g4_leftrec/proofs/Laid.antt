-- Rules that can be rewritten can be laid, once they are.
use Rattle.std.proofs.Common.{◌≡◌, ℕ, zero, suc, ◌+◌, List, [], ◌∷◌, Some, length, map, inl, inr, refl, sym, subst, slice_get, arith}
use Rattle.std.specs.List.{All, enumerate_from}
use Rattle.std.proofs.lemmas.Option.{same_Some}
use Rattle.g4_source.specs.Elements.{Alternatives}
use Rattle.g4_source.specs.Blocks.{ParserRuleIsFull, ParserRulesAreFull}
use Rattle.g4_source.specs.Rules.{alternatives_of}
use Rattle.g4_grammar.specs.LeftCalls.{LeftCalls, ReachesBy, one_call, more_calls}
use Rattle.g4_grammar.specs.OwnCalls.{LeftCallsAsRun}
use Rattle.g4_grammar.specs.StepRules.{CallsWithin, CanBeLaid, CanBeRewritten, RuleIsPlain, RuleIsPlainLaid, StepRule, by_number}
use Rattle.g4_grammar.specs.Steps.{CallsRule, ReadsSymbols}
use Rattle.g4_leftrec.specs.Rewriting.{StepIn, formed, rewritten}
use Rattle.g4_leftrec.proofs.Calls.{formed_call}
use Rattle.g4_leftrec.proofs.EmptyLoops.{OneHasLoop, formed_loop, one_loop_back}
use Rattle.g4_leftrec.proofs.EmptyWord.{OneIsEmpty, formed_empty, no_alternative}
use Rattle.g4_leftrec.proofs.Fullness.{formed_full}
use Rattle.g4_leftrec.proofs.LeftCalls.{OneIsLeft, formed_left, one_left_back}
use Rattle.g4_leftrec.proofs.Numbers.{all_formed, at_number, laid_cases}
use Rattle.g4_leftrec.proofs.Plainness.{formed_plain}

-- there are as many rules
as_many : (n : ℕ) (rules : List StepRule) → length (map formed (enumerate_from n rules)) ≡ length rules
as_many n [] = refl
as_many n (rule ∷ rules) = let others = as_many (n + 1) rules in omega (arith, others)

-- each call is of one of the rules
calls_within : (rules : List StepRule) → All (CallsWithin (length rules)) rules
    → All (CallsWithin (length (rewritten rules))) (rewritten rules)
calls_within rules h =
    subst (λ (n : ℕ). All (CallsWithin n) (rewritten rules)) (sym (as_many 1 rules))
    (all_formed (CallsWithin (length rules)) (CallsWithin (length rules)) (λ k rule within j c. within j (formed_call j k rule c)) 1
    rules h)

-- the rule at an index has alternatives in each block
pub full_at : (rules : List StepRule) → ParserRulesAreFull rules → (i : ℕ) (rule : StepRule) → slice_get rules i ≡ Some rule
    → ParserRuleIsFull rule
full_at [] h i rule is = absurd (cc)
full_at (other ∷ rules) h zero rule is = subst ParserRuleIsFull (same_Some other rule is) h.0
full_at (other ∷ rules) h (suc i) rule is = full_at rules h.1 i rule is

-- each rule as it is laid has, where that at each index has
full_from : (n : ℕ) (rules : List StepRule) → ((i : ℕ) (rule : StepRule) → slice_get rules i ≡ Some rule
    → ParserRuleIsFull (formed (n + i, rule))) → ParserRulesAreFull (map formed (enumerate_from n rules))
full_from n [] h = tt
full_from n (rule ∷ rules) h =
    let same : n + 0 ≡ n = omega arith in (
      subst (λ (m : ℕ). ParserRuleIsFull (formed (m, rule))) same (h 0 rule refl),
      full_from (n + 1) rules (λ i other is. let next : n + suc i ≡ n + 1 + i = omega arith in
          subst (λ (m : ℕ). ParserRuleIsFull (formed (m, other))) next (h (suc i) other is)),
    )

module _ (rules : List StepRule) (can : CanBeRewritten rules) where
  -- what derives the empty word as it is laid does so as it is written
  back : (k : ℕ) (ys : Alternatives StepIn) → slice_get (by_number (rewritten rules)) k ≡ Some ys → OneIsEmpty (by_number rules) ys
      → (xs : Alternatives StepIn) × (slice_get (by_number rules) k ≡ Some xs) × OneIsEmpty (by_number rules) xs
  back k ys is h = elim (laid_cases rules k ys is) [
    | inl e ↦ absurd (no_alternative (by_number rules) (subst (OneIsEmpty (by_number rules)) e h))
    | inr laid ↦ (
      alternatives_of laid.rule,
      laid.at,
      formed_empty (by_number rules) k laid.rule (subst (OneIsEmpty (by_number rules)) laid.is h),
    )
  ]

  -- no loop has a body that derives the empty word
  no_loop : (k : ℕ) (ys : Alternatives StepIn) → slice_get (by_number (rewritten rules)) k ≡ Some ys
      → OneHasLoop (by_number (rewritten rules)) ys → ⊥
  no_loop k ys is l =
      let before : OneHasLoop (by_number rules) ys = one_loop_back (by_number rules) (by_number (rewritten rules)) back ys l in
      elim (laid_cases rules k ys is) [
        | inl e ↦ subst (OneHasLoop (by_number rules)) e before
        | inr laid ↦ can.run.loops k (alternatives_of laid.rule) laid.at
            (formed_loop (by_number rules) k laid.rule (can.run.operators k (alternatives_of laid.rule) laid.at)
            (subst (OneHasLoop (by_number rules)) laid.is before))
      ]

  -- a left call is one of the rules as they are run
  call_back : (k j : ℕ) → LeftCalls ReadsSymbols CallsRule (by_number (rewritten rules)) k j
      → LeftCallsAsRun ReadsSymbols CallsRule CallsRule (by_number rules) k j
  call_back k j (ys, is, l) =
      let before : OneIsLeft (by_number rules) ys j = one_left_back (by_number rules) (by_number (rewritten rules)) back j ys l in
      elim (laid_cases rules k ys is) [
        | inl e ↦ absurd (subst (λ (xs : Alternatives StepIn). OneIsLeft (by_number rules) xs j) e before)
        | inr laid ↦ (
          alternatives_of laid.rule,
          laid.at,
          formed_left (by_number rules) j k laid.rule laid.at
              (subst (λ (xs : Alternatives StepIn). OneIsLeft (by_number rules) xs j) laid.is before),
        )
      ]

  -- a chain of left calls
  chain_back : (k j : ℕ) → ReachesBy (LeftCalls ReadsSymbols CallsRule (by_number (rewritten rules))) k j
      → ReachesBy (LeftCallsAsRun ReadsSymbols CallsRule CallsRule (by_number rules)) k j
  chain_back k _ (one_call j c) = one_call j (call_back k j c)
  chain_back k _ (more_calls i j h c) = more_calls i j (chain_back k i h) (call_back i j c)

  -- each block has an alternative
  all_full : ParserRulesAreFull (rewritten rules)
  all_full = full_from 1 rules (λ i rule is. formed_full (1 + i) rule
      (can.run.primaries (1 + i) (alternatives_of rule) (at_number rules i rule is)) (full_at rules can.full i rule is))

  -- the rewritten rules can be laid
  pub rewritten_can_be_laid : CanBeLaid (rewritten rules)
  rewritten_can_be_laid = record {
    plain = all_formed RuleIsPlain RuleIsPlainLaid formed_plain 1 rules can.plain;
    full = all_full;
    within = calls_within rules can.within;
    loops = no_loop;
    cycles = λ k r. can.run.cycles k (chain_back k k r);
  }
