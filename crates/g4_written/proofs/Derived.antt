-- Rules derive as they are written what they derive as they are laid.
use Rattle.std.proofs.Common.{◌≡◌, ◌↔◌, ℕ, zero, suc, List, Some, inl, inr, refl, sym, ◌∙◌, subst, slice_get}
use Rattle.std.proofs.lemmas.Option.{none-some, same_Some}
use Rattle.g4_source.specs.Elements.{Alternatives, none}
use Rattle.g4_source.specs.Rules.{alternatives_of}
use Rattle.g4_grammar.specs.StepRules.{StepRule}
use Rattle.g4_grammar.specs.Steps.{CallsRule, ReadsSymbols, added_rule}
use Rattle.g4_derivation.specs.Spelling.{DerivesFrom}
use Rattle.g4_layout.specs.Rules.{rule_number}
use Rattle.g4_leftrec.specs.Rewriting.{StepIn, formed, rewritten}
use Rattle.g4_written.specs.Written.{RuleDerives}
use Rattle.g4_written.proofs.Carried.{one_on}
use Rattle.g4_written.proofs.Laid.{laid_written, written_laid}
use Rattle.g4_written.proofs.Numbered.{at_number, laid_rules, same_number, written_rules}
use Rattle.g4_written.proofs.Parts.{ByEither}

module _ (first : Alternatives StepIn) (rules : List StepRule) where
  -- what the first rules have, and the others: each of `others` derives what the rule of `some` of the same number does
  abbrev AreCarried : List (Alternatives StepIn) → List (Alternatives StepIn) → Type 0
  AreCarried some others = (k : ℕ) (xs : Alternatives StepIn) → slice_get some k ≡ Some xs → (ys : Alternatives StepIn)
      × (slice_get others k ≡ Some ys) × ((w : List ℕ) → ByEither others xs w → ByEither others ys w)

  -- from the rules as they are written to the same as they are laid
  carried_on : AreCarried (written_rules first rules) (laid_rules first rules)
  carried_on zero xs is = (
    first,
    refl,
    λ w d. subst (λ (zs : Alternatives StepIn). ByEither (laid_rules first rules) zs w)
        (sym (same_Some first xs is)) d,
  )
  carried_on (suc i) xs is = elim (at_number first i rules) [
    | inl missing ↦ absurd (none-some xs (sym missing.0 ∙ is))
    | inr found ↦ (
      alternatives_of (formed (suc i, found.rule)),
      found.as_laid,
      λ w d. written_laid (laid_rules first rules) (suc i) found.rule found.as_laid w
          (subst (λ (zs : Alternatives StepIn). ByEither (laid_rules first rules) zs w)
          (same_Some xs (alternatives_of found.rule) (sym is ∙ found.as_written)) d),
    )
  ]

  -- and back
  carried_back : AreCarried (laid_rules first rules) (written_rules first rules)
  carried_back zero xs is = (
    first,
    refl,
    λ w d. subst (λ (zs : Alternatives StepIn). ByEither (written_rules first rules) zs w)
        (sym (same_Some first xs is)) d,
  )
  carried_back (suc i) xs is = elim (at_number first i rules) [
    | inl missing ↦ absurd (none-some xs (sym missing.1 ∙ is))
    | inr found ↦ (
      alternatives_of found.rule,
      found.as_written,
      λ w d. laid_written (written_rules first rules) (suc i) found.rule found.as_written w
          (subst (λ (zs : Alternatives StepIn). ByEither (written_rules first rules) zs w)
          (same_Some xs (alternatives_of (formed (suc i, found.rule))) (sym is ∙ found.as_laid)) d),
    )
  ]

  -- any alternatives derive the same words by both
  pub either_on : (xs : Alternatives StepIn) (w : List ℕ) → ByEither (written_rules first rules) xs w
      → ByEither (laid_rules first rules) xs w
  either_on xs w d = one_on ReadsSymbols CallsRule (written_rules first rules) (laid_rules first rules) carried_on d

  pub either_back : (xs : Alternatives StepIn) (w : List ℕ) → ByEither (laid_rules first rules) xs w
      → ByEither (written_rules first rules) xs w
  either_back xs w d = one_on ReadsSymbols CallsRule (laid_rules first rules) (written_rules first rules) carried_back d

-- each rule derives the same words
pub rule_derives : (rules : List StepRule) (k : ℕ) (word : List ℕ) → RuleDerives rules k word ↔ RuleDerives (rewritten rules) k word
rule_derives rules k word = (
  λ d. let found = carried_on none rules k d.0 d.1 in (found.0, found.1, found.2 word (either_on none rules d.0 word d.2)),
  λ d. let found = carried_back none rules k d.0 d.1 in (found.0, found.1, found.2 word (either_back none rules d.0 word d.2)),
)

-- the added rule derives the same words
pub added_derives : (set : List ℕ) (rules : List StepRule) (start word : List ℕ) → DerivesFrom set rules start word
    ↔ DerivesFrom set (rewritten rules) start word
added_derives set rules start word =
    let same = same_number rules start in
    let Over : ℕ → Type 0 = λ n. ByEither (laid_rules (added_rule set n) rules) (added_rule set n) word in
    let first = added_rule set (rule_number rules start) in (
      λ d. subst Over (sym same) (either_on first rules first word d),
      λ d. either_back first rules first word (subst Over same d),
    )
