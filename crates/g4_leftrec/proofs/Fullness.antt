-- Blocks of rules as they are laid have alternatives.
use Rattle.std.proofs.Common.{◌≡◌, ◌<◌, ℕ, List, [], ◌∷◌, true, Some, length, map, inl, inr, refl, sym, ap, subst, arith}
use Rattle.g4_source.specs.Full.{AreFull, EachIsFull, IsSome}
use Rattle.g4_source.specs.Elements.{atom, block, Elements, empty, then, Alternatives, only, either}
use Rattle.g4_source.specs.Marks.{onto}
use Rattle.g4_source.specs.Blocks.{ParserRuleIsFull}
use Rattle.g4_source.specs.Rules.{alternatives_of}
use Rattle.g4_grammar.specs.declared.step.Step.TheVariants.{Level, Empty}
use Rattle.g4_grammar.specs.OwnCalls.{LacksPrimary}
use Rattle.g4_grammar.specs.StepRules.{StepRule}
use Rattle.g4_grammar.specs.Steps.{CallsRule}
use Rattle.g4_leftrec.specs.OwnCalls.{Part, after_self, is_left_recursive, operators, primaries}
use Rattle.g4_leftrec.specs.OwnSteps.{calls}
use Rattle.g4_leftrec.specs.Rewriting.{StepIn, Written, after_primary, formed, loop_of, operator_form, operator_forms, primary_form, primary_forms, turns_of}
use Rattle.g4_leftrec.proofs.Among.{each_full, full_one}
use Rattle.g4_leftrec.proofs.OtherLevel.{DiffersInLevel, nowhere, here, later}
use Rattle.g4_leftrec.proofs.Parts.{operators_recursive}
use Rattle.g4_leftrec.proofs.Sources.{IsOperatorOf, IsPrimaryOf, bodies, formed_cases, lacks_primary, operator_here, operator_source, primary_source}

-- elements with a call at another level
differing_full : {k : ℕ} {xs ys : Elements StepIn} → DiffersInLevel k xs ys → AreFull xs → AreFull ys
differing_full (nowhere xs) h = h
differing_full (here p q xs) h = h
differing_full (later x xs ys d) h = (h.0, differing_full d h.1)

-- elements in two parts
onto_full : (xs ys : Elements StepIn) → AreFull xs → AreFull ys → AreFull (onto xs ys)
onto_full empty ys h hs = hs
onto_full (then x xs) ys h hs = (h.0, onto_full xs ys h.1 hs)

-- one of the primaries, and then these
primary_full : (primaries : List (Elements StepIn)) (more : Elements StepIn) → IsSome (either primaries)
    → EachIsFull (either primaries) → AreFull more → AreFull (after_primary primaries more)
primary_full [] more some each h = absurd some
primary_full (x ∷ []) more some each h = onto_full x (then (atom Empty) more) each.0 (tt, h)
primary_full (x ∷ y ∷ others) more some each h = ((some, each), h)

-- what follows the rule itself in an alternative
operator_full : (k : ℕ) (x rest : Elements StepIn) → after_self (calls k) x ≡ Some rest → AreFull x → AreFull rest
operator_full k empty rest h f = absurd (cc)
operator_full k (then (atom a) xs) rest h f = let operator = operator_here k (then (atom a) xs) rest h in subst AreFull (sym operator.1) f.1
operator_full k (then (block label repeat ys) xs) rest h f = absurd (operator_here k (then (block label repeat ys) xs) rest h)

-- there is one of what is made of several
some_made : (f : Part StepIn → Elements StepIn) (xs : List (Part StepIn)) → (xs ≡ [] → ⊥) → IsSome (either (map f xs))
some_made f [] h = absurd (h refl)
some_made f (x ∷ xs) h = tt

module _ (k : ℕ) (xs : List Written) (recursive : is_left_recursive (calls k) xs ≡ true)
    (primed : LacksPrimary CallsRule k (bodies xs) → ⊥) (full : EachIsFull (bodies xs)) where
  -- each block of a primary has an alternative
  in_primary : (y : Elements StepIn) → IsPrimaryOf k (bodies xs) y → AreFull y
  in_primary y source = differing_full source.differs (full_one (bodies xs) source.written full source.among)

  -- each block of an operator
  in_operator : (y : Elements StepIn) → IsOperatorOf k (bodies xs) y → AreFull y
  in_operator y source =
      let rest : AreFull source.rest = operator_full k source.written source.rest source.begins
      (full_one (bodies xs) source.written full source.among) in
      let changed : AreFull (then (atom (Level source.level)) source.changed) = (tt, differing_full source.differs rest) in
      subst AreFull (sym source.is) changed

  -- there is a primary
  pub some_primary : primaries (calls k) xs ≡ [] → ⊥
  some_primary e = primed (lacks_primary k xs recursive e)

  -- there is an operator
  some_operator : operators (calls k) xs ≡ [] → ⊥
  some_operator e = let many : 0 < length (operators (calls k) xs) = (operators_recursive (calls k) xs).0 recursive in
      let none : length (operators (calls k) xs) ≡ 0 = ap length e in absurd (omega (arith, many, none))

  -- each block of the turns
  turns_full : AreFull (turns_of (operator_forms k xs))
  turns_full = (
    (
      some_made (operator_form k (length xs)) (operators (calls k) xs) some_operator,
      each_full (either (operator_forms k xs)) (λ y among. in_operator y (operator_source k xs y among)),
    ),
    tt,
  )

  -- each block of the whole loop
  loop_full : AreFull (loop_of k xs)
  loop_full =
      primary_full (primary_forms k xs) (turns_of (operator_forms k xs))
      (some_made (primary_form k (length xs)) (primaries (calls k) xs) some_primary)
      (each_full (either (primary_forms k xs)) (λ y among. in_primary y (primary_source k xs y among))) turns_full

-- a rule that has a primary where it has an operator
pub formed_full : (k : ℕ) (rule : StepRule) → (LacksPrimary CallsRule k (alternatives_of rule) → ⊥) → ParserRuleIsFull rule
    → ParserRuleIsFull (formed (k, rule))
formed_full k rule primed full = elim (formed_cases k rule) [
  | inl plain ↦ subst (λ (ys : Alternatives StepIn). IsSome ys × EachIsFull ys) (sym plain.1) full
  | inr looped ↦ let all : IsSome (only (loop_of k rule.alternatives)) × EachIsFull (only (loop_of k rule.alternatives)) =
      (tt, (loop_full k rule.alternatives looped.0 primed full.1, tt)) in
      subst (λ (ys : Alternatives StepIn). IsSome ys × EachIsFull ys) (sym looped.1) all
]
