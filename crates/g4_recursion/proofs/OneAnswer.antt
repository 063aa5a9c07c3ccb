-- One fault of rules is reported, and none where they have none.
use Rattle.std.proofs.Common.{◌≡◌, ℕ, List, [], ◌∷◌, map, Some, refl, sym, ap, ◌∙◌, subst, arith}
use Rattle.std.specs.List.{slice_get}
use Rattle.std.proofs.lemmas.Option.{same_Some}
use Rattle.g4_source.specs.declared.rule.Rule.{Rule}
use Rattle.g4_source.specs.Rules.{rule_name}
use Rattle.g4_grammar.specs.Written.{HaveNoEmptyLoop, HaveNoLeftCycle, RuleLeftCalls}
use Rattle.g4_cycles.proofs.OneCycle.{one_first_cycle, reaches_first}
use Rattle.g4_recursion.specs.Checking.{AreCycle, HasEmptyLoop, HasEmptyOperator, HaveNoFault, IsEmptyOperator, IsFault, IsFirstOperator, IsFirstRule, IsNamed, LacksPrimary}
use Rattle.g4_recursion.specs.Least.{IsLeast}
use Rattle.g4_recursion.specs.declared.checking.RecursionFault.{RecursionFault}
use Rattle.g4_recursion.specs.declared.checking.RecursionFault.TheVariants.{NoPrimary, EmptyOperator, EmptyLoop, LeftCycle}
use Rattle.g4_recursion.proofs.Bridge.{reaches_left}

-- the least number with a property is one
one_least : (P : ℕ → Type 0) (j k : ℕ) → IsLeast P j → IsLeast P k → j ≡ k
one_least P j k f g = omega (arith, f.1 k g.0, g.1 j f.0)

-- texts that are each there are one list
same_texts : (xs ys : List (List ℕ)) → map (λ name. Some name) xs ≡ map (λ name. Some name) ys → xs ≡ ys
same_texts [] [] e = refl
same_texts [] (y ∷ ys) e = cc
same_texts (x ∷ xs) [] e = cc
same_texts (x ∷ xs) (y ∷ ys) e =
    let rest : map (λ name. Some name) xs ≡ map (λ name. Some name) ys = cc in
    let one : x ≡ y = cc in
    let more = same_texts xs ys rest in cc

module _ (rules : List Rule) where
  -- a rule has one name
  one_name : (j k : ℕ) (name other : List ℕ) → j ≡ k → IsNamed rules j name → IsNamed rules k other → name ≡ other
  one_name j k name other same f g = same_Some name other (sym f ∙ (ap (slice_get (map rule_name rules)) same ∙ g))

  -- the name of the first rule with a property is one
  one_rule : (P : ℕ → Type 0) (name other : List ℕ) → IsFirstRule rules P name → IsFirstRule rules P other → name ≡ other
  one_rule P name other (j, least, named) (k, least', named') = one_name j k name other (one_least P j k least least') named named'

  -- the first empty operator is one
  one_operator : (name other : List ℕ) (i i' : ℕ) → IsFirstOperator rules name i → IsFirstOperator rules other i'
      → (name ≡ other) × (i ≡ i')
  one_operator name other i i' (j, least, place, named) (k, least', place', named') =
      let same : j ≡ k = one_least (HasEmptyOperator rules) j k least least' in (
        one_name j k name other same named named',
        one_least (IsEmptyOperator rules k) i i' (subst (λ (n : ℕ). IsLeast (IsEmptyOperator rules n) i) same place) place',
      )

  -- the names of the first cycle are one list
  one_cycle : (names others : List (List ℕ)) → AreCycle rules names → AreCycle rules others → names ≡ others
  one_cycle names others (cycle, first, named) (cycle', first', named') =
      let same : cycle ≡ cycle' = one_first_cycle (RuleLeftCalls rules) cycle cycle' first first' in
      same_texts names others (sym named ∙ (ap (map (slice_get (map rule_name rules))) same ∙ named'))

  -- where no rule reaches itself, there is no cycle
  no_cycle : (names : List (List ℕ)) → HaveNoLeftCycle rules → AreCycle rules names → ⊥
  no_cycle names none (cycle, first, named) = none first.first
      (reaches_left rules first.first first.first
      (reaches_first (RuleLeftCalls rules) first.first cycle first.shortest.begins first.shortest.is_cycle))

  -- no rule has the property, or one is the first
  not_first : (P : ℕ → Type 0) (name : List ℕ) → ((k : ℕ) → P k → ⊥) → IsFirstRule rules P name → ⊥
  not_first P name none (k, least, named) = none k least.0

  -- no rule has an empty operator, or one is the first
  not_operator : (name : List ℕ) (i : ℕ) → ((k : ℕ) → HasEmptyOperator rules k → ⊥) → IsFirstOperator rules name i → ⊥
  not_operator name i none (k, least, place, named) = none k least.0

  -- no rule has a loop that can be empty, or one is the first
  not_loop : (name : List ℕ) → HaveNoEmptyLoop rules → IsFirstRule rules (HasEmptyLoop rules) name → ⊥
  not_loop name none (k, least, named) = let (body, at, loop) = least.0 in none k body at loop

  -- one fault is reported
  pub one_fault : (f g : RecursionFault) → IsFault rules f → IsFault rules g → f ≡ g
  one_fault (NoPrimary name) (NoPrimary other) h k = ap NoPrimary (one_rule (LacksPrimary rules) name other h k)
  one_fault (NoPrimary name) (EmptyOperator other i) h k = absurd (not_first (LacksPrimary rules) name k.0 h)
  one_fault (NoPrimary name) (EmptyLoop other) h k = absurd (not_first (LacksPrimary rules) name k.0.0 h)
  one_fault (NoPrimary name) (LeftCycle others) h k = absurd (not_first (LacksPrimary rules) name k.0.0.0 h)
  one_fault (EmptyOperator name i) (NoPrimary other) h k = absurd (not_first (LacksPrimary rules) other h.0 k)
  one_fault (EmptyOperator name i) (EmptyOperator other j) h k = let (same, place) = one_operator name other i j h.1 k.1 in cc
  one_fault (EmptyOperator name i) (EmptyLoop other) h k = absurd (not_operator name i k.0.1 h.1)
  one_fault (EmptyOperator name i) (LeftCycle others) h k = absurd (not_operator name i k.0.0.1 h.1)
  one_fault (EmptyLoop name) (NoPrimary other) h k = absurd (not_first (LacksPrimary rules) other h.0.0 k)
  one_fault (EmptyLoop name) (EmptyOperator other j) h k = absurd (not_operator other j h.0.1 k.1)
  one_fault (EmptyLoop name) (EmptyLoop other) h k = ap EmptyLoop (one_rule (HasEmptyLoop rules) name other h.1 k.1)
  one_fault (EmptyLoop name) (LeftCycle others) h k = absurd (not_loop name k.0.1 h.1)
  one_fault (LeftCycle names) (NoPrimary other) h k = absurd (not_first (LacksPrimary rules) other h.0.0.0 k)
  one_fault (LeftCycle names) (EmptyOperator other j) h k = absurd (not_operator other j h.0.0.1 k.1)
  one_fault (LeftCycle names) (EmptyLoop other) h k = absurd (not_loop other h.0.1 k.1)
  one_fault (LeftCycle names) (LeftCycle others) h k = ap LeftCycle (one_cycle names others h.1 k.1)

  -- and none where there is none
  pub no_fault : (f : RecursionFault) → HaveNoFault rules → IsFault rules f → ⊥
  no_fault (NoPrimary name) h k = not_first (LacksPrimary rules) name h.0.0.0 k
  no_fault (EmptyOperator name i) h k = not_operator name i h.0.0.1 k.1
  no_fault (EmptyLoop name) h k = not_loop name h.0.1 k.1
  no_fault (LeftCycle names) h k = no_cycle names h.1 k.1
