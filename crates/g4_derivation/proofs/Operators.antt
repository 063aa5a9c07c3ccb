-- At a level of a rule one of the rule's operators begins.
use Rattle.std.proofs.Common.{◌≡◌, ℕ, ◌+◌, ◌-◌, ◌<◌, ◌≤◌, inl, inr, List, Some, length, sym, ◌∙◌, ap, subst, arith}
use Rattle.std.proofs.lemmas.Option.{slice_get_within}
use Rattle.g4_source.specs.Elements.{atom, Elements, then, either}
use Rattle.g4_grammar.specs.declared.step.Numbering.{Numbering}
use Rattle.g4_grammar.specs.declared.step.Step.TheVariants.{Call}
use Rattle.g4_net.specs.declared.network.State.TheVariants.{Decision, End, Level}
use Rattle.g4_net.specs.Network.{ParserNetwork, state_at, start_of, end_of, written_at}
use Rattle.g4_layout.specs.Numbers.{IsNumbered, number_by}
use Rattle.g4_leftrec.specs.OwnCalls.{operators}
use Rattle.g4_leftrec.specs.OwnSteps.{calls}
use Rattle.g4_leftrec.specs.Rewriting.{StepIn, Written, operand_level, precedence}
use Rattle.g4_derivation.specs.Alternatives.{IsAlternative, IsNoLevel}
use Rattle.g4_derivation.specs.WalkSpelling.{IsSpelled}
use Rattle.g4_derivation.proofs.Items.{operator_item, begins_with_call}
use Rattle.g4_derivation.proofs.KnownStarts.{StartsAreKnown, alternative_by_number, written_bodies}
use Rattle.g4_derivation.proofs.LastCall.{with_last_alike}
use Rattle.g4_derivation.proofs.RuleEdges.{not_at_start}
use Rattle.g4_derivation.proofs.RuleTargets.{IsDecided}
use Rattle.g4_derivation.proofs.Spelling.{turns_near, spelled}
use Rattle.g4_derivation.proofs.Turning.{IsOperatorState, shape_start_free, shape_states}

module _ {C : Type 0} (Takes : List ℕ → C → Type 0) (Names : ℕ → C → Type 0) (net : ParserNetwork) (k : ℕ)
    (end_is : state_at net (end_of k) ≡ Some (End k)) (n m : ℕ) (low : start_of k < n) (alternatives : List Written) (numbering : Numbering)
    (numbered : IsNumbered net k numbering n m) (count : numbering.count ≡ length alternatives)
    (known : StartsAreKnown net k n m alternatives numbering.starts) where
  -- An operator of the rule begins at the state, and is passed by the level there: its number is written at the level, and the words
  -- of what follows the rule itself are read from t to the rule's end.
  pub record IsOperatorAt (p t : ℕ) : Type 0 where
    pub number : ℕ
    pub level : ℕ
    pub rest : Elements StepIn
    pub is : IsAlternative (either (written_bodies alternatives)) number (then (atom (Call k level)) rest)
    pub shown : written_at net p ≡ number
    pub spells : IsSpelled Takes Names net k rest t
    pub free : IsNoLevel net t

  -- no alternative starts at a level
  level_apart : (p q t : ℕ) → state_at net p ≡ Some (Level q t) → IsDecided net (start_of k) p → ⊥
  level_apart p q t level (targets, is, c) = (shape_start_free net k end_is known.shape known.free).1 p (Decision targets) is c q t level

  -- the number that is written at a level
  number_at : (p i t : ℕ) → n ≤ p → p < m → 1 ≤ i → i ≤ length alternatives
      → state_at net p ≡ Some (Level (precedence (length alternatives) i) t) → written_at net p ≡ i
  number_at p i t from below positive within level =
      let w = numbered.others p from below (not_at_start net k p numbering.starts (λ same. omega arith)
      (λ two d. level_apart p (precedence (length alternatives) i) t level d)) in
      let by_level : written_at net p ≡ numbering.count + 1 - precedence (length alternatives) i =
      w ∙ ap (number_by numbering.count) level in
      let back : numbering.count + 1 - precedence (length alternatives) i ≡ i = omega (arith, count) in
      by_level ∙ back

  -- a level and the state after it
  same_level : (p q t r u : ℕ) → state_at net p ≡ Some (Level q t) → state_at net p ≡ Some (Level r u) → t ≡ u
  same_level p q t r u a b = cc

  -- the operator that begins at a level
  at_operator : (p q t : ℕ) → n ≤ p → p < m → state_at net p ≡ Some (Level q t)
      → IsOperatorState net k end_is (length alternatives) n m (operators (calls k) alternatives) p → IsOperatorAt p t
  at_operator p q t from below level o =
      let b = o.begins in
      let a = operator_item k alternatives b.index b.part b.at in
      let call = begins_with_call k a.1.elements b.part.elements a.4 in
      let after : t ≡ p + 1 = same_level p q t (precedence (length alternatives) b.part.number) (p + 1) level b.level in
      let place : a.0 < length alternatives = slice_get_within alternatives a.0 a.1 a.2 in
      let number = a.3 in record {
        number = b.part.number;
        level = call.0;
        rest = b.part.elements;
        is = alternative_by_number alternatives a.0 a.1 (then (atom (Call k call.0)) b.part.elements) b.part.number a.2 (sym call.1) number;
        shown = number_at p b.part.number (p + 1) from below (omega arith) (omega arith) b.level;
        spells = subst (IsSpelled Takes Names net k b.part.elements) (sym after)
            (spelled Takes Names net k (with_last_alike k
            (operand_level (precedence (length alternatives) b.part.number) b.part.right) b.part.elements) b.lies
            (turns_near Takes Names net k end_is (length alternatives) (operators (calls k) alternatives) o.lies));
        free = subst (IsNoLevel net) (sym after) o.free;
      }

  -- at a level an operator begins
  pub operator_begun : (p q t : ℕ) → n ≤ p → p < m → state_at net p ≡ Some (Level q t) → IsOperatorAt p t
  operator_begun p q t from below level = elim
      (shape_states net k end_is (length alternatives) n m (operators (calls k) alternatives) known.shape known.free p from below).level [
        | inl none ↦ absurd (none q t level)
        | inr o ↦ at_operator p q t from below level o
      ]
