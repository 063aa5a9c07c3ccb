-- Two networks of the same states whose rules have the same numberings have the same numbers written.
use Rattle.std.proofs.Common.{◌≡◌, ℕ, zero, suc, ◌+◌, ◌*◌, ◌<◌, ◌≤◌, ◌⊎◌, inl, inr, List, [], ◌∷◌, length, map, Option, Some, sym, ◌∙◌, ap, subst, arith, slice_get}
use native.Mathlib.Decide.{dec_lt}
use Rattle.g4_source.specs.Elements.{Alternatives}
use Rattle.g4_grammar.specs.declared.step.Numbering.{Numbering}
use Rattle.g4_grammar.specs.declared.step.Step.{Step}
use Rattle.g4_net.specs.declared.network.Network.{Network}
use Rattle.g4_net.specs.declared.network.State.{State}
use Rattle.g4_net.specs.declared.network.State.TheVariants.{Decision}
use Rattle.g4_net.specs.Network.{state_at, start_of, end_of, written_at, IsFirst}
use Rattle.g4_net.proofs.Pigeons.{In}
use Rattle.g4_layout.specs.Layout as lay
use Rattle.g4_layout.specs.Layout.{RulesLie}
use Rattle.g4_layout.specs.Numbers.{StartsAreWritten, StartsAt, number_by, IsNumbered, AreNumbered}
use Rattle.g4_layout.proofs.Agreement.{same_or_not, in_or_not}
use Rattle.g4_layout.proofs.Sizes.{rule_size}

-- a number that is at a place is among the numbers
listed_in : (ps : List ℕ) (k p : ℕ) → slice_get ps k ≡ Some p → In p ps
listed_in [] k p e = absurd (let n : ⊥ = cc in n)
listed_in (q ∷ ps) zero p e = inl cc
listed_in (q ∷ ps) (suc k) p e = inr (listed_in ps k p e)

-- a state has the edges of one decision
same_targets : {L : Type 0} (o : Option (State L)) (xs ys : List ℕ) → o ≡ Some (Decision xs) → o ≡ Some (Decision ys) → xs ≡ ys
same_targets o xs ys e f = cc

-- functions that are the same on a list are the same of each of its numbers
same_of_each : (f g : ℕ → ℕ) (ps : List ℕ) → map f ps ≡ map g ps → (p : ℕ) → In p ps → f p ≡ g p
same_of_each f g [] same p h = absurd h
same_of_each f g (q ∷ ps) same p (inl e) = let head : f q ≡ g q = cc in ap f e ∙ (head ∙ sym (ap g e))
same_of_each f g (q ∷ ps) same p (inr h) = let rest : map f ps ≡ map g ps = cc in same_of_each f g ps rest p h

-- a first state of a decision is one of its targets
first_in : {L : Type 0} (net : Network L) (d i p : ℕ) (firsts : List ℕ) → state_at net d ≡ Some (Decision firsts) → IsFirst net d i p
    → In p firsts
first_in net d i p firsts is (targets, k, decides, found, number) =
    listed_in firsts k p (subst (λ (ts : List ℕ). slice_get ts k ≡ Some p) (same_targets _ targets firsts decides is) found)

module _ {L : Type 0} (a b : Network L) (states : a.states ≡ b.states) where
  -- each state is the same
  same_state : (p : ℕ) → state_at a p ≡ state_at b p
  same_state p = ap (λ (xs : List (State L)). slice_get xs p) states

  -- a number is written there in both
  abbrev SameAt : ℕ → Type 0
  SameAt p = written_at a p ≡ written_at b p

  -- the start of a rule
  starts_same : (k : ℕ) (starts : List ℕ) → StartsAreWritten a k starts → StartsAreWritten b k starts → SameAt (start_of k)
  starts_same k [] x y = x ∙ sym y
  starts_same k (i ∷ []) x y = x ∙ sym y
  starts_same k (i ∷ j ∷ more) x y = let (_, _, _, here) = x in let (_, _, _, there) = y in here ∙ sym there

  -- a state at which an alternative begins in both, or in neither
  starts_or_not : (k : ℕ) (starts : List ℕ) (p : ℕ) → StartsAreWritten a k starts → StartsAreWritten b k starts
      → SameAt p ⊎ ((StartsAt a k starts p → ⊥) × (StartsAt b k starts p → ⊥))
  starts_or_not k [] p x y = inr (λ h. h, λ h. h)
  starts_or_not k (i ∷ []) p x y = elim (same_or_not p (start_of k)) [
    | inl is ↦ inl (subst SameAt (sym is) (x ∙ sym y))
    | inr apart ↦ inr (apart, apart)
  ]
  starts_or_not k (i ∷ j ∷ more) p (firsts, is, named, zero_at) (firsts', is', named', zero_at') =
      let same : firsts ≡ firsts' = same_targets _ firsts firsts' (sym (same_state (start_of k)) ∙ is) is' in
      let both : map (written_at a) firsts ≡ map (written_at b) firsts = named ∙ sym (ap (map (written_at b)) same ∙ named') in
      elim (in_or_not firsts p) [
        | inl h ↦ inl (same_of_each (written_at a) (written_at b) firsts both p h)
        | inr non ↦ inr (
          λ h. non (first_in a (start_of k) h.0 p firsts is h.1),
          λ h. non (subst (λ (fs : List ℕ). In p fs) (sym same) (first_in b (start_of k) h.0 p firsts' is' h.1)),
        )
      ]

  -- a state of a rule
  rule_same : (k : ℕ) (numbering : Numbering) (n m p : ℕ) → IsNumbered a k numbering n m → IsNumbered b k numbering n m → n ≤ p
      → p < m → SameAt p
  rule_same k numbering n m p x y from below = elim (starts_or_not k numbering.starts p x.starts y.starts) [
    | inl same ↦ same
    | inr non ↦ x.others p from below non.0 ∙ (ap (number_by numbering.count) (same_state p) ∙ sym (y.others p from below non.1))
  ]

  -- the states of the rules from this number on
  pub record NumbersAgree (rule count n m : ℕ) : Type 0 where
    pub heads : (p : ℕ) → 2 * rule ≤ p → p < 2 * (rule + count) → SameAt p
    pub within : (p : ℕ) → n ≤ p → p < m → SameAt p

  -- rules with the same numberings in both
  pub numbers_agree : {rule n m : ℕ} {rules : List (Alternatives (Step L))} (numberings : List Numbering) → RulesLie a rule rules n m →
      AreNumbered a rule n rules numberings → AreNumbered b rule n rules numberings → NumbersAgree rule (length rules) n m
  numbers_agree numberings (lay.no_rule rule n) x y =
      record { heads = λ p low high. absurd (omega arith); within = λ p low high. absurd (omega arith) }
  numbers_agree [] (lay.a_rule rule n k m xs more l last ls) x y = absurd x
  numbers_agree (numbering ∷ others) (lay.a_rule rule n k m xs more l last ls) x y =
      let size = rule_size l in
      let rest = numbers_agree others ls (subst (λ (q : ℕ). AreNumbered a (rule + 1) q more others) (sym size) x.1)
      (subst (λ (q : ℕ). AreNumbered b (rule + 1) q more others) (sym size) y.1) in
      record {
        heads = λ p low high. elim (same_or_not p (start_of rule)) [
          | inl is ↦ subst SameAt (sym is) (starts_same rule numbering.starts x.0.starts y.0.starts)
          | inr apart ↦ elim (same_or_not p (end_of rule)) [
            | inl is ↦ subst SameAt (sym is) (x.0.end ∙ sym y.0.end)
            | inr further ↦ rest.heads p (omega arith) (omega arith)
          ]
        ];
        within = λ p low high. elim (dec_lt p k) [
          | yes before ↦ rule_same rule numbering n _ p x.0 y.0 low (omega (arith, size))
          | no after ↦ rest.within p (omega arith) high
        ];
      }
