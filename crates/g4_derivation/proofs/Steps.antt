-- The first step of a walk to the end of a rule.
use Rattle.std.proofs.Common.{◌≡◌, ℕ, ◌+◌, ◌⊎◌, inl, inr, List, [], ◌++◌, Option, Some, refl, sym, ◌∙◌, ap, subst}
use Rattle.g4_net.specs.declared.network.Network.{Network}
use Rattle.g4_net.specs.declared.network.State.{State}
use Rattle.g4_net.specs.declared.network.State.TheVariants.{Decision, End, Edge, Call, Predicate, Level, Action, Empty}
use Rattle.g4_net.specs.Network.{state_at}
use Rattle.g4_derivation.specs.Walks.{MovesBy, Walk, stays, goes}

-- not the end of a rule
abbrev pub GoesOn : {L : Type 0} → State L → Type 0
GoesOn (Decision targets) = Unit {0}
GoesOn (End rule) = ⊥
GoesOn (Edge label t) = Unit {0}
GoesOn (Call rule level back) = Unit {0}
GoesOn (Predicate k t) = Unit {0}
GoesOn (Level q t) = Unit {0}
GoesOn (Action t) = Unit {0}
GoesOn (Empty t) = Unit {0}

module _ {L C : Type 0} (Takes : L → C → Type 0) (Names : ℕ → C → Type 0) (Passes : ℕ → Type 0) (net : Network L) where
  -- a walk of k steps whose first step such a state has
  pub record Onward (o : Option (State L)) (e k : ℕ) (w : List C) : Type 0 where
    pub steps : ℕ
    pub to : ℕ
    pub first : List C
    pub rest : List C
    pub moves : MovesBy Takes Names Passes o to first
    pub walk : Walk Takes Names Passes net steps to e rest
    pub count : k ≡ steps + 1
    pub parts : w ≡ first ++ rest

  -- no step or a first step
  begun : {k p e : ℕ} {w : List C} → Walk Takes Names Passes net k p e w → ((p ≡ e) × (w ≡ [])) ⊎ Onward (state_at net p) e k w
  begun (stays p) = inl (refl, refl)
  begun (goes k p t q u v w moves walk parts) =
      inr (record { steps = k; to = t; first = u; rest = v; moves = moves; walk = walk; count = refl; parts = parts })

  -- from the end of a rule there is no way on
  pub stopped : (rule : ℕ) {k p e : ℕ} {w : List C} → state_at net p ≡ Some (End rule) → Walk Takes Names Passes net k p e w
      → (p ≡ e) × (w ≡ [])
  stopped rule {k} {p} {e} {w} is walk = elim (begun walk) [
    | inl same ↦ same
    | inr h ↦ absurd ((subst (λ (o : Option (State L)). Onward o e k w) is h).moves)
  ]

  module _ (e rule : ℕ) (is_end : state_at net e ≡ Some (End rule)) where
    -- a state that is no end is not the last
    pub onward : {k p : ℕ} {w : List C} (s : State L) → state_at net p ≡ Some s → GoesOn s → Walk Takes Names Passes net k p e w
        → Onward (Some s) e k w
    onward {k} {p} {w} s is on walk = elim (begun walk) [
      | inl same ↦ absurd (let last : Some s ≡ Some (End rule) = sym is ∙ ap (state_at net) same.0 ∙ is_end in
          let this : s ≡ End rule = cc in subst GoesOn this on)
      | inr h ↦ subst (λ (o : Option (State L)). Onward o e k w) is h
    ]
