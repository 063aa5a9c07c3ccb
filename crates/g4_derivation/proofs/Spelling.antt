-- From which states to a rule's end exactly the words of elements are read, where no level is passed.
use Rattle.std.proofs.Common.{◌≡◌, ℕ, inl, inr, List, [], ◌++◌, true, Some, refl, sym, ◌∙◌, ap, subst, append-nil}
use Rattle.g4_source.specs.Elements.{Elements}
use Rattle.g4_net.specs.declared.network.State.TheVariants.{Decision, End, Level, Empty}
use Rattle.g4_net.specs.Network.{ParserNetwork, state_at, end_of}
use Rattle.g4_layout.specs.Layout.{with_exit}
use Rattle.g4_layout.proofs.Ends.{with_exit_cases}
use Rattle.g4_leftrec.specs.OwnCalls.{Part}
use Rattle.g4_leftrec.specs.Rewriting.{StepIn}
use Rattle.g4_derivation.specs.WalkSpelling.{IsSpelled}
use Rattle.g4_derivation.specs.Walks.{NoLevel, Walk, WalksTo}
use Rattle.g4_derivation.proofs.Along.{in_order_along, exit_edge}
use Rattle.g4_derivation.proofs.Beginnings.{LiesTo}
use Rattle.g4_derivation.proofs.Joining.{and_on, decide, no_step, one_step, then_pass}
use Rattle.g4_derivation.proofs.LastCall.{AreAlike, Reading, alike_back, alike_derive}
use Rattle.g4_derivation.proofs.Shapes.{laid_operators, operator_at}
use Rattle.g4_derivation.proofs.Starting.{TurnsLie}
use Rattle.g4_derivation.proofs.Steps.{onward, stopped}
use Rattle.g4_derivation.proofs.Through.{in_order_through, finish}

module _ {C : Type 0} (Takes : List ℕ → C → Type 0) (Names : ℕ → C → Type 0) (net : ParserNetwork) (k : ℕ) where
  -- a walk of this many steps, and one of any number
  abbrev Goes : ℕ → ℕ → ℕ → List C → Type 0
  Goes = Walk Takes Names NoLevel net

  abbrev Comes : ℕ → ℕ → List C → Type 0
  Comes = WalksTo Takes Names NoLevel net

  -- what elements derive without levels
  abbrev Reads : Elements StepIn → List C → Type 0
  Reads = Reading Takes Names NoLevel

  -- from the state a walk goes to the end of rule k and reads nothing, as does any walk to an end
  pub record IsNearEnd (g : ℕ) : Type 0 where
    pub walks : Comes g (end_of k) []
    pub silent : (e ended n : ℕ) (w : List C) → state_at net e ≡ Some (End ended) → Goes n g e w → w ≡ []

  -- a first step that reads nothing reads nothing
  after_nothing : {u v w : List C} → w ≡ u ++ v → u ≡ [] → v ≡ [] → w ≡ []
  after_nothing {u} {v} {w} parts e f = parts ∙ (ap (λ (x : List C). x ++ v) e ∙ f)

  module _ (end_is : state_at net (end_of k) ≡ Some (End k)) where
    -- the end itself
    pub end_near : IsNearEnd (end_of k)
    end_near = record {
      walks = no_step Takes Names NoLevel net (end_of k);
      silent = λ e ended n w is walk. (stopped Takes Names NoLevel net k end_is walk).1;
    }

    -- a state that leads to the end
    leads_near : (p : ℕ) → state_at net p ≡ Some (Empty (end_of k)) → (e ended n : ℕ) (w : List C) → state_at net e ≡ Some (End ended)
        → Goes n p e w → w ≡ []
    leads_near p is e ended n w end walk =
        let h = onward Takes Names NoLevel net e ended end (Empty (end_of k)) is tt walk in
        let moved = subst (λ (q : ℕ). Goes h.steps q e h.rest) h.moves.0 h.walk in
        after_nothing h.parts h.moves.1 (stopped Takes Names NoLevel net k end_is moved).1

    -- a level is not passed
    never_passed : (p q t : ℕ) → state_at net p ≡ Some (Level q t) → (e ended n : ℕ) (w : List C) → state_at net e ≡ Some (End ended)
        → Goes n p e w → ⊥
    never_passed p q t is e ended n w end walk = let h = onward Takes Names NoLevel net e ended end (Level q t) is tt walk in h.moves.1.0

    module _ (count : ℕ) {u n m : ℕ} (parts : List (Part StepIn)) (turns : TurnsLie net k u n m (laid_operators k count parts)) where
      -- no turn is taken
      no_turn : (e ended j : ℕ) (w : List C) → state_at net e ≡ Some (End ended) → Goes j u e w → w ≡ []
      no_turn e ended j w end walk =
          let h = onward Takes Names NoLevel net e ended end (Decision (with_exit true turns.firsts turns.exit)) turns.decides tt walk in
          elim (with_exit_cases true turns.firsts turns.exit h.to h.moves.0) [
            | inl same ↦ after_nothing h.parts h.moves.1
                (leads_near turns.exit turns.leaves e ended h.steps h.rest end (subst (λ (q : ℕ). Goes h.steps q e h.rest) same h.walk))
            | inr old ↦ (let b = operator_at net k count u parts turns.bodies turns.back h.to old in
                absurd (never_passed h.to _ _ b.level e ended h.steps h.rest end h.walk))
          ]

      -- the decision of the turns
      pub turns_near : IsNearEnd u
      turns_near = record {
        walks = decide Takes Names NoLevel net (with_exit true turns.firsts turns.exit) turns.decides
            (exit_edge true turns.firsts turns.exit)
            (one_step Takes Names NoLevel net (Some (Empty (end_of k))) turns.leaves (refl, refl));
        silent = no_turn;
      }

  -- elements that are laid out up to such a state are spelled, perhaps with another level at a call
  pub spelled : {x y : Elements StepIn} {p g : ℕ} → AreAlike x y → LiesTo net y p g → IsNearEnd g → IsSpelled Takes Names net k x p
  spelled {x} {y} {p} {g} alike lies near = record {
    derives = λ e ended n w end walk.
        let passed = finish Takes Names NoLevel net e ended end {P = Reads y} lies.leads
        (in_order_through Takes Names NoLevel net e ended end lies.lies n w walk) in
        let nothing = near.silent e ended passed.steps passed.rest end passed.walk in
        let whole : w ≡ passed.front = passed.parts ∙ ap (λ (u : List C). passed.front ++ u) nothing ∙ append-nil passed.front in
        alike_derive Takes Names NoLevel (alike_back alike) (subst (Reads y) (sym whole) passed.derived);
    walks = λ w d.
        let through = then_pass Takes Names NoLevel net
        (in_order_along Takes Names NoLevel net (alike_derive Takes Names NoLevel alike d) lies.lies) lies.leads in
        and_on Takes Names NoLevel net through near.walks (sym (append-nil w));
  }
