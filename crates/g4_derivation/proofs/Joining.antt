-- Walks one after another.
use Rattle.std.proofs.Common.{◌≡◌, ℕ, ◌+◌, List, [], ◌++◌, Option, Some, refl, sym, ◌∙◌, ap, subst, append-nil, append_assoc, Contains}
use Rattle.g4_net.specs.declared.network.Network.{Network}
use Rattle.g4_net.specs.declared.network.State.{State}
use Rattle.g4_net.specs.declared.network.State.TheVariants.{Decision, Empty}
use Rattle.g4_net.specs.Network.{state_at}
use Rattle.g4_derivation.specs.Walks.{MovesBy, Walk, stays, goes, WalksTo}

module _ {L C : Type 0} (Takes : L → C → Type 0) (Names : ℕ → C → Type 0) (Passes : ℕ → Type 0) (net : Network L) where
  -- a walk from one state to another
  abbrev Goes : ℕ → ℕ → List C → Type 0
  Goes = WalksTo Takes Names Passes net

  -- a walk of known length and then another
  join : {k j p q r : ℕ} {u v w : List C} → Walk Takes Names Passes net k p q u → Walk Takes Names Passes net j q r v → w ≡ u ++ v
      → Goes p r w
  join {j = j} {q = q} {r = r} {v = v} (stays p) more parts = (j, subst (Walk Takes Names Passes net j q r) (sym parts) more)
  join {v = v} {w = w} (goes k p t q x y u moves walk parts) more whole =
      let rest = join walk more refl in
      (rest.0 + 1, goes rest.0 p t _ x (y ++ v) w moves rest.1 (whole ∙ ap (λ (z : List C). z ++ v) parts ∙ append_assoc x y v))

  -- one walk and then another
  pub and_on : {p q r : ℕ} {u v w : List C} → Goes p q u → Goes q r v → w ≡ u ++ v → Goes p r w
  and_on a b parts = join a.1 b.1 parts

  -- no step
  pub no_step : (p : ℕ) → Goes p p []
  no_step p = (0, stays p)

  -- one step of a state whose edges are known
  pub one_step : {p t : ℕ} {w : List C} (o : Option (State L)) → state_at net p ≡ o → MovesBy Takes Names Passes o t w → Goes p t w
  one_step {p} {t} {w} o is moves = (
    0 + 1,
    goes 0 p t t w [] w
        (subst (λ (s : Option (State L)). MovesBy Takes Names Passes s t w) (sym is) moves) (stays t) (sym (append-nil w)),
  )

  -- an edge of a decision, and then a walk
  pub decide : {p q r : ℕ} {w : List C} (targets : List ℕ) → state_at net p ≡ Some (Decision targets) → Contains targets q
      → Goes q r w → Goes p r w
  decide targets is c walk = and_on (one_step (Some (Decision targets)) is (c, refl)) walk refl

  -- a walk and then an empty edge
  pub then_pass : {p q r : ℕ} {w : List C} → Goes p q w → state_at net q ≡ Some (Empty r) → Goes p r w
  then_pass {r = r} {w = w} walk is = and_on walk (one_step (Some (Empty r)) is (refl, refl)) (sym (append-nil w))
