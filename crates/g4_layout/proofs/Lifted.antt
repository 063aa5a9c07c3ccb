-- A state from which nothing endless leads on does not lead above its own stack to itself: what it leads to above its own
-- stack, it leads to above any, so it would come back to itself without end.
use Rattle.std.proofs.Common.{◌≡◌, ℕ, ◌⊎◌, inl, inr, List, [], ◌∷◌, ◌++◌, Bool, true, false, true≢false, Option, Some, None, refl, sym, ◌∙◌, ap, subst}
use Rattle.g4_net.specs.declared.network.Network.{Network}
use Rattle.g4_net.specs.declared.network.State.{State}
use Rattle.g4_net.specs.declared.network.State.TheVariants.{Decision, End, Edge, Call, Predicate, Level, Action, Empty}
use Rattle.g4_net.specs.Configurations.{Config}
use Rattle.g4_net.specs.Network.{state_at}
use Rattle.g4_net.specs.Leads.{Returns, LeadsBy, Leads, LeadsOn, once, again}
use Rattle.g4_net.proofs.Frames.{bottomed}
use Rattle.g4_net.proofs.Finite.{keeps}
use Rattle.g4_layout.proofs.Ends.{Ends, ends}

-- the same configuration with more return states below
abbrev lifted : List ℕ → Config → Config
lifted below c = record { state = c.state; alt = c.alt; stack = record { returns = c.stack.returns ++ below; wild = c.stack.wild } }

module _ {L : Type 0} (net : Network L) (below : List ℕ) where
  -- popping works with more return states below
  lift_pop : (rule : ℕ) (c d : Config) (returns : List ℕ) (wild : Bool) → wild ≡ false → Returns net rule c returns wild d
      → Returns net rule (lifted below c) (returns ++ below) wild (lifted below d)
  lift_pop rule c d (t ∷ rest) wild w l = ap (lifted below) l
  lift_pop rule c d [] true w l = absurd (true≢false w)
  lift_pop rule c d [] false w l = absurd l

  -- a step does
  lift_step : (c d : Config) (o : Option (State L)) → c.stack.wild ≡ false → LeadsBy net o c d
      → LeadsBy net o (lifted below c) (lifted below d)
  lift_step c d None w l = absurd l
  lift_step c d (Some (Decision ts)) w l = (l.0, l.1, ap (lifted below) l.2)
  lift_step c d (Some (End rule)) w l = lift_pop rule c d c.stack.returns c.stack.wild w l
  lift_step c d (Some (Edge label t)) w l = absurd l
  lift_step c d (Some (Call rule level t)) w l = ap (lifted below) l
  lift_step c d (Some (Predicate k t)) w l = ap (lifted below) l
  lift_step c d (Some (Level q t)) w l = ap (lifted below) l
  lift_step c d (Some (Action t)) w l = ap (lifted below) l
  lift_step c d (Some (Empty t)) w l = ap (lifted below) l

  -- and so do steps
  lift_on : (c d : Config) → c.stack.wild ≡ false → LeadsOn net c d → LeadsOn net (lifted below c) (lifted below d) × (d.stack.wild ≡ false)
  lift_on c d w (once _ l) = (
    once (lifted below d) (lift_step c d (state_at net c.state) w l),
    sym (keeps net c d (state_at net c.state) l).1 ∙ w,
  )
  lift_on c d w (again e _ on l) = let r = lift_on c e w on in (
    again (lifted below e) (lifted below d) r.0 (lift_step e d (state_at net e.state) r.1 l),
    sym (keeps net e d (state_at net e.state) l).1 ∙ r.1,
  )

module _ {L : Type 0} where
  -- the first step of several
  first_step : {net : Network L} {c d : Config} → LeadsOn net c d → (e : Config) × Leads net c e × ((e ≡ d) ⊎ LeadsOn net e d)
  first_step (once d l) = (d, l, inl refl)
  first_step {net} (again d e on l) = let f = first_step on in
      (f.0, f.1, inr (elim f.2 [ inl same ↦ once e (subst (λ (x : Config). Leads net x e) (sym same) l) | inr rest ↦ again d e rest l ]))

  -- steps and then steps
  pub and_on : {net : Network L} {c d e : Config} → LeadsOn net c d → LeadsOn net d e → LeadsOn net c e
  and_on {d = d} on (once e l) = again d e on l
  and_on on (again x e more l) = again x e (and_on on more) l

module _ {L : Type 0} (net : Network L) (i p : ℕ) (returns : List ℕ) (back : LeadsOn net (bottomed p i []) (bottomed p i returns)) where
  -- a configuration that leads to the state, above whatever stack, leads on without end
  never_ends : {c : Config} → Ends net c → (below : List ℕ) → LeadsOn net c (bottomed p i below) → ⊥
  never_ends (ends c on) below g = let f = first_step g in
      let round = (lift_on net below (bottomed p i []) (bottomed p i returns) refl back).0 in
      never_ends (on f.0 f.1) (returns ++ below) (elim f.2 [
        | inl same ↦ subst (λ (x : Config). LeadsOn net x (bottomed p i (returns ++ below))) (sym same) round
        | inr rest ↦ and_on rest round
      ])

-- no such state leads above its own stack to itself
pub never_again : {L : Type 0} (net : Network L) (i p : ℕ) (returns : List ℕ) → Ends net (bottomed p i [])
    → LeadsOn net (bottomed p i []) (bottomed p i returns) → ⊥
never_again net i p returns h on = never_ends net i p returns on h returns on
