-- What reaches a state at which a rule can end at once reaches the rule's end, and what is on top of its stack.
use Rattle.std.proofs.Common.{◌≡◌, ℕ, List, ◌∷◌, Bool, Option, Some, refl, sym, ap, subst}
use Rattle.g4_net.specs.Configurations.{Stack, Config, config, at}
use Rattle.g4_net.specs.declared.network.State.{State}
use Rattle.g4_net.specs.declared.network.State.TheVariants.{Decision, End, Edge, Call, Predicate, Level, Action, Empty}
use Rattle.g4_net.specs.Leads.{LeadsBy, Leads, Reaches, further}
use Rattle.g4_net.specs.Network.{ParserNetwork, state_at}
use Rattle.g4_lookahead.specs.Ways.{IsSilent, EndsAtOnce, at_end, along}

-- these return states, above that mark
abbrev pub marked : List ℕ → Bool → Stack
marked returns wild = record { returns = returns; wild = wild }

-- an edge that reads nothing and opens no rule is a step, whatever the stack
pub silent_leads : (net : ParserNetwork) (s : State (List ℕ)) (t : ℕ) (c : Config) → IsSilent s t → LeadsBy net (Some s) c (at c t)
silent_leads net (Decision targets) t c h = (t, h, refl)
silent_leads net (End rule) t c h = absurd h
silent_leads net (Edge set u) t c h = absurd h
silent_leads net (Call rule level back) t c h = absurd h
silent_leads net (Predicate k u) t c h = ap (at c) h
silent_leads net (Level q u) t c h = ap (at c) h
silent_leads net (Action u) t c h = ap (at c) h
silent_leads net (Empty u) t c h = ap (at c) h

-- the configuration reaches the end of some rule, for the alternative and with the stack
abbrev pub ReachesEnd : ParserNetwork → Config → ℕ → Stack → Type 0
ReachesEnd net b i z = (p : ℕ) × (rule : ℕ) × (state_at net p ≡ Some (End rule)) × Reaches net b (config p i z)

-- what reaches a state at which the rule ends at once reaches its end, with the same stack
pub reaches_end : (net : ParserNetwork) (b : Config) (i p : ℕ) (z : Stack) → EndsAtOnce net p → Reaches net b (config p i z)
    → ReachesEnd net b i z
reaches_end net b i p z (at_end _ rule is) r = (p, rule, is, r)
reaches_end net b i p z (along _ t s is edge ends) r =
    let step : Leads net (config p i z) (config t i z) =
    subst (λ (o : Option (State (List ℕ))). LeadsBy net o (config p i z) (config t i z)) (sym is)
    (silent_leads net s t (config p i z) edge) in
    reaches_end net b i t z ends (further (config p i z) (config t i z) r step)

-- a rule's end pops the first return state
pub pop : (net : ParserNetwork) (i p rule t : ℕ) (rest : List ℕ) (wild : Bool) → state_at net p ≡ Some (End rule)
    → Leads net (config p i (marked (t ∷ rest) wild)) (config t i (marked rest wild))
pop net i p rule t rest wild is = subst (λ (o : Option (State (List ℕ))).
    LeadsBy net o (config p i (marked (t ∷ rest) wild)) (config t i (marked rest wild))) (sym is) refl

-- so it goes on from the state that is on top
pub reaches_top : (net : ParserNetwork) (b : Config) (i p t : ℕ) (rest : List ℕ) (wild : Bool) → EndsAtOnce net p
    → Reaches net b (config p i (marked (t ∷ rest) wild)) → Reaches net b (config t i (marked rest wild))
reaches_top net b i p t rest wild ends r =
    let (e, rule, is, there) = reaches_end net b i p (marked (t ∷ rest) wild) ends r in
    further (config e i (marked (t ∷ rest) wild)) (config t i (marked rest wild)) there (pop net i e rule t rest wild is)
