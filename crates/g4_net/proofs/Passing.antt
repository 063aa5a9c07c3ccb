-- Edges that read nothing, and are no calls.
use Rattle.std.proofs.Common.{◌≡◌, ℕ, Option, Some, refl, ap}
use Rattle.g4_net.specs.declared.network.Network.{Network}
use Rattle.g4_net.specs.declared.network.State.{State}
use Rattle.g4_net.specs.declared.network.State.TheVariants.{Decision, Predicate, Level, Action, Empty}
use Rattle.g4_net.specs.Configurations.{Config, at}
use Rattle.g4_net.specs.Leads.{IsTarget, LeadsBy}
use Rattle.g4_net.specs.Spelling.{PassesBy}

-- such an edge goes to a target of its state
pub pass_is : {L : Type 0} (o : Option (State L)) (t : ℕ) → PassesBy o t → (s : State L) × (o ≡ Some s) × IsTarget s t
pass_is (Some (Decision ts)) t h = (Decision ts, refl, h)
pass_is (Some (Predicate k u)) t h = (Predicate k u, refl, h)
pass_is (Some (Level q u)) t h = (Level q u, refl, h)
pass_is (Some (Action u)) t h = (Action u, refl, h)
pass_is (Some (Empty u)) t h = (Empty u, refl, h)
pass_is _ t h = absurd h

-- and a configuration is led there
pub pass_leads : {L : Type 0} (net : Network L) (o : Option (State L)) (c : Config) (t : ℕ) → PassesBy o t → LeadsBy net o c (at c t)
pass_leads net (Some (Decision ts)) c t m = (t, m, refl)
pass_leads net (Some (Predicate k u)) c t m = ap (at c) m
pass_leads net (Some (Level q u)) c t m = ap (at c) m
pass_leads net (Some (Action u)) c t m = ap (at c) m
pass_leads net (Some (Empty u)) c t m = ap (at c) m
pass_leads net _ c t m = absurd m
