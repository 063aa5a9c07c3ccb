-- What is held of groups.
use Rattle.std.specs.Prelude.{◌≡◌, ◌==◌, ◌↔◌, ℕ, List, [], ◌∷◌, Option, Some, None, if◌then◌else◌}
use Rattle.g4_closure.specs.declared.framed.Hold.{Hold}
use Rattle.g4_closure.specs.declared.framed.Hold.TheVariants.{All, AtHole, Nothing}
use Rattle.g4_configs.specs.declared.group.Group.{Group}
use Rattle.g4_configs.specs.Configs.{IsOfGroup, View}
use Rattle.g4_configs.specs.Groups.{AreKnown, InSome}
use Rattle.g4_frames.specs.Framed.{IsHeld}
use Rattle.g4_net.specs.declared.network.State.{State}
use Rattle.g4_net.specs.declared.network.State.TheVariants.{Decision, End, Edge, Call, Predicate, Level, Action, Empty}
use Rattle.g4_net.specs.Configurations.{Config, above_bottom}
use Rattle.g4_net.specs.Network.{ParserNetwork}

-- what is held of the configurations of a state
abbrev pub hold_by : Option (State (List ℕ)) → Hold
hold_by (Some (Edge set t)) = All
hold_by (Some (End rule)) = if rule == 0 then All else AtHole
hold_by (Some (Decision targets)) = Nothing
hold_by (Some (Call rule level back)) = Nothing
hold_by (Some (Predicate k t)) = Nothing
hold_by (Some (Level q t)) = Nothing
hold_by (Some (Action t)) = Nothing
hold_by (Some (Empty t)) = Nothing
hold_by None = Nothing

-- so a configuration is
abbrev pub IsHeldBy : Hold → Config → Type 0
IsHeldBy All c = Unit {0}
IsHeldBy AtHole c = c.stack ≡ above_bottom []
IsHeldBy Nothing c = ⊥

-- the configuration is of the group, if there is one
abbrev pub IsOfOption : View → Option Group → Config → Type 0
IsOfOption v None c = ⊥
IsOfOption v (Some x) c = IsOfGroup v x c

-- the group, if there is one, as a list
abbrev pub items_of : Option Group → List Group
items_of None = []
items_of (Some x) = x ∷ []

-- the groups found have what is held of the others
pub record AreHeld (net : ParserNetwork) (v : View) (xs found : List Group) : Type 0 where
  pub known : AreKnown v.graph found
  pub means : (c : Config) → InSome v.graph found c ↔ (InSome v.graph xs c × IsHeld net c)
