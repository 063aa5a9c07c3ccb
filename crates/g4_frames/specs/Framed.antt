-- Framed sets: sets of configurations whose stacks end in a hole. The hole is where the parser's own stack goes on, so far unread.
-- It is written as the bottom `$`, which it is where no return state is below.
use Rattle.std.specs.Prelude.{◌≡◌, ◌⊎◌, ℕ, List, [], ◌∷◌, ◌++◌, Some, false}
use Rattle.g4_net.specs.declared.network.State.TheVariants.{End}
use Rattle.g4_net.specs.Configurations.{Stack, Config, config, above_bottom}
use Rattle.g4_net.specs.Leads.{Reaches}
use Rattle.g4_net.specs.Lookahead.{Firsts, IsKept, Rest, Targets}
use Rattle.g4_net.specs.Network.{ParserNetwork, state_at}

-- the stack with return states in the place of the hole
abbrev pub stack_over : List ℕ → Stack → Stack
stack_over below s = record { returns = s.returns ++ below; wild = s.wild }

-- the configuration with return states in the place of the hole
abbrev pub over : List ℕ → Config → Config
over below c = config c.state c.alt (stack_over below c.stack)

-- the set with return states in the place of the hole
abbrev pub Over : List ℕ → (Config → Type 0) → Config → Type 0
Over below F d = (c : Config) × F c × (d ≡ over below c)

-- What a framed set means over the return states that are below the hole: what is kept of what its members lead to there.
abbrev pub Meant : ParserNetwork → (Config → Type 0) → List ℕ → Config → Type 0
Meant net F below = Rest net (Over below F)

-- at the hole are the configurations at a rule's end with the hole alone
abbrev pub IsAtHole : ParserNetwork → Config → Type 0
IsAtHole net c = (rule : ℕ) × (state_at net c.state ≡ Some (End rule)) × (c.stack ≡ above_bottom [])

-- held are the configurations that are kept, and those at the hole
abbrev pub IsHeld : ParserNetwork → Config → Type 0
IsHeld net c = IsKept net c ⊎ IsAtHole net c

-- the held configurations that some configuration of the set leads to: as `Rest`, as far as the hole
abbrev pub Framed : ParserNetwork → (Config → Type 0) → Config → Type 0
Framed net C d = (c : Config) × C c × Reaches net c d × IsHeld net d

-- the framed start set of a decision, over the allowed alternatives
abbrev pub FramedStart : ParserNetwork → ℕ → (ℕ → Type 0) → Config → Type 0
FramedStart net d A = Framed net (Firsts net d A (above_bottom []))

-- the step by return states, newest first: they are put in the place of the hole, with a new hole below
abbrev pub Lowered : ParserNetwork → (Config → Type 0) → List ℕ → Config → Type 0
Lowered net F above = Framed net (Over above F)

-- the step by a symbol
abbrev pub FramedNext : ParserNetwork → (Config → Type 0) → ℕ → Config → Type 0
FramedNext net F a = Framed net (Targets net F a)

-- what is kept of a framed set
abbrev pub Kept : ParserNetwork → (Config → Type 0) → Config → Type 0
Kept net F c = F c × IsKept net c

-- nothing is at the hole, or no return state is below it
abbrev pub IsDown : ParserNetwork → (Config → Type 0) → List ℕ → Type 0
IsDown net F [] = Unit {0}
IsDown net F (t ∷ more) = (c : Config) → F c → IsAtHole net c → ⊥

-- A framed set has bottoms for holes, has nothing but what is held, and all that is held of what its members lead to.
pub record IsFramed (net : ParserNetwork) (F : Config → Type 0) : Type 0 where
  pub bottomed : (c : Config) → F c → c.stack.wild ≡ false
  pub held : (c : Config) → F c → IsHeld net c
  pub closed : (c d : Config) → F c → Reaches net c d → IsHeld net d → F d
