-- Which configurations a configuration leads to, in order: without a character, and by one.
use Rattle.std.specs.Prelude.{◌≡◌, ℕ, List, [], ◌∷◌, ◌++◌, Bool, true, false, Option, Some, None, map}
use Rattle.g4_chars.specs.declared.range.Range.{Range}
use Rattle.g4_chars.specs.CharSets.{Has}
use Rattle.g4_net.specs.declared.network.State.{State}
use Rattle.g4_net.specs.declared.network.State.TheVariants.{Decision, End, Edge, Call, Predicate, Level, Action, Empty}
use Rattle.g4_net.specs.Network.{state_at, start_of}
use Rattle.g4_ordered.specs.declared.network.Reads.{Reads}
use Rattle.g4_ordered.specs.declared.network.Reads.TheVariants.{Characters, EndOfText}
use Rattle.g4_ordered.specs.Network.{LexerNetwork, is_reluctant}
use Rattle.g4_ordered.specs.Configurations.{LexerConfig, at, through, at_with, In}

-- at a rule's end the newest open call returns
abbrev pub returned : LexerConfig → List ℕ → List LexerConfig
returned c [] = []
returned c (t ∷ rest) = at_with c t rest ∷ []

-- the configuration, where the condition holds
abbrev pub only_if : Bool → LexerConfig → List LexerConfig
only_if true c = c ∷ []
only_if false c = []

-- where a label's edge to a state leads without a character; `last` says that no character is left
abbrev pub leads_past : Bool → Reads → LexerConfig → ℕ → List LexerConfig
leads_past last (Characters set) c t = []
leads_past last EndOfText c t = only_if last (at c t)

-- Where a state's edges lead without a character, in their order. A predicate, level or action edge is taken as empty.
abbrev pub leads_by : Bool → Option (State Reads) → LexerConfig → List LexerConfig
leads_by last None c = []
leads_by last (Some (Decision targets)) c = map (through (is_reluctant targets) c) targets
leads_by last (Some (End rule)) c = returned c c.returns
leads_by last (Some (Edge label t)) c = leads_past last label c t
leads_by last (Some (Call rule level back)) c = at_with c (start_of rule) (back ∷ c.returns) ∷ []
leads_by last (Some (Predicate k t)) c = at c t ∷ []
leads_by last (Some (Level q t)) c = at c t ∷ []
leads_by last (Some (Action t)) c = at c t ∷ []
leads_by last (Some (Empty t)) c = at c t ∷ []

-- where a configuration leads without a character, in order of edges
abbrev pub leads : LexerNetwork → Bool → LexerConfig → List LexerConfig
leads net last c = leads_by last (state_at net c.state) c

-- c leads to d by the character a, which is in the set of its edge
abbrev pub ReadsTo : LexerNetwork → ℕ → LexerConfig → LexerConfig → Type 0
ReadsTo net a c d = (set : List Range) × (t : ℕ) × (state_at net c.state ≡ Some (Edge (Characters set) t)) × Has set a × (d ≡ at c t)

-- What configurations lead to without a character, depth first in order of edges, with every repetition: the first of
-- them itself, then what its edges lead to, then what the others lead to.
pub data Expands (net : LexerNetwork) (last : Bool) : List LexerConfig → List LexerConfig → Type 0 where
  nothing : Expands net last [] []
  each : (c : LexerConfig) (cs xs ys : List LexerConfig) → Expands net last (leads net last c) xs → Expands net last cs ys
      → Expands net last (c ∷ cs) (c ∷ xs ++ ys)

-- c leads to d without a character, in any number of steps
pub data Reaches (net : LexerNetwork) (last : Bool) (c : LexerConfig) : LexerConfig → Type 0 where
  here : Reaches net last c c
  further : (d e : LexerConfig) → Reaches net last c d → In e (leads net last d) → Reaches net last c e
