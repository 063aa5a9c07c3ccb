-- The network of a lexer, and when it can be lexed with.
use Rattle.std.specs.Prelude.{◌≡◌, ℕ, List, [], ◌∷◌, Bool, true, false, nat_lt, map}
use Rattle.g4_net.specs.declared.network.Network.{Network}
use Rattle.g4_net.specs.declared.network.State.{State}
use Rattle.g4_net.specs.declared.network.State.TheVariants.{Decision, End, Edge, Call, Predicate, Level, Action, Empty}
use Rattle.g4_net.specs.Leads.{WellFormed}
use Rattle.g4_ordered.specs.declared.network.Reads.{Reads}
use Rattle.g4_ordered.specs.declared.network.Reads.TheVariants.{Characters, EndOfText}

-- a lexer's network: an edge takes a character of a set, or asks that no character is left
abbrev pub LexerNetwork : Type 0
LexerNetwork = Network Reads

-- A decision is reluctant, that of a non-greedy form, where its first target has a greater number than its second. States are
-- numbered as they are made; the exit's branch is made after the bodies, and comes first in the non-greedy forms alone.
abbrev pub is_reluctant : List ℕ → Bool
is_reluctant [] = false
is_reluctant (exit ∷ []) = false
is_reluctant (exit ∷ body ∷ others) = nat_lt body exit

-- the decision with these targets is reluctant
abbrev pub IsReluctant : List ℕ → Type 0
IsReluctant targets = is_reluctant targets ≡ true

-- the state, an edge that asks that no character is left being an empty one
abbrev pub emptied : State Reads → State Reads
emptied (Decision targets) = Decision targets
emptied (End rule) = End rule
emptied (Edge (Characters set) t) = Edge (Characters set) t
emptied (Edge EndOfText t) = Empty t
emptied (Call rule level back) = Call rule level back
emptied (Predicate k t) = Predicate k t
emptied (Level q t) = Level q t
emptied (Action t) = Action t
emptied (Empty t) = Empty t

-- the network with each state so
abbrev pub all_emptied : LexerNetwork → LexerNetwork
all_emptied net = record net { states = map emptied net.states }

-- A network can be lexed with where it is well formed, though each edge that asks that no character is left be an empty one.
abbrev pub IsLexable : LexerNetwork → Type 0
IsLexable net = WellFormed (all_emptied net)
