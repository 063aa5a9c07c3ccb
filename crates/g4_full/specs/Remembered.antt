-- Framed sets and the steps between them that are remembered, and when they are right.
use Rattle.std.specs.Prelude.{◌≡◌, ◌<◌, ◌≤◌, ℕ, List, [], ◌∷◌, Option, Some, None, Contains, IfSome, false, length, slice_get}
use Rattle.g4_configs.specs.Configs.{Holds}
use Rattle.g4_frames.specs.Framed.{FramedNext, FramedStart, IsAtHole, IsFramed, Kept, Lowered}
use Rattle.g4_frames.specs.Running.{AreSame}
use Rattle.g4_guards.specs.Levels.{AllowedAt}
use Rattle.g4_net.specs.Configurations.{Config, IsWithin}
use Rattle.g4_net.specs.Network.{ParserNetwork}
use Rattle.g4_stacks.specs.Table.{Numbers, number_at}
use Rattle.g4_full.specs.declared.frames.Frame.{Frame}
use Rattle.g4_full.specs.declared.frames.Frames.{Frames}
use Rattle.g4_full.specs.declared.live.Live.{Live}
use Rattle.g4_full.specs.declared.look.Step.{Step}
use Rattle.g4_full.specs.declared.look.Step.TheVariants as steps
use Rattle.g4_full.specs.Settled.{Shows}

-- What is remembered of one set is right.
pub record IsRight (net : ParserNetwork) (e : Frame) : Type 0 where
  pub framed : IsFramed net (Contains e.set)
  pub within : (c : Config) → Contains e.set c → IsWithin net c
  pub clear : e.at_hole ≡ false → (c : Config) → Contains e.set c → IsAtHole net c → ⊥
  pub shown : Shows (Kept net (Contains e.set)) e.shown

-- the configurations of the set with this number: none, where there is no such set
abbrev pub row_by : Option Frame → List Config
row_by None = []
row_by (Some e) = e.set

abbrev pub row_of : Frames → ℕ → List Config
row_of m n = row_by (slice_get m.sets.items n)

abbrev pub SetOf : Frames → ℕ → Config → Type 0
SetOf m n = Contains (row_of m n)

-- there is a set with this number
abbrev pub IsNumber : Frames → ℕ → Type 0
IsNumber m n = n < length m.sets.items

-- the set with this number has these configurations, in their order
abbrev pub HasRow : Frames → ℕ → List Config → Type 0
HasRow m n row = IsNumber m n × (row_of m n ≡ row)

-- there is a set with this number, and it is the set F
abbrev pub IsSet : Frames → ℕ → (Config → Type 0) → Type 0
IsSet m n F = IsNumber m n × AreSame (SetOf m n) F

-- the set that is there, if there is one, is that of its number
abbrev pub IsLive : Frames → Live → Type 0
IsLive m l = IfSome l.set (λ s. IsSet m l.number (Holds s))

-- a table has for each of its keys the number of a set that is right for it
abbrev pub AreNoted : Numbers → (ℕ → ℕ → ℕ → Type 0) → Type 0
AreNoted table IsRightFor = (x y n : ℕ) → number_at table (x, y) ≡ Some n → IsRightFor x y n

-- the number is that of the start set of the decision under the condition
abbrev pub IsStart : ParserNetwork → Frames → ℕ → ℕ → ℕ → Type 0
IsStart net m d condition n = IsSet m n (FramedStart net d (AllowedAt net d condition))

-- the number is that of the set after a set and a symbol
abbrev pub IsNext : ParserNetwork → Frames → ℕ → ℕ → ℕ → Type 0
IsNext net m from a n = IsNumber m from × IsSet m n (FramedNext net (SetOf m from) a)

-- the number is that of the set after a set and a return state, which is put in the place of the hole
abbrev pub IsLowered : ParserNetwork → Frames → ℕ → ℕ → ℕ → Type 0
IsLowered net m from t n = IsNumber m from × IsSet m n (Lowered net (SetOf m from) (t ∷ []))

-- What is remembered is right for the network: what is asked of each set, and each step.
pub record IsSound (net : ParserNetwork) (m : Frames) : Type 0 where
  pub sets : (n : ℕ) (e : Frame) → slice_get m.sets.items n ≡ Some e → IsRight net e
  pub starts : AreNoted m.starts.entries (IsStart net m)
  pub symbols : AreNoted m.symbols.entries (IsNext net m)
  pub returns : AreNoted m.returns.entries (IsLowered net m)

-- Nothing is remembered.
pub record IsForgotten (m : Frames) : Type 0 where
  pub sets : m.sets.items ≡ []
  pub starts : m.starts.entries ≡ []
  pub symbols : m.symbols.entries ≡ []
  pub returns : m.returns.entries ≡ []

-- The same steps are remembered.
pub record KeepsTables (old new : Frames) : Type 0 where
  pub starts : new.starts.entries ≡ old.starts.entries
  pub symbols : new.symbols.entries ≡ old.symbols.entries
  pub returns : new.returns.entries ≡ old.returns.entries

-- The sets that were remembered are so, under the same numbers.
pub record KeepsSets (old new : Frames) : Type 0 where
  pub more : length old.sets.items ≤ length new.sets.items
  pub same : (n : ℕ) → IsNumber old n → slice_get new.sets.items n ≡ slice_get old.sets.items n

-- the step can be made: there is the set from which it is, and the return state is one of the network
abbrev pub CanBeMade : ParserNetwork → Frames → Step → Type 0
CanBeMade net m (steps.Start d condition) = Unit {0}
CanBeMade net m (steps.Symbol from a) = IsNumber m from
CanBeMade net m (steps.Return from t) = IsNumber m from × (t < length net.states)
