-- Remembered steps lead to what full stacks say.
use Rattle.std.proofs.Common.{◌≡◌, ◌<◌, ℕ, List, [], ◌∷◌, ◌++◌, All, false, Option, Some, None, Contains, length, reverse, slice_get, refl, sym, ◌∙◌, ap, subst, arith}
use Rattle.std.proofs.lemmas.List.{reverse-append}
use Rattle.std.proofs.lemmas.List.Elements.{All-pop}
use Rattle.g4_frames.specs.Framed.{FramedNext, FramedStart, IsAtHole, IsDown, IsFramed, Kept, Lowered, Meant}
use Rattle.g4_frames.specs.Running.{AreSame}
use Rattle.g4_frames.proofs.Meaning.{lowered_means, meant_same, same_back, same_then}
use Rattle.g4_guards.specs.Levels.{AllowedAt}
use Rattle.g4_net.specs.Configurations.{Config, IsWithin}
use Rattle.g4_net.specs.declared.network.State.{State}
use Rattle.g4_net.specs.declared.network.State.TheVariants.{Decision, End, Edge, Call, Predicate, Level, Action, Empty}
use Rattle.g4_net.specs.Lookahead.{IsKeptBy, TakesBy}
use Rattle.g4_net.specs.Network.{ParserNetwork, state_at}
use Rattle.g4_stacks.specs.Table.{number_at}
use Rattle.g4_full.specs.declared.frames.Frame.{Frame}
use Rattle.g4_full.specs.declared.frames.Frames.{Frames}
use Rattle.g4_full.specs.Places.{IsLoweredTo, IsTakenDown}
use Rattle.g4_full.specs.Remembered.{IsSound, SetOf, row_by}
use Rattle.g4_full.specs.Settled.{Shows}
use Rattle.g4_full.proofs.Placing.{clear_down, taken_down}

-- nothing is in the empty list
none_listed : (c : Config) → Contains [] c → ⊥
none_listed c (k, less, is) = omega (arith, less)

-- what takes a symbol is kept
takes_kept : (o : Option (State (List ℕ))) (a u : ℕ) → TakesBy o a u → IsKeptBy o
takes_kept None a u h = absurd h
takes_kept (Some (Decision targets)) a u h = absurd h
takes_kept (Some (End rule)) a u h = absurd h
takes_kept (Some (Edge set t)) a u h = tt
takes_kept (Some (Call rule level back)) a u h = absurd h
takes_kept (Some (Predicate k t)) a u h = absurd h
takes_kept (Some (Level q t)) a u h = absurd h
takes_kept (Some (Action t)) a u h = absurd h
takes_kept (Some (Empty t)) a u h = absurd h

module _ (net : ParserNetwork) where
  -- so the set after a set and a symbol is that after what is kept of it
  pub next_kept : (F : Config → Type 0) (a : ℕ) → AreSame (FramedNext net F a) (FramedNext net (Kept net F) a)
  next_kept F a d = (
    (λ (t, (c, i, takes, is), reaches, held). (
      t,
      (c, (i, takes_kept (state_at net c.state) a t.state takes), takes, is),
      reaches,
      held,
    )),
    λ (t, (c, i, takes, is), reaches, held). (t, (c, i.0, takes, is), reaches, held),
  )

  -- a set that is lowered, with what is kept of it
  pub kept_down : (F G : Config → Type 0) (returns below : List ℕ) → IsLoweredTo net F returns G below
      → IsTakenDown net F returns (Kept net G) below
  kept_down F G returns below low = taken_down net F G (Kept net G) returns below low (λ c. ((λ k. k), λ k. k))

  module _ (m : Frames) (sound : IsSound net m) where
    -- each set is framed
    pub set_framed : (n : ℕ) → IsFramed net (SetOf m n)
    set_framed n = by (slice_get m.sets.items n) refl
      where
        by : (o : Option Frame) → slice_get m.sets.items n ≡ o → IsFramed net (Contains (row_by o))
        by None is = record {
          bottomed = λ c i. absurd (none_listed c i);
          held = λ c i. absurd (none_listed c i);
          closed = λ c d i. absurd (none_listed c i);
        }
        by (Some e) is = (sound.sets n e is).framed

    -- and within the network
    pub set_within : (n : ℕ) (c : Config) → SetOf m n c → IsWithin net c
    set_within n = by (slice_get m.sets.items n) refl
      where
        by : (o : Option Frame) → slice_get m.sets.items n ≡ o → (c : Config) → Contains (row_by o) c → IsWithin net c
        by None is c i = absurd (none_listed c i)
        by (Some e) is c i = (sound.sets n e is).within c i

    -- where nothing is said to be at the hole of a set, nothing is
    pub set_clear : (n : ℕ) (e : Frame) → slice_get m.sets.items n ≡ Some e → e.at_hole ≡ false → (c : Config) → SetOf m n c
        → IsAtHole net c → ⊥
    set_clear n e is none c i =
        (sound.sets n e is).clear none c (subst (λ (o : Option Frame). Contains (row_by o) c) is i)

    -- what is kept of a set shows what is said
    pub set_shows : (n : ℕ) (e : Frame) → slice_get m.sets.items n ≡ Some e → Shows (Kept net (SetOf m n)) e.shown
    set_shows n e is = subst (λ (o : Option Frame). Shows (Kept net (Contains (row_by o))) e.shown) (sym is) (sound.sets n e is).shown

    -- a set with nothing at the hole is lowered so far
    pub lowered_there : (from n : ℕ) (e : Frame) (returns below : List ℕ) → slice_get m.sets.items n ≡ Some e → e.at_hole ≡ false
        → AreSame (Meant net (SetOf m from) returns) (Meant net (SetOf m n) (reverse below)) → All (λ t. t < length net.states) below
        → IsLoweredTo net (SetOf m from) returns (SetOf m n) below
    lowered_there from n e returns below is none same states = record {
      same = same;
      down = clear_down net (SetOf m n) (reverse below) (set_clear n e is none);
      framed = set_framed n;
      within = set_within n;
      states = states;
    }

    -- and so is any set with no return state below
    pub lowered_last : (from n : ℕ) (returns below : List ℕ) → IsDown net (SetOf m n) (reverse below)
        → AreSame (Meant net (SetOf m from) returns) (Meant net (SetOf m n) (reverse below)) → All (λ t. t < length net.states) below
        → IsLoweredTo net (SetOf m from) returns (SetOf m n) below
    lowered_last from n returns below down same states =
        record { same = same; down = down; framed = set_framed n; within = set_within n; states = states }

    -- one step by a return state more
    pub goes_down : (from set next newest : ℕ) (returns below older : List ℕ) → below ≡ older ++ (newest ∷ [])
        → number_at m.returns.entries (set, newest) ≡ Some next
        → AreSame (Meant net (SetOf m from) returns) (Meant net (SetOf m set) (reverse below))
        → AreSame (Meant net (SetOf m from) returns) (Meant net (SetOf m next) (reverse older))
    goes_down from set next newest returns below older are noted same =
        let turned : reverse below ≡ newest ∷ reverse older =
        ap (λ (rs : List ℕ). reverse rs) are ∙ reverse-append older (newest ∷ []) in
        let low : AreSame (Meant net (SetOf m set) (reverse below)) (Meant net (SetOf m next) (reverse older)) =
        subst (λ (rs : List ℕ). AreSame (Meant net (SetOf m set) rs) (Meant net (SetOf m next) (reverse older))) (sym turned)
        (same_then (Meant net (SetOf m set) (newest ∷ reverse older)) (Meant net (Lowered net (SetOf m set) (newest ∷ [])) (reverse older))
        (Meant net (SetOf m next) (reverse older))
        (lowered_means net (SetOf m set) (newest ∷ []) (reverse older) (set_framed set).bottomed)
        (meant_same net (Lowered net (SetOf m set) (newest ∷ [])) (SetOf m next) (reverse older)
        (same_back (SetOf m next) (Lowered net (SetOf m set) (newest ∷ [])) (sound.returns set newest next noted).1.1))) in
        same_then (Meant net (SetOf m from) returns) (Meant net (SetOf m set) (reverse below)) (Meant net (SetOf m next) (reverse older))
        same low

    -- the start set
    pub start_is : (d condition n : ℕ) → number_at m.starts.entries (d, condition) ≡ Some n
        → AreSame (SetOf m n) (FramedStart net d (AllowedAt net d condition))
    start_is d condition n noted = (sound.starts d condition n noted).1

    -- and the set after what is kept of another
    pub next_is : (from a n : ℕ) → number_at m.symbols.entries (from, a) ≡ Some n
        → AreSame (SetOf m n) (FramedNext net (Kept net (SetOf m from)) a)
    next_is from a n noted = same_then (SetOf m n) (FramedNext net (SetOf m from) a) (FramedNext net (Kept net (SetOf m from)) a)
        (sound.symbols from a n noted).1.1 (next_kept (SetOf m from) a)

-- of the return states that are below, the newest and the older ones
pub states_older : (net : ParserNetwork) (below older : List ℕ) (newest : ℕ) → below ≡ older ++ (newest ∷ [])
    → All (λ t. t < length net.states) below → All (λ t. t < length net.states) older × (newest < length net.states)
states_older net below older newest are states = All-pop (λ t. t < length net.states) below older (Some newest) are states
