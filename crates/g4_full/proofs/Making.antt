-- Sets that are made, and what is asked of them.
use Rattle.std.proofs.Common.{◌≡◌, ◌↔◌, ◌<◌, inl, inr, ℕ, zero, suc, List, [], ◌∷◌, Option, Some, None, Contains, IfSome, false, length, slice_get, refl, sym, subst, arith}
use Rattle.g4_configs.specs.Configs.{Holds, View}
use Rattle.g4_frames.specs.Framed.{FramedNext, FramedStart, IsAtHole, IsFramed, IsHeld, Kept, Lowered}
use Rattle.g4_frames.specs.Running.{AreSame}
use Rattle.g4_frames.proofs.Meaning.{same_back, same_then}
use Rattle.g4_guards.specs.Levels.{AllowedAt, AreAllowedAt}
use Rattle.g4_net.specs.Allowed.{Allows}
use Rattle.g4_net.specs.declared.allowed.Allowed.{Allowed}
use Rattle.g4_net.specs.Configurations.{Config, IsRow, IsWithin}
use Rattle.g4_net.specs.Lookahead.{IsKept}
use Rattle.g4_net.specs.Network.{ParserNetwork}
use Rattle.g4_full.specs.declared.frames.Frame.{Frame}
use Rattle.g4_full.specs.declared.frames.Frames.{Frames}
use Rattle.g4_full.specs.declared.live.Live.{Live}
use Rattle.g4_full.specs.Remembered.{HasRow, IsLive, IsNumber, IsRight, IsSet, IsSound, SetOf, row_by, row_of}
use Rattle.g4_full.specs.declared.shown.Shown.{Shown}
use Rattle.g4_full.specs.Settled.{Shows}
use Rattle.g4_full.proofs.Placing.{framed_same}
use Rattle.g4_full.proofs.Showing.{shows_same}

-- the members of a row are those of its set
pub row_same : (row : List Config) (C : Config → Type 0) → IsRow row C → AreSame (Contains row) C
row_same row C is c = ((is.exactly c).0, (is.exactly c).1)

-- a set with the members of one that is numbered
pub row_set : (m : Frames) (n : ℕ) (row : List Config) (C : Config → Type 0) → HasRow m n row → IsRow row C → IsSet m n C
row_set m n row C (lt, same) is =
    (lt, subst (λ (r : List Config). AreSame (Contains r) C) (sym same) (row_same row C is))

-- what is asked of a set is right, by what is found of the set itself and of what is kept of it
pub right_of : (net : ParserNetwork) (e : Frame) (C : Config → Type 0) → IsRow e.set C → IsFramed net C
    → ((c : Config) → C c → IsWithin net c) → (e.at_hole ≡ false → (c : Config) → C c → IsAtHole net c → ⊥)
    → Shows (Kept net C) e.shown → IsRight net e
right_of net e C row framed within clear shows = record {
  framed = framed_same net (Contains e.set) C (row_same e.set C row) framed;
  within = λ c i. within c ((row_same e.set C row c).0 i);
  clear = λ none c i. clear none c ((row_same e.set C row c).0 i);
  shown = shows_same (Kept net C) (Kept net (Contains e.set))
      (λ c. ((λ (i, k). ((row_same e.set C row c).1 i, k)), λ (i, k). ((row_same e.set C row c).0 i, k))) e.shown shows;
}

-- where nothing is at the hole, all of a framed set is kept
pub clear_kept : (net : ParserNetwork) (C : Config → Type 0) → IsFramed net C → ((c : Config) → C c → IsAtHole net c → ⊥)
    → AreSame C (Kept net C)
clear_kept net C framed clear c = ((λ i. (i, kept_of (framed.held c i) (clear c i))), λ i. i.0)
  where
    kept_of : IsHeld net c → (IsAtHole net c → ⊥) → IsKept net c
    kept_of (inl kept) none = kept
    kept_of (inr at) none = absurd (none at)

-- sets with the same members show the same
pub same_shown : (D E : Config → Type 0) → ((c : Config) → D c ↔ E c) → (shown : Shown) → Shows D shown → Shows E shown
same_shown D E same shown shows = shows_same D E (λ c. ((same c).0, (same c).1)) shown shows

-- there is a set for each number
at_some : {X : Type 0} (xs : List X) (k : ℕ) → k < length xs → (x : X) × (slice_get xs k ≡ Some x)
at_some [] k lt = absurd (omega (arith, lt))
at_some (x ∷ xs) zero lt = (x, refl)
at_some (x ∷ xs) (suc k) lt = at_some xs k (omega (arith, lt))

-- a set that is made again from its row
pub loaded_same : (m : Frames) (from : ℕ) (e : Frame) → slice_get m.sets.items from ≡ Some e → (S : Config → Type 0) → IsRow e.set S
    → AreSame S (SetOf m from)
loaded_same m from e at S is = subst (λ (o : Option Frame). AreSame S (Contains (row_by o))) (sym at)
    (same_back (Contains e.set) S (row_same e.set S is))

-- the start set over the alternatives that a condition allows
pub start_at : (net : ParserNetwork) (d condition : ℕ) (allowed : Allowed) (C : Config → Type 0)
    → AreAllowedAt net d condition (Allows allowed)
    → AreSame C (FramedStart net d (Allows allowed)) → AreSame C (FramedStart net d (AllowedAt net d condition))
start_at net d condition allowed C are same =
    same_then C (FramedStart net d (Allows allowed)) (FramedStart net d (AllowedAt net d condition)) same
    (λ c. (
      (λ (x, (may, first, is), reaches, held). (x, ((are x.alt x.state first).0 may, first, is), reaches, held)),
      λ (x, (may, first, is), reaches, held). (x, ((are x.alt x.state first).1 may, first, is), reaches, held),
    ))

module _ (net : ParserNetwork) where
  -- steps from sets with the same members
  next_same : (S T : Config → Type 0) (a : ℕ) → AreSame S T → AreSame (FramedNext net S a) (FramedNext net T a)
  next_same S T a same d = (
    (λ (t, (c, i, takes, is), reaches, held). (t, (c, (same c).0 i, takes, is), reaches, held)),
    λ (t, (c, i, takes, is), reaches, held). (t, (c, (same c).1 i, takes, is), reaches, held),
  )

  lowered_same : (S T : Config → Type 0) (above : List ℕ) → AreSame S T → AreSame (Lowered net S above) (Lowered net T above)
  lowered_same S T above same d = (
    (λ (t, (c, i, is), reaches, held). (t, (c, (same c).0 i, is), reaches, held)),
    λ (t, (c, i, is), reaches, held). (t, (c, (same c).1 i, is), reaches, held),
  )

  -- A set S has the members of that of a number, and a step from it leads to the set D, which has a number too.
  module _ (m : Frames) (from : ℕ) (S D : Config → Type 0) (members : AreSame S (SetOf m from)) where
    pub next_made : (a n : ℕ) → IsSet m n D → AreSame D (FramedNext net S a) → IsSet m n (FramedNext net (SetOf m from) a)
    next_made a n set made = (
      set.0,
      same_then (SetOf m n) D (FramedNext net (SetOf m from) a) set.1
          (same_then D (FramedNext net S a) (FramedNext net (SetOf m from) a) made (next_same S (SetOf m from) a members)),
    )

    pub lowered_made : (above : List ℕ) (n : ℕ) → IsSet m n D → AreSame D (Lowered net S above)
        → IsSet m n (Lowered net (SetOf m from) above)
    lowered_made above n set made = (
      set.0,
      same_then (SetOf m n) D (Lowered net (SetOf m from) above) set.1
          (same_then D (Lowered net S above) (Lowered net (SetOf m from) above) made (lowered_same S (SetOf m from) above members)),
    )

  -- such a set has bottoms, and is within the network
  module _ (m : Frames) (sound : IsSound net m) (from : ℕ) (there : IsNumber m from) (S : Config → Type 0)
      (members : AreSame S (SetOf m from)) where
    pub set_framed : IsFramed net S
    set_framed =
        let (e, is) = at_some m.sets.items from there in
        framed_same net S (SetOf m from) members
        (subst (λ (o : Option Frame). IsFramed net (Contains (row_by o))) (sym is) (sound.sets from e is).framed)

    pub set_within : (c : Config) → S c → IsWithin net c
    set_within c i =
        let (e, is) = at_some m.sets.items from there in
        (sound.sets from e is).within c (subst (λ (o : Option Frame). Contains (row_by o) c) is ((members c).0 i))

-- a set that stays under its number has its members
pub still_same : (old new : Frames) (from : ℕ) (S : Config → Type 0) → row_of new from ≡ row_of old from → AreSame S (SetOf old from)
    → AreSame S (SetOf new from)
still_same old new from S same members = subst (λ (row : List Config). AreSame S (Contains row)) (sym same) members

-- the set that is there, if it has the members of that of its number
pub live_of : (m : Frames) (l : Live) (C : Config → Type 0) → IsSet m l.number C
    → IfSome l.set (λ s. (c : Config) → Holds s c ↔ C c) → IsLive m l
live_of m l C set same = by l.set same
  where
    by : (o : Option View) → IfSome o (λ s. (c : Config) → Holds s c ↔ C c) → IfSome o (λ s. IsSet m l.number (Holds s))
    by None none = tt
    by (Some s) to = (set.0, same_then (SetOf m l.number) C (Holds s) set.1 (λ c. ((to c).1, (to c).0)))
