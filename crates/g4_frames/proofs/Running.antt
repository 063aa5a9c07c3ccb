-- Full stacks say what framed sets say.
use Rattle.std.proofs.Common.{◌≡◌, ◌↔◌, ℕ, suc, List, [], ◌∷◌, ◌++◌, sym}
use Rattle.std.proofs.lemmas.List.{append-nil}
use Rattle.g4_net.specs.Configurations.{Config, above_bottom}
use Rattle.g4_net.specs.Lookahead.{Next, Start}
use Rattle.g4_net.specs.Network.{ParserNetwork}
use Rattle.g4_net.specs.Prediction.{Choice, Full, FullFrom}
use Rattle.g4_frames.specs.Framed.{Over, Meant, FramedStart, FramedNext, Lowered, Kept, IsDown, IsFramed}
use Rattle.g4_frames.specs.Running.{AreSame, HaveSameVerdicts, FramedFrom, FramedFull}
use Rattle.g4_frames.proofs.Meaning.{same_then, start_framed, start_means, next_framed, next_means, lowered_framed, taken_means}
use Rattle.g4_frames.proofs.Verdicts.{agree_back, agrees, settles_agree}

module _ (net : ParserNetwork) where
  -- A framed set that stands for the set over return states: it is taken down, and what is kept of it is the set.
  pub record StandsFor (F : Config → Type 0) (below : List ℕ) (C : Config → Type 0) : Type 0 where
    pub framed : IsFramed net F
    pub down : IsDown net F below
    pub same : AreSame C (Over below (Kept net F))

  -- the start set, taken down
  pub start_stands : (d : ℕ) (A : ℕ → Type 0) (returns above rest : List ℕ) → returns ≡ above ++ rest
      → IsDown net (Lowered net (FramedStart net d A) above) rest
      → StandsFor (Lowered net (FramedStart net d A) above) rest (Start net d A (above_bottom returns))
  start_stands d A returns above rest are clear = record {
    framed = lowered_framed net (FramedStart net d A) above (start_framed net d A).bottomed;
    down = clear;
    same = same_then (Start net d A (above_bottom returns)) (Meant net (FramedStart net d A) returns)
        (Over rest (Kept net (Lowered net (FramedStart net d A) above)))
        (start_means net d A returns)
        (taken_means net (FramedStart net d A) above rest returns (start_framed net d A) are clear);
  }

  -- the next set, taken down
  pub next_stands : (C F : Config → Type 0) (a : ℕ) (below above rest : List ℕ) → StandsFor F below C → below ≡ above ++ rest
      → IsDown net (Lowered net (FramedNext net F a) above) rest → StandsFor (Lowered net (FramedNext net F a) above) rest (Next net C a)
  next_stands C F a below above rest h are clear = record {
    framed = lowered_framed net (FramedNext net F a) above (next_framed net F a h.framed).bottomed;
    down = clear;
    same = same_then (Next net C a) (Meant net (FramedNext net F a) below) (Over rest (Kept net (Lowered net (FramedNext net F a) above)))
        (next_means net C F below a h.framed.bottomed h.same)
        (taken_means net (FramedNext net F a) above rest below (next_framed net F a h.framed) are clear);
  }

  -- it shows the set's verdicts
  stands_agree : (C F : Config → Type 0) (below : List ℕ) → StandsFor F below C → HaveSameVerdicts C (Kept net F)
  stands_agree C F below h = agrees below C (Kept net F) h.same

  -- what framed sets say, full stacks say
  from_framed : (w : List ℕ) (k : ℕ) (C F : Config → Type 0) (below : List ℕ) → StandsFor F below C → (c : Choice)
      → FramedFrom net F below w k c → FullFrom net C w k c
  from_framed [] k C F below h c says = says
  from_framed (a ∷ w) k C F below h c (above, rest, are, clear, says) =
      let G : Config → Type 0 = Lowered net (FramedNext net F a) above in
      let D : Config → Type 0 = Next net C a in
      let stands : StandsFor G rest D = next_stands C F a below above rest h are clear in
      settles_agree (Kept net G) D k (FramedFrom net G rest w (suc k)) (FullFrom net D w (suc k))
      (agree_back D (Kept net G) (stands_agree D G rest stands)) (from_framed w (suc k) D G rest stands) c says

  -- and the other way: all return states may be taken
  to_framed : (w : List ℕ) (k : ℕ) (C F : Config → Type 0) (below : List ℕ) → StandsFor F below C → (c : Choice)
      → FullFrom net C w k c → FramedFrom net F below w k c
  to_framed [] k C F below h c says = says
  to_framed (a ∷ w) k C F below h c says =
      let G : Config → Type 0 = Lowered net (FramedNext net F a) below in
      let D : Config → Type 0 = Next net C a in
      let are : below ≡ below ++ [] = sym (append-nil below) in
      let stands : StandsFor G [] D = next_stands C F a below below [] h are tt in (
        below,
        [],
        are,
        tt,
        settles_agree D (Kept net G) k (FullFrom net D w (suc k)) (FramedFrom net G [] w (suc k))
            (stands_agree D G [] stands) (to_framed w (suc k) D G [] stands) c says,
      )

  -- Full stacks choose what framed sets choose.
  pub frames_choose : (d : ℕ) (A : ℕ → Type 0) (returns w : List ℕ) (c : Choice)
      → Full net d A (above_bottom returns) w c ↔ FramedFull net d A returns w c
  frames_choose d A returns w c = (to, from)
    where
      to : Full net d A (above_bottom returns) w c → FramedFull net d A returns w c
      to says =
          let are : returns ≡ returns ++ [] = sym (append-nil returns) in
          let G : Config → Type 0 = Lowered net (FramedStart net d A) returns in (
            returns,
            [],
            are,
            tt,
            to_framed w 0 (Start net d A (above_bottom returns)) G []
                (start_stands d A returns returns [] are tt) c says,
          )

      from : FramedFull net d A returns w c → Full net d A (above_bottom returns) w c
      from (above, rest, are, clear, says) =
          from_framed w 0 (Start net d A (above_bottom returns)) (Lowered net (FramedStart net d A) above) rest
          (start_stands d A returns above rest are clear) c says
