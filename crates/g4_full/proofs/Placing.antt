-- Framed sets that are taken down say what full stacks say.
use Rattle.std.proofs.Common.{◌≡◌, ◌<◌, ◌↔◌, inl, inr, ℕ, List, [], ◌∷◌, ◌++◌, true, drop, length, reverse, take, sym, ◌∙◌, ap, subst, arith}
use Rattle.std.proofs.lemmas.List.{reverse-append, take-append-drop}
use Rattle.std.proofs.lemmas.List.Elements.{All-append}
use Rattle.g4_net.specs.Configurations.{Config, IsWithin, above_bottom}
use Rattle.g4_net.specs.Lookahead.{IsKept, Next, Start, Targets}
use Rattle.g4_net.specs.Network.{ParserNetwork, state_at}
use Rattle.g4_lookahead.specs.EndOfList.{GoesOnFull}
use Rattle.g4_closure.proofs.Reversed.{all_reversed}
use Rattle.g4_frames.specs.Framed.{Over, Meant, IsAtHole, FramedStart, Lowered, FramedNext, Kept, IsDown, IsFramed}
use Rattle.g4_frames.specs.Running.{AreSame}
use Rattle.g4_frames.proofs.Meaning.{AreBottomed, same_then, same_back, down_means, framed, lowered_framed, lowered_means, meant_same, next_means, start_means, targets_bottomed}
use Rattle.g4_frames.proofs.Verdicts.{agree_over}
use Rattle.g4_full.specs.declared.full.Settled.{Settled}
use Rattle.g4_full.specs.declared.full.Settled.TheVariants.{Chosen, NoViable}
use Rattle.g4_full.specs.Places.{IsLoweredTo, IsPlace, IsTakenDown, ends_by}
use Rattle.g4_full.specs.Settled.{SettlesWith}

-- with nothing at the hole a set is taken down
pub clear_down : (net : ParserNetwork) (F : Config → Type 0) (below : List ℕ) → ((c : Config) → F c → IsAtHole net c → ⊥)
    → IsDown net F below
clear_down net F [] clear = tt
clear_down net F (t ∷ more) clear = clear

-- and so it is with no return state below
pub nothing_below : (net : ParserNetwork) (F : Config → Type 0) (below : List ℕ) → length below ≡ 0 → IsDown net F (reverse below)
nothing_below net F [] none = tt
nothing_below net F (t ∷ more) none = absurd (omega (arith, none))

-- what is at the hole has a rule's end for its state
pub at_end : (net : ParserNetwork) (c : Config) (p : ℕ) → c.state ≡ p → IsAtHole net c → ends_by (state_at net p) ≡ true
at_end net c p at (rule, is, _) = ap ends_by (ap (λ (q : ℕ). state_at net q) (sym at) ∙ is)

-- a set with the members of a framed set is framed
pub framed_same : (net : ParserNetwork) (F G : Config → Type 0) → AreSame F G → IsFramed net G → IsFramed net F
framed_same net F G h g = record {
  bottomed = λ c i. g.bottomed c ((h c).0 i);
  held = λ c i. g.held c ((h c).0 i);
  closed = λ c d i r held. (h d).1 (g.closed c d ((h c).0 i) r held);
}

module _ (net : ParserNetwork) where
  -- a lowering by the newest of the return states
  pub lowers_to : (F H : Config → Type 0) (returns older newest : List ℕ) (left : ℕ) → older ≡ take left returns
      → newest ≡ drop left returns → IsFramed net F → AreSame H (Lowered net F (reverse newest))
      → AreSame (Meant net F (reverse returns)) (Meant net H (reverse older))
  lowers_to F H returns older newest left front back f same =
      let both : older ++ newest ≡ returns = ap (λ (rs : List ℕ). rs ++ newest) front
      ∙ (ap (λ (rs : List ℕ). take left returns ++ rs) back ∙ take-append-drop left returns) in
      let turned : reverse returns ≡ reverse newest ++ reverse older =
      ap (λ (rs : List ℕ). reverse rs) (sym both) ∙ reverse-append older newest in
      subst (λ (rs : List ℕ). AreSame (Meant net F rs) (Meant net H (reverse older))) (sym turned)
      (same_then (Meant net F (reverse newest ++ reverse older)) (Meant net (Lowered net F (reverse newest)) (reverse older))
      (Meant net H (reverse older))
      (lowered_means net F (reverse newest) (reverse older) f.bottomed)
      (meant_same net (Lowered net F (reverse newest)) H (reverse older) (same_back H (Lowered net F (reverse newest)) same)))

  pub lowers_framed : (G H : Config → Type 0) (above : List ℕ) → IsFramed net G → AreSame H (Lowered net G above) → IsFramed net H
  lowers_framed G H above g same = framed_same net H (Lowered net G above) same (lowered_framed net G above g.bottomed)

  pub advances_framed : (G H : Config → Type 0) (a : ℕ) → AreBottomed G → AreSame H (FramedNext net G a) → IsFramed net H
  advances_framed G H a bottomed same = framed_same net H (FramedNext net G a) same
      (framed net (Targets net G a) (targets_bottomed net G a bottomed))

  -- a set that is taken down means what is kept of it
  pub taken_down : (F G K : Config → Type 0) (returns below : List ℕ) → IsLoweredTo net F returns G below
      → ((c : Config) → K c ↔ (G c × IsKept net c)) → IsTakenDown net F returns K below
  taken_down F G K returns below low keep = record {
    place = record {
      bottomed = λ c i. low.framed.bottomed c ((keep c).0 i).0;
      kept = λ c i. ((keep c).0 i).1;
      within = λ c i. low.within c ((keep c).0 i).0;
      states = low.states;
    };
    same =
        same_then (Meant net F returns) (Meant net G (reverse below)) (Over (reverse below) K) low.same
        (same_then (Meant net G (reverse below)) (Over (reverse below) (Kept net G)) (Over (reverse below) K)
        (down_means net G (reverse below) low.framed low.down)
        (λ d. ((λ (c, i, is). (c, (keep c).1 i, is)), (λ (c, i, is). (c, (keep c).0 i, is)))));
  }

  -- so the start set, taken down, is the start set over the return states
  pub start_taken : (d : ℕ) (A : ℕ → Type 0) (F H : Config → Type 0) (returns below : List ℕ) → AreSame F (FramedStart net d A)
      → IsTakenDown net F returns H below → AreSame (Over (reverse below) H) (Start net d A (above_bottom returns))
  start_taken d A F H returns below starts taken =
      same_back (Start net d A (above_bottom returns)) (Over (reverse below) H)
      (same_then (Start net d A (above_bottom returns)) (Meant net (FramedStart net d A) returns) (Over (reverse below) H)
      (start_means net d A returns)
      (same_then (Meant net (FramedStart net d A) returns) (Meant net F returns) (Over (reverse below) H)
      (meant_same net (FramedStart net d A) F returns (same_back F (FramedStart net d A) starts)) taken.same))

  -- and the next set, taken down, is the next set
  pub next_taken : (T F H : Config → Type 0) (a : ℕ) (below rest : List ℕ) → AreBottomed T → ((c : Config) → T c → IsKept net c)
      → AreSame F (FramedNext net T a) → IsTakenDown net F (reverse below) H rest
      → AreSame (Over (reverse rest) H) (Next net (Over (reverse below) T) a)
  next_taken T F H a below rest bottomed kept next taken =
      let C : Config → Type 0 = Over (reverse below) T in
      same_back (Next net C a) (Over (reverse rest) H)
      (same_then (Next net C a) (Meant net (FramedNext net T a) (reverse below)) (Over (reverse rest) H)
      (next_means net C T (reverse below) a bottomed (λ x. ((λ (c, i, is). (c, (i, kept c i), is)), (λ (c, i, is). (c, i.0, is)))))
      (same_then (Meant net (FramedNext net T a) (reverse below)) (Meant net F (reverse below)) (Over (reverse rest) H)
      (meant_same net (FramedNext net T a) F (reverse below) (same_back F (FramedNext net T a) next)) taken.same))

  -- it is within the network
  pub over_within : (H : Config → Type 0) (below : List ℕ) → IsPlace net H below → (d : Config) → Over (reverse below) H d → IsWithin net d
  over_within H below place d (c, i, is) =
      let w = place.within c i in
      subst (IsWithin net) (sym is) (
        w.0,
        All-append (λ t. t < length net.states) c.stack.returns (reverse below) w.1
            (all_reversed (λ t. t < length net.states) below place.states),
      )

-- what a set settles, it settles over return states
pub settles_over : (below : List ℕ) (H : Config → Type 0) (k : ℕ) (s : Settled) → SettlesWith H k s → SettlesWith (Over below H) k s
settles_over below H k (Chosen i) (inl only) = inl (((agree_over below H).only i).0 only)
settles_over below H k (Chosen i) (inr (alike, least)) = inr ((agree_over below H).alike.0 alike, ((agree_over below H).least i).0 least)
settles_over below H k (NoViable j) (is, empty) = (is, (agree_over below H).empty.0 empty)

-- and where it settles nothing
pub goes_over : (below : List ℕ) (H : Config → Type 0) → GoesOnFull H → GoesOnFull (Over below H)
goes_over below H goes = record {
  some = λ x. goes.some ((agree_over below H).empty.1 x);
  several = λ i x. goes.several i (((agree_over below H).only i).1 x);
  unlike = λ x. goes.unlike ((agree_over below H).alike.1 x);
}
