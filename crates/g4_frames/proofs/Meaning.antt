-- Closing as far as the hole, a step by a return state and a step by a symbol keep what a framed set means.
use Rattle.std.proofs.Common.{◌≡◌, inl, inr, ℕ, List, [], ◌∷◌, ◌++◌, false, Option, Some, None, refl, sym, ◌∙◌, ap, subst}
use Rattle.g4_net.specs.Configurations.{Stack, Config, config, at, above_bottom}
use Rattle.g4_net.specs.declared.network.State.{State}
use Rattle.g4_net.specs.declared.network.State.TheVariants.{Decision, End, Edge, Call, Predicate, Level, Action, Empty}
use Rattle.g4_net.specs.Leads.{Reaches, here}
use Rattle.g4_net.specs.Lookahead.{Firsts, IsKept, IsKeptBy, Next, Rest, Start, TakesBy, Targets}
use Rattle.g4_net.specs.Network.{ParserNetwork, IsFirst, state_at}
use Rattle.g4_net.proofs.Finite.{reached_keeps}
use Rattle.g4_frames.specs.Framed.{over, stack_over, Over, Meant, Framed, FramedStart, Lowered, FramedNext, Kept, IsDown, IsFramed}
use Rattle.g4_frames.specs.Running.{AreSame}
use Rattle.g4_frames.proofs.Parting.{and_then, over_none, over_over, over_reaches, parted}

-- the configurations of the set have bottoms for holes
abbrev pub AreBottomed : (Config → Type 0) → Type 0
AreBottomed C = (c : Config) → C c → c.stack.wild ≡ false

-- sets that are the same as others
pub same_then : (C D E : Config → Type 0) → AreSame C D → AreSame D E → AreSame C E
same_then C D E h k c = ((λ i. (k c).0 ((h c).0 i)), λ i. (h c).1 ((k c).1 i))

pub same_back : (C D : Config → Type 0) → AreSame C D → AreSame D C
same_back C D h c = ((h c).1, (h c).0)

module _ (net : ParserNetwork) where
  -- what is kept of the same sets
  pub rest_same : (C D : Config → Type 0) → AreSame C D → AreSame (Rest net C) (Rest net D)
  rest_same C D h d = ((λ (c, i, r, kept). (c, (h c).0 i, r, kept)), λ (c, i, r, kept). (c, (h c).1 i, r, kept))

  -- some return states and then the others
  over_append : (F : Config → Type 0) (above rest : List ℕ) → AreSame (Over (above ++ rest) F) (Over rest (Over above F))
  over_append F above rest d = (
    (λ (c, i, is). (over above c, (c, i, refl), is ∙ sym (over_over above rest c))),
    (λ (e, (c, i, is_e), is). (c, i, is ∙ (ap (over rest) is_e ∙ over_over above rest c))),
  )

  over_bottomed : (F : Config → Type 0) (below : List ℕ) → AreBottomed F → AreBottomed (Over below F)
  over_bottomed F below h d (c, i, is) = ap (λ (x : Config). x.stack.wild) is ∙ h c i

  pub targets_bottomed : (F : Config → Type 0) (a : ℕ) → AreBottomed F → AreBottomed (Targets net F a)
  targets_bottomed F a h d (c, i, takes, is) = ap (λ (x : Config). x.stack.wild) is ∙ h c i

  -- what is held of a set with bottoms is framed
  pub framed : (C : Config → Type 0) → AreBottomed C → IsFramed net (Framed net C)
  framed C h = record {
    bottomed = λ d (c, i, r, held). sym (reached_keeps net c d r).1 ∙ h c i;
    held = λ d (c, i, r, held). held;
    closed = λ d e (c, i, r, held) s held_e. (c, i, and_then net c d e r s, held_e);
  }

  -- Closing as far as the hole keeps the meaning.
  pub closing_means : (C : Config → Type 0) (below : List ℕ) → AreBottomed C → AreSame (Meant net C below) (Meant net (Framed net C) below)
  closing_means C below h d = (to, from)
    where
      to : Meant net C below d → Meant net (Framed net C) below d
      to (x, (c, i, is), r, kept) = elim (parted net below c d (h c i) (subst (λ (y : Config). Reaches net y d) is r)) [
        | inl a ↦ (
          over below a.own,
          (a.own, (c, i, a.reached, inl (subst (IsKept net) a.is kept)), refl),
          subst (Reaches net (over below a.own)) (sym a.is) here,
          kept,
        )
        | inr t ↦ (over below t.hole, (t.hole, (c, i, t.reached, inr t.at_hole), refl), t.from, kept)
      ]

      from : Meant net (Framed net C) below d → Meant net C below d
      from (x, (e, (c, i, r, held), is), s, kept) = (
        over below c,
        (c, i, refl),
        and_then net (over below c) (over below e) d (over_reaches net below c e (h c i) r) (subst (λ (y : Config). Reaches net y d) is s),
        kept,
      )

  -- Where nothing is at the hole, or no return state is below, a framed set means what is kept of it.
  pub down_means : (F : Config → Type 0) (below : List ℕ) → IsFramed net F → IsDown net F below
      → AreSame (Meant net F below) (Over below (Kept net F))
  down_means F [] f clear d = (to, from)
    where
      to : Meant net F [] d → Over [] (Kept net F) d
      to (x, (c, i, is), r, kept) = (
        d,
        (
          f.closed c d i (subst (λ (y : Config). Reaches net y d) (is ∙ over_none c) r) (inl kept),
          kept,
        ),
        sym (over_none d),
      )

      from : Over [] (Kept net F) d → Meant net F [] d
      from (c, (i, kept), is) = (over [] c, (c, i, refl), subst (Reaches net (over [] c)) (sym is) here, subst (IsKept net) (sym is) kept)
  down_means F (t ∷ rest) f clear d = (to, from)
    where
      to : Meant net F (t ∷ rest) d → Over (t ∷ rest) (Kept net F) d
      to (x, (c, i, is), r, kept) = elim (parted net (t ∷ rest) c d (f.bottomed c i) (subst (λ (y : Config). Reaches net y d) is r)) [
        | inl a ↦ (let kept' : IsKept net a.own = subst (IsKept net) a.is kept in
            (a.own, (f.closed c a.own i a.reached (inl kept'), kept'), a.is))
        | inr h ↦ absurd (clear h.hole (f.closed c h.hole i h.reached (inr h.at_hole)) h.at_hole)
      ]

      from : Over (t ∷ rest) (Kept net F) d → Meant net F (t ∷ rest) d
      from (c, (i, kept), is) = (
        over (t ∷ rest) c,
        (c, i, refl),
        subst (Reaches net (over (t ∷ rest) c)) (sym is) here,
        subst (IsKept net) (sym is) kept,
      )

  -- A step by return states keeps the meaning.
  pub lowered_means : (F : Config → Type 0) (above rest : List ℕ) → AreBottomed F
      → AreSame (Meant net F (above ++ rest)) (Meant net (Lowered net F above) rest)
  lowered_means F above rest h =
      same_then (Meant net F (above ++ rest)) (Meant net (Over above F) rest) (Meant net (Lowered net F above) rest)
      (rest_same (Over (above ++ rest) F) (Over rest (Over above F)) (over_append F above rest))
      (closing_means (Over above F) rest (over_bottomed F above h))

  pub lowered_framed : (F : Config → Type 0) (above : List ℕ) → AreBottomed F → IsFramed net (Lowered net F above)
  lowered_framed F above h = framed (Over above F) (over_bottomed F above h)

  -- so a set that is taken down means what is kept of it
  pub taken_means : (F : Config → Type 0) (above rest below : List ℕ) → IsFramed net F → below ≡ above ++ rest
      → IsDown net (Lowered net F above) rest → AreSame (Meant net F below) (Over rest (Kept net (Lowered net F above)))
  taken_means F above rest below f are clear =
      subst (λ (rs : List ℕ). AreSame (Meant net F rs) (Over rest (Kept net (Lowered net F above)))) (sym are)
      (same_then (Meant net F (above ++ rest)) (Meant net (Lowered net F above) rest) (Over rest (Kept net (Lowered net F above)))
      (lowered_means F above rest f.bottomed)
      (down_means (Lowered net F above) rest (lowered_framed F above f.bottomed) clear))

  -- the first states of a decision
  firsts_bottomed : (d : ℕ) (A : ℕ → Type 0) → AreBottomed (Firsts net d A (above_bottom []))
  firsts_bottomed d A c (allowed, first, is) = ap (λ (z : Stack). z.wild) is

  firsts_over : (d : ℕ) (A : ℕ → Type 0) (below : List ℕ)
      → AreSame (Firsts net d A (above_bottom below)) (Over below (Firsts net d A (above_bottom [])))
  firsts_over d A below c = (
    (λ (allowed, first, is). (
      config c.state c.alt (above_bottom []),
      (allowed, first, refl),
      ap (λ (z : Stack). config c.state c.alt z) is,
    )),
    (λ (b, (allowed, first, is), same). (
      subst A (sym (ap (λ (x : Config). x.alt) same)) allowed,
      subst (λ (x : Config). IsFirst net d x.alt x.state) (sym same) first,
      ap (λ (x : Config). x.stack) same ∙ ap (stack_over below) is,
    )),
  )

  -- The framed start set means the start set.
  pub start_framed : (d : ℕ) (A : ℕ → Type 0) → IsFramed net (FramedStart net d A)
  start_framed d A = framed (Firsts net d A (above_bottom [])) (firsts_bottomed d A)

  pub start_means : (d : ℕ) (A : ℕ → Type 0) (below : List ℕ)
      → AreSame (Start net d A (above_bottom below)) (Meant net (FramedStart net d A) below)
  start_means d A below =
      same_then (Start net d A (above_bottom below)) (Meant net (Firsts net d A (above_bottom [])) below)
      (Meant net (FramedStart net d A) below)
      (rest_same (Firsts net d A (above_bottom below)) (Over below (Firsts net d A (above_bottom []))) (firsts_over d A below))
      (closing_means (Firsts net d A (above_bottom [])) below (firsts_bottomed d A))

  -- what takes a symbol is kept
  takes_kept : (o : Option (State (List ℕ))) (a u : ℕ) → TakesBy o a u → IsKeptBy o
  takes_kept None a u h = absurd h
  takes_kept (Some (Decision targets)) a u h = absurd h
  takes_kept (Some (End rule)) a u h = absurd h
  takes_kept (Some (Edge set t)) a u h = tt
  takes_kept (Some (Call rule level back)) a u h = absurd h
  takes_kept (Some (Predicate k t)) a u h = absurd h
  takes_kept (Some (Level q t)) a u h = absurd h
  takes_kept (Some (Action t)) a u h = absurd h
  takes_kept (Some (Empty t)) a u h = absurd h

  -- the targets of what is kept, over return states
  targets_over : (F : Config → Type 0) (below : List ℕ) (a : ℕ)
      → AreSame (Targets net (Over below (Kept net F)) a) (Over below (Targets net F a))
  targets_over F below a d = (to, from)
    where
      to : Targets net (Over below (Kept net F)) a d → Over below (Targets net F a) d
      to (x, (c, (i, kept), is), takes, same) = (
        at c d.state,
        (c, i, subst (λ (y : Config). TakesBy (state_at net y.state) a d.state) is takes, refl),
        same ∙ ap (λ (y : Config). at y d.state) is,
      )

      from : Over below (Targets net F a) d → Targets net (Over below (Kept net F)) a d
      from (y, (c, i, takes, same), is) =
          let e : d.state ≡ y.state = ap (λ (x : Config). x.state) is in (
            over below c,
            (c, (i, takes_kept (state_at net c.state) a y.state takes), refl),
            subst (λ (u : ℕ). TakesBy (state_at net c.state) a u) (sym e) takes,
            is ∙ (ap (over below) same ∙ ap (λ (u : ℕ). at (over below c) u) (sym e)),
          )

  -- A step by a symbol means the next set, from a set that is taken down.
  pub next_framed : (F : Config → Type 0) (a : ℕ) → IsFramed net F → IsFramed net (FramedNext net F a)
  next_framed F a f = framed (Targets net F a) (targets_bottomed F a f.bottomed)

  next_of_same : (C D : Config → Type 0) (a : ℕ) → AreSame C D → AreSame (Next net C a) (Next net D a)
  next_of_same C D a h = rest_same (Targets net C a) (Targets net D a)
      (λ d. ((λ (c, i, takes, is). (c, (h c).0 i, takes, is)), λ (c, i, takes, is). (c, (h c).1 i, takes, is)))

  pub next_means : (C F : Config → Type 0) (below : List ℕ) (a : ℕ) → AreBottomed F → AreSame C (Over below (Kept net F))
      → AreSame (Next net C a) (Meant net (FramedNext net F a) below)
  next_means C F below a f means =
      same_then (Next net C a) (Next net (Over below (Kept net F)) a) (Meant net (FramedNext net F a) below)
      (next_of_same C (Over below (Kept net F)) a means)
      (same_then (Next net (Over below (Kept net F)) a) (Meant net (Targets net F a) below) (Meant net (FramedNext net F a) below)
      (rest_same (Targets net (Over below (Kept net F)) a) (Over below (Targets net F a)) (targets_over F below a))
      (closing_means (Targets net F a) below (targets_bottomed F a f)))

  -- so, from a set that is taken down, what the next set of its meaning is
  pub next_meant : (F : Config → Type 0) (below : List ℕ) (a : ℕ) → IsFramed net F → IsDown net F below
      → AreSame (Next net (Meant net F below) a) (Meant net (FramedNext net F a) below)
  next_meant F below a f clear = next_means (Meant net F below) F below a f.bottomed (down_means F below f clear)

  -- sets with the same members mean the same
  pub meant_same : (F G : Config → Type 0) (below : List ℕ) → AreSame F G → AreSame (Meant net F below) (Meant net G below)
  meant_same F G below h = rest_same (Over below F) (Over below G)
      (λ d. ((λ (c, i, is). (c, (h c).0 i, is)), λ (c, i, is). (c, (h c).1 i, is)))
