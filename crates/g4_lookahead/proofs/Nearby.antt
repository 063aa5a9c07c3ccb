-- An alternative that can be decided nearby covers what takes the symbol, with the return states below, so full stacks choose it
-- or none is viable.
use Rattle.std.proofs.Common.{◌≡◌, ◌≤◌, ◌⊎◌, inl, inr, ℕ, List, [], ◌∷◌, ◌++◌, append_assoc, refl, sym, ◌∙◌, ap, subst, All}
use Rattle.std.proofs.lemmas.List.Elements.{All-nil, All-head, All-tail, All-push}
use Rattle.g4_net.specs.Configurations.{Stack, Config, config, above_bottom}
use Rattle.g4_net.specs.Leads.{Reaches}
use Rattle.g4_net.specs.Lookahead.{IsKept, Start, TakesBy}
use Rattle.g4_net.specs.Network.{ParserNetwork, IsFirst, state_at}
use Rattle.g4_net.specs.Prediction.{Choice, Full, chosen, no_viable}
use Rattle.g4_net.proofs.Finite.{reached_keeps}
use Rattle.g4_lookahead.specs.Covering.{Covers, HasExtended, Takers}
use Rattle.g4_lookahead.specs.Ways.{EndsAtOnce}
use Rattle.g4_lookahead.specs.Near.{IsNear, IsPassed, Own, StopsAt}
use Rattle.g4_lookahead.proofs.Covered.{chooses, start_above_bottom}
use Rattle.g4_lookahead.proofs.Parted.{IsEntered, IsParted, over, over_reaches, parted}

-- the configuration's state has an edge that takes the symbol
abbrev CanTake : ParserNetwork → ℕ → Config → Type 0
CanTake net a c = (t : ℕ) × TakesBy (state_at net c.state) a t

module _ (net : ParserNetwork) (d : ℕ) (A : ℕ → Type 0) (returns : List ℕ) where
  -- the start set with the return states
  abbrev Whole : Config → Type 0
  Whole = Start net d A (above_bottom returns)

  -- what the decision leads to before its rule ends is in it, with the return states below
  pub own_whole : (p k : ℕ) (above : List ℕ) → Own net d A (config p k (above_bottom above))
      → Whole (config p k (above_bottom (above ++ returns)))
  own_whole p k above (b, (allowed, first, stack), r, kept) = (
    over returns b,
    (allowed, first, ap (λ (z : Stack). record { returns = z.returns ++ returns; wild = z.wild }) stack),
    over_reaches net returns b (config p k (above_bottom above)) (ap (λ (z : Stack). z.wild) stack) r,
    kept,
  )

  -- so it extends what the return states lead to after some of them, at each of which the rule can end at once
  own_extended : (i p j : ℕ) (above before below : List ℕ) → returns ≡ before ++ below → All (EndsAtOnce net) before
      → Own net d A (config p i (above_bottom above)) → HasExtended net Whole i (config p j (above_bottom (above ++ below)))
  own_extended i p j above before below are ends own = (
    above ++ returns,
    own_whole p i above own,
    record {
      above = above;
      more = before;
      below = below;
      longer_is = ap (λ (rs : List ℕ). above ++ rs) are ∙ sym (append_assoc above before below);
      shorter_is = refl;
      ends = ends;
    },
  )

  -- What takes the symbol after a return to the newest of near return states is covered, by induction on those that are passed.
  below_covered : (a i j : ℕ) (before passed others : List ℕ) (c : Config) → returns ≡ before ++ (passed ++ others)
      → All (EndsAtOnce net) before → All (IsPassed net (Own net d A) a i j) passed → StopsAt net a j others → IsKept net c
      → CanTake net a c → IsEntered net j (passed ++ others) c → HasExtended net Whole i c
  below_covered a i j before [] [] c are ends each stops kept takes r = absurd r
  below_covered a i j before [] (t ∷ more) c are ends each stops kept takes r = elim (parted net t j more c r) [
    | inl h ↦ absurd (stops.none (config c.state j (above_bottom h.above)) ((config t j (above_bottom []), refl, h.reached, kept), takes))
    | inr h ↦ absurd (stops.stays h.0)
  ]
  below_covered a i j before (t ∷ passed) others c are ends each stops kept takes r =
      let first : IsPassed net (Own net d A) a i j t = All-head (IsPassed net (Own net d A) a i j) t passed each in
      let before' : List ℕ = before ++ t ∷ [] in
      let are' : returns ≡ before' ++ (passed ++ others) = are ∙ sym (append_assoc before (t ∷ []) (passed ++ others)) in
      let ends' : All (EndsAtOnce net) before' = All-push (EndsAtOnce net) before t ends first.ends in
      elim (parted net t j (passed ++ others) c r) [
        | inl h ↦ subst (HasExtended net Whole i) (sym h.is)
            (own_extended i c.state j h.above before' (passed ++ others) are' ends'
            (first.covered (config c.state j (above_bottom h.above)) ((config t j (above_bottom []), refl, h.reached, kept), takes)))
        | inr h ↦ below_covered a i j before' passed others c are' ends' (All-tail (IsPassed net (Own net d A) a i j) t passed each)
            stops kept takes h.1
      ]

  -- what is covered by itself
  itself : (i : ℕ) (c : Config) → Whole c → c.alt ≡ i → HasExtended net Whole i c
  itself i c in_c is = (
    c.stack.returns,
    subst (λ (k : ℕ). Whole (config c.state k c.stack)) is in_c,
    record { above = []; more = []; below = c.stack.returns; longer_is = refl; shorter_is = refl; ends = All-nil (EndsAtOnce net) },
  )

  module _ (a i : ℕ) (near : IsNear net d A returns a i) where
    -- The first state of an alternative, which leads to what takes the symbol: the alternative is not less than the near one, which has
    -- this too.
    from_first : (p j : ℕ) (c : Config) → A j → IsFirst net d j p → Whole c → IsKept net c → CanTake net a c → c.alt ≡ j
        → IsParted net p j returns c → (i ≤ j) × HasExtended net Whole i c
    from_first p j c allowed first in_c kept takes is (inl h) =
        let r = near.own (config c.state j (above_bottom h.above))
        ((config p j (above_bottom []), (allowed, first, refl), h.reached, kept), takes) in
        (r.0, subst (HasExtended net Whole i) (sym h.is) (own_extended i c.state j h.above [] returns refl (All-nil (EndsAtOnce net)) r.1))
    from_first p j c allowed first in_c kept takes is (inr h) =
        let r = near.leaving (config p j (above_bottom [])) (allowed, first, refl) h.0 in (
          r.0,
          elim r.1 [
            | inl same ↦ itself i c in_c (is ∙ same)
            | inr n ↦ below_covered a i j [] n.passed n.others c n.are (All-nil (EndsAtOnce net)) n.each n.stops kept takes
                (subst (λ (rs : List ℕ). IsEntered net j rs c) n.are h.1)
          ],
        )

    -- all that takes the symbol is covered, and its alternatives are not less
    told : (c : Config) → Takers net Whole a c → (i ≤ c.alt) × HasExtended net Whole i c
    told c ((b, (allowed, first, stack), r, kept), takes) =
        let is : b.alt ≡ c.alt = (reached_keeps net b c r).0 in
        let r' : Reaches net (config b.state b.alt (above_bottom returns)) c =
        subst (λ (z : Stack). Reaches net (config b.state b.alt z) c) stack r in
        let h = from_first b.state b.alt c allowed first (b, (allowed, first, stack), r, kept) kept takes (sym is)
        (parted net b.state b.alt returns c r') in
        (subst (λ (k : ℕ). i ≤ k) is h.0, h.1)

    -- so it covers them
    near_covers : Covers net (Takers net Whole a) i
    near_covers c (in_c, takes) = let r = (told c (in_c, takes)).1 in (r.0, (r.1, takes), r.2)

    -- full stacks choose it, or none is viable
    pub near_chooses : (w : List ℕ) (c : Choice) → Full net d A (above_bottom returns) (a ∷ w) c
        → (c ≡ chosen i) ⊎ ((k : ℕ) × (c ≡ no_viable k))
    near_chooses w c full = chooses net Whole a i w 0 c (start_above_bottom net d A returns) near_covers (λ x h. (told x h).0) full
