-- A framed set shows the verdicts of the set that it stands for: equal stacks above the hole are equal stacks.
use Rattle.std.proofs.Common.{◌≡◌, ◌↔◌, ℕ, ◌≤◌, List, Bool, refl, sym, ◌∙◌, ap, subst}
use Rattle.std.proofs.lemmas.List.{append_cancel_right}
use Rattle.g4_net.specs.Configurations.{Stack, Config, config}
use Rattle.g4_net.specs.Lookahead.{HaveSameStacks, IsEmpty, IsOnly, Alike, IsLeast}
use Rattle.g4_net.specs.Prediction.{Choice, Settles}
use Rattle.g4_net.specs.Prediction as prediction
use Rattle.g4_lookahead.proofs.Judging.{empty_same, only_same, alike_same, least_same}
use Rattle.g4_frames.specs.Framed.{stack_over, over, Over}
use Rattle.g4_frames.specs.Running.{AreSame, HaveSameVerdicts}

pub agree_back : (D E : Config → Type 0) → HaveSameVerdicts D E → HaveSameVerdicts E D
agree_back D E h = record {
  empty = (h.empty.1, h.empty.0);
  only = λ i. ((h.only i).1, (h.only i).0);
  alike = (h.alike.1, h.alike.0);
  least = λ i. ((h.least i).1, (h.least i).0);
}

-- the same sets do
pub agree_same : (D E : Config → Type 0) → AreSame D E → HaveSameVerdicts D E
agree_same D E h =
    let to : (c : Config) → D c → E c = λ c. (h c).0 in
    let from : (c : Config) → E c → D c = λ c. (h c).1 in
    record {
      empty = (empty_same D E to from, empty_same E D from to);
      only = λ i. (only_same D E to from i, only_same E D from to i);
      alike = (alike_same D E to from, alike_same E D from to);
      least = λ i. (least_same D E to from i, least_same E D from to i);
    }

agree_then : (C D E : Config → Type 0) → HaveSameVerdicts C D → HaveSameVerdicts D E → HaveSameVerdicts C E
agree_then C D E h k = record {
  empty = ((λ x. k.empty.0 (h.empty.0 x)), λ x. h.empty.1 (k.empty.1 x));
  only = λ i. ((λ x. (k.only i).0 ((h.only i).0 x)), λ x. (h.only i).1 ((k.only i).1 x));
  alike = ((λ x. k.alike.0 (h.alike.0 x)), λ x. h.alike.1 (k.alike.1 x));
  least = λ i. ((λ x. (k.least i).0 ((h.least i).0 x)), λ x. (h.least i).1 ((k.least i).1 x));
}

-- sets with the same verdicts settle alike
pub settles_agree : (D E : Config → Type 0) (k : ℕ) (L M : Choice → Type 0) → HaveSameVerdicts D E → ((c : Choice) → L c → M c)
    → (c : Choice) → Settles D k L c → Settles E k M c
settles_agree D E k L M h on _ (prediction.none_left e) = prediction.none_left (h.empty.0 e)
settles_agree D E k L M h on _ (prediction.one_left i o) = prediction.one_left i ((h.only i).0 o)
settles_agree D E k L M h on _ (prediction.least i a l) = prediction.least i (h.alike.0 a) ((h.least i).0 l)
settles_agree D E k L M h on _ (prediction.goes_on c e n s l) =
    prediction.goes_on c (λ x. e (h.empty.1 x)) (λ i x. n i ((h.only i).1 x)) (λ x. s (h.alike.1 x)) (on c l)

module _ (below : List ℕ) where
  -- stacks that are equal over return states are equal
  stacks_equal : (r s : Stack) → stack_over below r ≡ stack_over below s → r ≡ s
  stacks_equal r s is =
      let make : List ℕ → Bool → Stack = λ rs w. record { returns = rs; wild = w } in
      ap (λ (rs : List ℕ). make rs r.wild) (append_cancel_right r.returns s.returns below (ap (λ (z : Stack). z.returns) is))
      ∙ ap (λ (w : Bool). make s.returns w) (ap (λ (z : Stack). z.wild) is)

  -- a configuration by its parts
  by_parts : (c : Config) (p i : ℕ) (s : Stack) → c.state ≡ p → c.alt ≡ i → c.stack ≡ s → c ≡ config p i s
  by_parts c p i s at_p of_i has = ap (λ (q : ℕ). config q c.alt c.stack) at_p ∙ ap (λ (a : ℕ). config p a c.stack) of_i
      ∙ ap (λ (z : Stack). config p i z) has

  module _ (F : Config → Type 0) where
    -- the stacks of a state and an alternative, over return states
    has_over : (p i : ℕ) (s : Stack) → F (config p i s) → Over below F (config p i (stack_over below s))
    has_over p i s h = (config p i s, h, refl)

    of_over : (p i : ℕ) (s : Stack) → Over below F (config p i s) → (r : Stack) × F (config p i r) × (s ≡ stack_over below r)
    of_over p i s (c, h, is) = (
      c.stack,
      subst F (by_parts c p i c.stack (sym (ap (λ (x : Config). x.state) is)) (sym (ap (λ (x : Config). x.alt) is)) refl) h,
      ap (λ (x : Config). x.stack) is,
    )

    from_over : (p i : ℕ) (s : Stack) → Over below F (config p i (stack_over below s)) → F (config p i s)
    from_over p i s h =
        let r = of_over p i (stack_over below s) h in
        subst (λ (z : Stack). F (config p i z)) (sym (stacks_equal s r.0 r.2)) r.1

    -- nothing is left, or one alternative, or the least
    empty_over : IsEmpty F ↔ IsEmpty (Over below F)
    empty_over = ((λ e d (c, i, is). e c i), λ e c i. e (over below c) (c, i, refl))

    only_over : (i : ℕ) → IsOnly F i ↔ IsOnly (Over below F) i
    only_over i = (
      (λ o. record {
        some = (over below o.some.0, (o.some.0, o.some.1, refl));
        all = λ d (c, h, is). ap (λ (x : Config). x.alt) is ∙ o.all c h;
      }),
      (λ o. record { some = (o.some.1.0, o.some.1.1); all = λ c h. o.all (over below c) (c, h, refl) }),
    )

    least_over : (i : ℕ) → IsLeast F i ↔ IsLeast (Over below F) i
    least_over i = (
      (λ l. record {
        some = (over below l.some.0, (l.some.0, l.some.1, refl), l.some.2);
        least = λ d (c, h, is). subst (λ (a : ℕ). i ≤ a) (sym (ap (λ (x : Config). x.alt) is)) (l.least c h);
      }),
      (λ l. record {
        some = (l.some.1.0, l.some.1.1, sym (ap (λ (x : Config). x.alt) l.some.1.2) ∙ l.some.2);
        least = λ c h. l.least (over below c) (c, h, refl);
      }),
    )

    -- two alternatives have the same stacks at a state
    stacks_over : (p i j : ℕ) → HaveSameStacks F p i j → HaveSameStacks (Over below F) p i j
    stacks_over p i j h s = (one i j (λ r. (h r).0), one j i (λ r. (h r).1))
      where
        one : (a b : ℕ) → ((r : Stack) → F (config p a r) → F (config p b r)) → Over below F (config p a s) → Over below F (config p b s)
        one a b to x = let (r, has, is) = of_over p a s x in (config p b r, to r has, ap (λ (z : Stack). config p b z) is)

    stacks_from : (p i j : ℕ) → HaveSameStacks (Over below F) p i j → HaveSameStacks F p i j
    stacks_from p i j h s = (
      (λ x. from_over p j s ((h (stack_over below s)).0 (has_over p i s x))),
      (λ x. from_over p i s ((h (stack_over below s)).1 (has_over p j s x))),
    )

    -- all alternatives are alike
    alike_over : Alike F → Alike (Over below F)
    alike_over h = record {
      several = (let (c, d, in_c, in_d, ne) = h.several in (over below c, over below d, (c, in_c, refl), (d, in_d, refl), ne));
      same = λ c d e (c', in_c, is_c) (d', in_d, is_d) (e', in_e, is_e).
          moved c d e c' d' e' (ap (λ (x : Config). x.alt) is_c) (ap (λ (x : Config). x.alt) is_d) (ap (λ (x : Config). x.state) is_e)
          (stacks_over e'.state c'.alt d'.alt (h.same c' d' e' in_c in_d in_e));
    }
      where
        moved : (c d e c' d' e' : Config) → c.alt ≡ c'.alt → d.alt ≡ d'.alt → e.state ≡ e'.state
            → HaveSameStacks (Over below F) e'.state c'.alt d'.alt → HaveSameStacks (Over below F) e.state c.alt d.alt
        moved c d e c' d' e' of_c of_d at_e x =
            subst (λ (p : ℕ). HaveSameStacks (Over below F) p c.alt d.alt) (sym at_e)
            (subst (λ (i : ℕ). HaveSameStacks (Over below F) e'.state i d.alt) (sym of_c)
            (subst (λ (j : ℕ). HaveSameStacks (Over below F) e'.state c'.alt j) (sym of_d) x))

    alike_from : Alike (Over below F) → Alike F
    alike_from h = record {
      several = (let (x, y, (c, in_c, is_c), (d, in_d, is_d), ne) = h.several in
          (c, d, in_c, in_d, λ same. ne (ap (λ (z : Config). z.alt) is_c ∙ (same ∙ sym (ap (λ (z : Config). z.alt) is_d)))));
      same = λ c d e in_c in_d in_e. stacks_from e.state c.alt d.alt
          (h.same (over below c) (over below d) (over below e) (c, in_c, refl) (d, in_d, refl) (e, in_e, refl));
    }

    -- A set over return states has the verdicts of the set.
    pub agree_over : HaveSameVerdicts F (Over below F)
    agree_over = record { empty = empty_over; only = only_over; alike = (alike_over, alike_from); least = least_over }

  -- and so has each set that is the same
  pub agrees : (D F : Config → Type 0) → AreSame D (Over below F) → HaveSameVerdicts D F
  agrees D F same = agree_then D (Over below F) F (agree_same D (Over below F) same) (agree_back F (Over below F) (agree_over F))
