-- What is taken over of two graphs is the same where the sets are.
use Rattle.std.proofs.Common.{◌≡◌, ℕ, suc, ◌<◌, ◌≤◌, ◌↔◌, inl, inr, List, [], ◌∷◌, ◌++◌, Some, length, slice_get, refl, sym, ◌∙◌, ap, subst, arith}
use Rattle.std.proofs.lemmas.Option.{slice_get_within}
use Rattle.g4_net.specs.Configurations.{Stack, wildcard}
use Rattle.g4_stacks.specs.Stack.{bottom, pushed}
use Rattle.g4_stacks.specs.Graph.{Content, In, Has, Ascends}
use Rattle.g4_stacks.specs.Table.{IsAdded}
use Rattle.g4_stacks.specs.Canonical.{LeadBelow, IsCanonical}
use Rattle.g4_stacks.specs.Taking.{with_tops, Takes, takes, TakesTops, no_top, a_top, TakesEach, no_root, a_root, Alike, EachAlike}
use Rattle.g4_stacks.proofs.Ordered.{In-low, leads_once}
use Rattle.g4_stacks.proofs.Canonicity.{ByTop, content_equal, tests_equal, has_end, has_wild, has_pushed, witness}
use Rattle.g4_stacks.proofs.Growing.{split_new}
use Rattle.g4_stacks.proofs.Merging.{ByTop-cons, LeadBelow-more}
use Rattle.g4_stacks.proofs.Taking.{sound, sound_tops}

-- the tops mean the same
abbrev pub TopsAlike : List Content → List (ℕ × ℕ) → List Content → List (ℕ × ℕ) → Type 0
TopsAlike g es h fs = (t : ℕ) (s : Stack) → ByTop g es t s ↔ ByTop h fs t s

-- a content added to the same graph gives the same number
added_once : (mid new new' : List Content) (c : Content) (r r' : ℕ) → IsCanonical mid → IsAdded mid c new → IsAdded mid c new'
    → slice_get new r ≡ Some c → slice_get new' r' ≡ Some c → (new ≡ new') × (r ≡ r')
added_once mid new new' c r r' canon (inl same) (inl same') at at' = (
  same ∙ sym same',
  canon.once r r' c (ap (λ (x : List Content). slice_get x r) (sym same) ∙ at)
      (ap (λ (x : List Content). slice_get x r') (sym same') ∙ at'),
)
added_once mid new new' c r r' canon (inl same) (inr more) at at' =
    absurd (more.0 r (ap (λ (x : List Content). slice_get x r) (sym same) ∙ at))
added_once mid new new' c r r' canon (inr more) (inl same) at at' =
    absurd (more.0 r' (ap (λ (x : List Content). slice_get x r') (sym same) ∙ at'))
added_once mid new new' c r r' canon (inr more) (inr more') at at' = (
  more.1 ∙ sym more'.1,
  last r (ap (λ (x : List Content). slice_get x r) (sym more.1) ∙ at)
      ∙ sym (last r' (ap (λ (x : List Content). slice_get x r') (sym more'.1) ∙ at')),
)
  where
    last : (n : ℕ) → slice_get (mid ++ c ∷ []) n ≡ Some c → n ≡ length mid
    last n is = elim (split_new mid c c n is) [ inl old ↦ absurd (more.0 n old) | inr new ↦ new.0 ]

module _ (g h : List Content) (canon_g : IsCanonical g) (canon_h : IsCanonical h) where
  -- a top of the one list is in the other
  there : (es fs : List (ℕ × ℕ)) (t m : ℕ) → TopsAlike g es h fs → 0 < m → m < length g → In (t, m) es → (n : ℕ) × In (t, n) fs
  there es fs t m alike pos m_in i = let w = witness g canon_g (suc m) m (omega arith) pos m_in in
      let r = (alike t w.0).0 (m, i, w.1) in (r.0, r.1)

  back : (es fs : List (ℕ × ℕ)) (t m : ℕ) → TopsAlike g es h fs → 0 < m → m < length h → In (t, m) fs → (n : ℕ) × In (t, n) es
  back es fs t m alike pos m_in i = let w = witness h canon_h (suc m) m (omega arith) pos m_in in
      let r = (alike t w.0).1 (m, i, w.1) in (r.0, r.1)

  record Heads (t m u n : ℕ) (es fs : List (ℕ × ℕ)) : Type 0 where
    states : t ≡ u
    nodes : Alike g m h n
    rests : TopsAlike g es h fs

  heads : (low low' t m u n : ℕ) (es fs : List (ℕ × ℕ)) → Ascends low ((t, m) ∷ es) → Ascends low' ((u, n) ∷ fs)
      → LeadBelow (length g) ((t, m) ∷ es) → LeadBelow (length h) ((u, n) ∷ fs)
      → TopsAlike g ((t, m) ∷ es) h ((u, n) ∷ fs) → Heads t m u n es fs
  heads low low' t m u n es fs asc asc' lead lead' alike = record { states = states; nodes = nodes; rests = rests }
    where
      above : (v : ℕ) → ((q : ℕ) × In (v, q) ((u, n) ∷ fs)) → u ≤ v
      above v (q, inl e) = let is : v ≡ u = ap (λ (x : ℕ × ℕ). x.0) e in omega arith
      above v (q, inr i) = let l = In-low (suc u) v q fs asc'.1 i in omega arith

      above' : (v : ℕ) → ((q : ℕ) × In (v, q) ((t, m) ∷ es)) → t ≤ v
      above' v (q, inl e) = let is : v ≡ t = ap (λ (x : ℕ × ℕ). x.0) e in omega arith
      above' v (q, inr i) = let l = In-low (suc t) v q es asc.1 i in omega arith

      states : t ≡ u
      states =
          let a = above t (there ((t, m) ∷ es) ((u, n) ∷ fs) t m alike lead.0 lead.1 (inl refl)) in
          let b = above' u (back ((t, m) ∷ es) ((u, n) ∷ fs) u n alike lead'.0 lead'.1 (inl refl)) in
          omega arith

      head_g : (s : Stack) → ByTop g ((t, m) ∷ es) t s → Has g m s
      head_g s (q, i, x) = subst (λ (k : ℕ). Has g k s) (leads_once low t q m ((t, m) ∷ es) asc i (inl refl)) x

      head_h : (s : Stack) → ByTop h ((u, n) ∷ fs) u s → Has h n s
      head_h s (q, i, x) = subst (λ (k : ℕ). Has h k s) (leads_once low' u q n ((u, n) ∷ fs) asc' i (inl refl)) x

      nodes : Alike g m h n
      nodes s = (
        (λ x. head_h s (subst (λ (v : ℕ). ByTop h ((u, n) ∷ fs) v s) states ((alike t s).0 (m, inl refl, x)))),
        (λ x. head_g s ((alike t s).1 (subst (λ (v : ℕ). ByTop h ((u, n) ∷ fs) v s) (sym states) (n, inl refl, x)))),
      )

      rests : TopsAlike g es h fs
      rests v s = (to, from)
        where
          to : ByTop g es v s → ByTop h fs v s
          to (q, i, x) = elim ((ByTop-cons h u n v s fs).0 ((alike v s).0 (q, inr i, x))) [
            | inl p ↦ (let l = In-low (suc t) v q es asc.1 i in let e = p.0 in let f = states in absurd (omega arith))
            | inr r ↦ r
          ]

          from : ByTop h fs v s → ByTop g es v s
          from (q, i, x) = elim ((ByTop-cons g t m v s es).0 ((alike v s).1 (q, inr i, x))) [
            | inl p ↦ (let l = In-low (suc u) v q fs asc'.1 i in let e = p.0 in let f = states in absurd (omega arith))
            | inr r ↦ r
          ]

  mutual
    -- the same set gives the same graph and the same number
    pub same_taken : (n m r r' : ℕ) (old new new' : List Content) → IsCanonical old → Alike g n h m → Takes g n old new r
        → Takes h m old new' r' → (new ≡ new') × (r ≡ r')
    same_taken n m r r' old new new' canon alike (takes _ _ c _ mid _ tops at_n below added at_r)
        (takes _ _ d _ mid' _ tops' at_m below' added' at_r') =
        let ends = tests_equal c.end d.end (
          (λ x. (has_end h m d at_m).0 ((alike bottom).0 ((has_end g n c at_n).1 x))),
          (λ x. (has_end g n c at_n).0 ((alike bottom).1 ((has_end h m d at_m).1 x))),
        ) in
        let wilds = tests_equal c.wild d.wild (
          (λ x. (has_wild h m d at_m).0 ((alike wildcard).0 ((has_wild g n c at_n).1 x))),
          (λ x. (has_wild g n c at_n).0 ((alike wildcard).1 ((has_wild h m d at_m).1 x))),
        ) in
        let below_alike : TopsAlike g c.tops h d.tops = λ t s. (
          (λ x. (has_pushed h m d t s at_m).0 ((alike (pushed t s)).0 ((has_pushed g n c t s at_n).1 x))),
          (λ x. (has_pushed g n c t s at_n).0 ((alike (pushed t s)).1 ((has_pushed h m d t s at_m).1 x))),
        ) in
        let plain = canon_g.plain n c at_n in
        let plain' = canon_h.plain m d at_m in
        let n_in = slice_get_within g n c at_n in
        let m_in = slice_get_within h m d at_m in
        let lead = LeadBelow-more n (length g) c.tops (omega arith) plain.lower in
        let lead' = LeadBelow-more m (length h) d.tops (omega arith) plain'.lower in
        let ih = same_tops 0 0 c.tops d.tops tops tops' old mid mid' canon plain.sorted plain'.sorted lead lead' below_alike below below' in
        let is : with_tops d tops' ≡ with_tops c tops =
        content_equal (with_tops d tops') (with_tops c tops) (sym ends) (sym wilds) (sym ih.1) in
        let canon_mid = (sound_tops g canon_g 0 c.tops tops old mid canon plain.sorted lead below).canonical in
        added_once mid new new' (with_tops c tops) r r' canon_mid added
        (subst (λ (x : List Content). IsAdded x (with_tops c tops) new') (sym ih.0)
        (subst (λ (x : Content). IsAdded mid' x new') is added'))
        at_r (at_r' ∙ ap Some is)

    pub same_tops : (low low' : ℕ) (es fs rs rs' : List (ℕ × ℕ)) (old new new' : List Content) → IsCanonical old → Ascends low es
        → Ascends low' fs → LeadBelow (length g) es → LeadBelow (length h) fs → TopsAlike g es h fs
        → TakesTops g es old new rs → TakesTops h fs old new' rs' → (new ≡ new') × (rs ≡ rs')
    same_tops low low' [] [] [] [] old new new' canon asc asc' lead lead' alike (no_top _) (no_top _) = (refl, refl)
    same_tops low low' _ [] _ [] old new new' canon asc asc' lead lead' alike (a_top t m r es rs _ mid _ first rest) (no_top _) =
        absurd (there ((t, m) ∷ es) [] t m alike lead.0 lead.1 (inl refl)).1
    same_tops low low' [] _ [] _ old new new' canon asc asc' lead lead' alike (no_top _) (a_top u n q fs qs _ mid' _ first' rest') =
        absurd (back [] ((u, n) ∷ fs) u n alike lead'.0 lead'.1 (inl refl)).1
    same_tops low low' _ _ _ _ old new new' canon asc asc' lead lead' alike (a_top t m r es rs _ mid _ first rest)
        (a_top u n q fs qs _ mid' _ first' rest') =
        let k = heads low low' t m u n es fs asc asc' lead lead' alike in
        let f = same_taken m n r q old mid mid' canon k.nodes first first' in
        let canon_mid = (sound g canon_g m r old mid canon first).canonical in
        let moved : TakesTops h fs mid new' qs = subst (λ (x : List Content). TakesTops h fs x new' qs) (sym f.0) rest' in
        let ih = same_tops (suc t) (suc u) es fs rs qs mid new new' canon_mid asc.1 asc'.1 lead.2 lead'.2 k.rests rest moved in
        let pairs : (t, r) ≡ (u, q) = ap (λ (x : ℕ). let y : ℕ × ℕ = (x, r) in y) k.states
        ∙ ap (λ (x : ℕ). let y : ℕ × ℕ = (u, x) in y) f.1 in
        (ih.0, ap (λ (x : ℕ × ℕ). x ∷ rs) pairs ∙ ap (λ (x : List (ℕ × ℕ)). (u, q) ∷ x) ih.1)

  pub same_each : (ns ms rs rs' : List ℕ) (old new new' : List Content) → IsCanonical old → EachAlike g ns h ms
      → TakesEach g ns old new rs → TakesEach h ms old new' rs' → (new ≡ new') × (rs ≡ rs')
  same_each [] [] [] [] old new new' canon alike (no_root _) (no_root _) = (refl, refl)
  same_each _ [] _ [] old new new' canon alike (a_root n r ns rs _ mid _ first rest) (no_root _) = absurd alike
  same_each [] _ [] _ old new new' canon alike (no_root _) (a_root m q ms qs _ mid' _ first' rest') = absurd alike
  same_each _ _ _ _ old new new' canon alike (a_root n r ns rs _ mid _ first rest) (a_root m q ms qs _ mid' _ first' rest') =
      let f = same_taken n m r q old mid mid' canon alike.1 first first' in
      let canon_mid = (sound g canon_g n r old mid canon first).canonical in
      let moved : TakesEach h ms mid new' qs = subst (λ (x : List Content). TakesEach h ms x new' qs) (sym f.0) rest' in
      let ih = same_each ns ms rs qs mid new new' canon_mid alike.2 rest moved in
      (ih.0, ap (λ (x : ℕ). x ∷ rs) f.1 ∙ ap (λ (x : List ℕ). q ∷ x) ih.1)
