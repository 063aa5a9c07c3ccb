-- What is taken over means the same, and depends on the sets alone.
use Rattle.std.proofs.Common.{◌≡◌, ℕ, suc, ◌<◌, ◌≤◌, ◌↔◌, inl, inr, List, [], ◌∷◌, ◌++◌, Bool, true, false, Some, IsTrue, length, slice_get, refl, sym, ◌∙◌, ap, subst, arith}
use Rattle.std.proofs.lemmas.Option.{slice_get_within}
use Rattle.g4_net.specs.Configurations.{Stack}
use Rattle.g4_stacks.specs.Graph.{Content, Has, Ascends}
use Rattle.g4_stacks.specs.Table.{IsAdded}
use Rattle.g4_stacks.specs.Canonical.{LeadBelow, IsCanonical, Grows}
use Rattle.g4_stacks.specs.Taking.{with_tops, Takes, takes, TakesTops, no_top, a_top, TakesEach, no_root, a_root, EachAlike}
use Rattle.g4_stacks.proofs.Canonicity.{ByTop, has_end, has_wild, has_pushed, witness}
use Rattle.g4_stacks.proofs.Growing.{keeps, interned, slice_get_left}
use Rattle.g4_stacks.proofs.Marks.{none_in}
use Rattle.g4_stacks.proofs.Merging.{Grows-self, Grows-then, Grows-length, LeadBelow-more, ByTop-grown, ByTop-cons}

pub Grows-added : (g h : List Content) (c : Content) → IsAdded g c h → Grows g h
Grows-added g h c (inl same) = subst (Grows g) (sym same) (Grows-self g)
Grows-added g h c (inr more) = (c ∷ [], more.1)

pub record Taken (other : List Content) (n : ℕ) (old new : List Content) (r : ℕ) : Type 0 where
  pub canonical : IsCanonical new
  pub grows : Grows old new
  pub within : r < length new
  pub means : (s : Stack) → Has new r s ↔ Has other n s

pub record TakenTops (other : List Content) (low : ℕ) (es : List (ℕ × ℕ)) (old new : List Content) (rs : List (ℕ × ℕ)) : Type 0 where
  pub canonical : IsCanonical new
  pub grows : Grows old new
  pub sorted : Ascends low rs
  pub lead : LeadBelow (length new) rs
  pub means : (t : ℕ) (s : Stack) → ByTop new rs t s ↔ ByTop other es t s

-- contents that have the same marks, and tops that mean the same, mean the same
same_means : (g h : List Content) (n m : ℕ) (c d : Content) → slice_get g n ≡ Some c → slice_get h m ≡ Some d → c.end ≡ d.end
    → c.wild ≡ d.wild
    → ((t : ℕ) (s : Stack) → ByTop g c.tops t s ↔ ByTop h d.tops t s) → (s : Stack) → Has g n s ↔ Has h m s
same_means g h n m c d at_g at_h ends wilds tops s = by s.returns s.wild
  where
    by : (returns : List ℕ) (wild : Bool) → let s : Stack = record { returns = returns; wild = wild } in Has g n s ↔ Has h m s
    by [] true = (
      (λ x. (has_wild h m d at_h).1 (subst IsTrue wilds ((has_wild g n c at_g).0 x))),
      (λ x. (has_wild g n c at_g).1 (subst IsTrue (sym wilds) ((has_wild h m d at_h).0 x))),
    )
    by [] false = (
      (λ x. (has_end h m d at_h).1 (subst IsTrue ends ((has_end g n c at_g).0 x))),
      (λ x. (has_end g n c at_g).1 (subst IsTrue (sym ends) ((has_end h m d at_h).0 x))),
    )
    by (t ∷ rest) wild = let s : Stack = record { returns = rest; wild = wild } in (
      (λ x. (has_pushed h m d t s at_h).1 ((tops t s).0 ((has_pushed g n c t s at_g).0 x))),
      (λ x. (has_pushed g n c t s at_g).1 ((tops t s).1 ((has_pushed h m d t s at_h).0 x))),
    )

module _ (other : List Content) (canon : IsCanonical other) where
  -- what is made of the tops, put together
  pub made : (n r : ℕ) (c : Content) (old mid new : List Content) (tops : List (ℕ × ℕ)) → slice_get other n ≡ Some c
      → TakenTops other 0 c.tops old mid tops
      → IsAdded mid (with_tops c tops) new → slice_get new r ≡ Some (with_tops c tops) → Taken other n old new r
  made n r c old mid new tops at_n below added at_r =
      let grown = Grows-added mid new (with_tops c tops) added in
      record {
        canonical = interned mid mid new (with_tops c tops) refl below.canonical
            (record { sorted = below.sorted; lower = below.lead }) added;
        grows = Grows-then old mid new below.grows grown;
        within = slice_get_within new r _ at_r;
        means = same_means new other r n (with_tops c tops) c at_r at_n refl refl (λ t s.
            let k = ByTop-grown mid new tops t s below.canonical grown below.lead in
            ((λ x. (below.means t s).0 (k.1 x)), (λ x. k.0 ((below.means t s).1 x))));
      }

  pub put : (low t m r : ℕ) (es rs : List (ℕ × ℕ)) (old mid new : List Content) → m < length other → 0 < m → low ≤ t
      → Taken other m old mid r → TakenTops other (suc t) es mid new rs → TakenTops other low ((t, m) ∷ es) old new ((t, r) ∷ rs)
  put low t m r es rs old mid new m_in pos le first rest =
      let w = witness other canon (suc m) m (omega arith) pos m_in in
      let not_none : r ≡ 0 → ⊥ = λ e. none_in mid first.canonical w.0 (subst (λ (x : ℕ). Has mid x w.0) e ((first.means w.0).1 w.1)) in
      let l = Grows-length mid new rest.grows in
      let inside = first.within in
      let kept : (s : Stack) → Has mid r s ↔ Has new r s = (keeps mid new first.canonical rest.grows r first.within).1 in
      record {
        canonical = rest.canonical;
        grows = Grows-then old mid new first.grows rest.grows;
        sorted = (le, rest.sorted);
        lead = (omega (arith, not_none), omega arith, rest.lead);
        means = λ u s. (
          (λ x. elim ((ByTop-cons new t r u s rs).0 x) [
            | inl p ↦ (ByTop-cons other t m u s es).1 (inl (p.0, (first.means s).0 ((kept s).1 p.1)))
            | inr q ↦ (ByTop-cons other t m u s es).1 (inr ((rest.means u s).0 q))
          ]),
          (λ x. elim ((ByTop-cons other t m u s es).0 x) [
            | inl p ↦ (ByTop-cons new t r u s rs).1 (inl (p.0, (kept s).0 ((first.means s).1 p.1)))
            | inr q ↦ (ByTop-cons new t r u s rs).1 (inr ((rest.means u s).1 q))
          ]),
        );
      }

  mutual
    pub sound : (n r : ℕ) (old new : List Content) → IsCanonical old → Takes other n old new r → Taken other n old new r
    sound n r old new canon_old (takes _ _ c _ mid _ tops at_n below added at_r) =
        let plain = canon.plain n c at_n in
        let n_in = slice_get_within other n c at_n in
        made n r c old mid new tops at_n (sound_tops 0 c.tops tops old mid canon_old plain.sorted
        (LeadBelow-more n (length other) c.tops (omega arith) plain.lower) below) added at_r

    pub sound_tops : (low : ℕ) (es rs : List (ℕ × ℕ)) (old new : List Content) → IsCanonical old → Ascends low es
        → LeadBelow (length other) es → TakesTops other es old new rs → TakenTops other low es old new rs
    sound_tops low [] [] old new canon_old asc lead (no_top _) =
        record {
          canonical = canon_old;
          grows = Grows-self old;
          sorted = tt;
          lead = tt;
          means = λ t s. ((λ x. absurd x.1), (λ x. absurd x.1));
        }
    sound_tops low _ _ old new canon_old asc lead (a_top t m r es rs _ mid _ first rest) =
        let f = sound m r old mid canon_old first in
        put low t m r es rs old mid new lead.1 lead.0 asc.0 f (sound_tops (suc t) es rs mid new f.canonical asc.1 lead.2 rest)

-- taken over once, it is found again
mutual
  pub again : (other : List Content) (n r : ℕ) (old new later : List Content) → Takes other n old new r → Grows new later
      → Takes other n later later r
  again other n r old new later (takes _ _ c _ mid _ tops at_n below added at_r) grows =
      takes n r c later later later tops at_n (again_tops other c.tops tops old mid later below
      (Grows-then mid new later (Grows-added mid new _ added) grows)) (inl refl) (kept_at grows at_r)
    where
      kept_at : {d : Content} → Grows new later → slice_get new r ≡ Some d → slice_get later r ≡ Some d
      kept_at {d} g is = ap (λ (x : List Content). slice_get x r) g.1 ∙ (slice_get_left new g.0 r (slice_get_within new r d is) ∙ is)

  pub again_tops : (other : List Content) (es rs : List (ℕ × ℕ)) (old new later : List Content) → TakesTops other es old new rs
      → Grows new later → TakesTops other es later later rs
  again_tops other [] [] old new later (no_top _) grows = no_top later
  again_tops other _ _ old new later (a_top t m r es rs _ mid _ first rest) grows =
      a_top t m r es rs later later later
      (again other m r old mid later first (Grows-then mid new later (Grows-tops other es rs mid new rest) grows))
      (again_tops other es rs mid new later rest grows)

  pub Grows-takes : (other : List Content) (n r : ℕ) (old new : List Content) → Takes other n old new r → Grows old new
  Grows-takes other n r old new (takes _ _ c _ mid _ tops at_n below added at_r) =
      Grows-then old mid new (Grows-tops other c.tops tops old mid below) (Grows-added mid new _ added)

  pub Grows-tops : (other : List Content) (es rs : List (ℕ × ℕ)) (old new : List Content) → TakesTops other es old new rs → Grows old new
  Grows-tops other [] [] old new (no_top _) = Grows-self old
  Grows-tops other _ _ old new (a_top t m r es rs _ mid _ first rest) =
      Grows-then old mid new (Grows-takes other m r old mid first) (Grows-tops other es rs mid new rest)

-- a top more at the end
pub TakesTops-push : (other : List Content) (es rs : List (ℕ × ℕ)) (t m r : ℕ) (old mid new : List Content)
    → TakesTops other es old mid rs → Takes other m mid new r → TakesTops other (es ++ (t, m) ∷ []) old new (rs ++ (t, r) ∷ [])
TakesTops-push other [] [] t m r old mid new (no_top _) last = a_top t m r [] [] old new new last (no_top new)
TakesTops-push other _ _ t m r old mid new (a_top u n q es rs _ next _ first rest) last =
    a_top u n q _ _ old next new first (TakesTops-push other es rs t m r next mid new rest last)

-- a root more at the end
pub TakesEach-push : (other : List Content) (es rs : List ℕ) (m r : ℕ) (old mid new : List Content) → TakesEach other es old mid rs
    → Takes other m mid new r → TakesEach other (es ++ m ∷ []) old new (rs ++ r ∷ [])
TakesEach-push other [] [] m r old mid new (no_root _) last = a_root m r [] [] old new new last (no_root new)
TakesEach-push other _ _ m r old mid new (a_root n q es rs _ next _ first rest) last =
    a_root n q _ _ old next new first (TakesEach-push other es rs m r next mid new rest last)

pub record TakenEach (other : List Content) (ns : List ℕ) (old new : List Content) (rs : List ℕ) : Type 0 where
  pub canonical : IsCanonical new
  pub grows : Grows old new
  pub means : EachAlike other ns new rs

-- nodes that mean the same still do in a grown graph
each_grown : (other g h : List Content) (ns rs : List ℕ) → IsCanonical g → Grows g h → EachAlike other ns g rs → EachAlike other ns h rs
each_grown other g h [] [] canon grows e = tt
each_grown other g h [] (r ∷ rs) canon grows e = absurd e
each_grown other g h (n ∷ ns) [] canon grows e = absurd e
each_grown other g h (n ∷ ns) (r ∷ rs) canon grows e =
    let k = keeps g h canon grows r e.0 in
    (k.0, (λ s. ((λ x. (k.1 s).0 ((e.1 s).0 x)), (λ x. (e.1 s).1 ((k.1 s).1 x)))), each_grown other g h ns rs canon grows e.2)

pub sound_each : (other : List Content) → IsCanonical other → (ns rs : List ℕ) (old new : List Content) → IsCanonical old
    → TakesEach other ns old new rs → TakenEach other ns old new rs
sound_each other canon [] [] old new canon_old (no_root _) = record { canonical = canon_old; grows = Grows-self old; means = tt }
sound_each other canon _ _ old new canon_old (a_root n r ns rs _ mid _ first rest) =
    let f = sound other canon n r old mid canon_old first in
    let k = sound_each other canon ns rs mid new f.canonical rest in
    let kept = keeps mid new f.canonical k.grows r f.within in
    record {
      canonical = k.canonical;
      grows = Grows-then old mid new f.grows k.grows;
      means = (kept.0, (λ s. ((λ x. (kept.1 s).0 ((f.means s).1 x)), (λ x. (f.means s).0 ((kept.1 s).1 x)))), k.means);
    }
