-- Shapes: the lists of nodes that were taken over, and copies that are equal where the sets are.
use Rattle.std.proofs.Common.{◌≡◌, ℕ, zero, suc, ◌+◌, ◌<◌, ◌≤◌, ◌↔◌, ◌⊎◌, inl, inr, List, [], ◌∷◌, ◌++◌, Bool, true, false, true≢false, ◌&&◌, eqb, IsTrue, Some, length, slice_get, get_or, slice_index, map, take, All, refl, sym, ◌∙◌, ap, subst, arith, add-one, length-append}
use Rattle.std.proofs.lemmas.Option.{slice_get_within}
use Rattle.std.proofs.lemmas.List.{take_all}
use Rattle.std.proofs.lemmas.List.Elements.{All-nil, All-cons}
use Rattle.std.proofs.Math.Seq.{take-suc}
use Rattle.std.specs.Ordering.{nat_cmp}
use Rattle.std.specs.BTreeMap.{BTreeMap, get}
use Rattle.std.specs.Bool.{Decides}
use Rattle.std.proofs.lemmas.Bool.Decides.{Decides-eqb}
use Rattle.g4_net.specs.Configurations.{Stack}
use Rattle.g4_stacks.specs.Graph.{Content, IsNode, Ascends}
use Rattle.g4_stacks.specs.Table.{IsAdded}
use Rattle.g4_stacks.specs.Canonical.{LeadBelow, IsPlain, IsCanonical, Grows}
use Rattle.g4_stacks.specs.Taking.{fresh, with_tops, Takes, takes, TakesEach, no_root, a_root, Alike, EachAlike, IsKnown, IsCopy, renumbered}
use Rattle.g4_stacks.specs.Listing.{stacks_of}
use Rattle.g4_stacks.proofs.Canonicity.{content_equal}
use Rattle.g4_stacks.proofs.Growing.{keeps}
use Rattle.g4_stacks.proofs.Merging.{Grows-self, Grows-then}
use Rattle.g4_stacks.proofs.Taking.{Taken, TakenTops, TakenEach, put, made, sound_each, TakesEach-push}
use Rattle.g4_stacks.proofs.Alike.{same_each}
use Rattle.g4_stacks.proofs.Fresh.{fresh_canonical}
use Rattle.g4_stacks.proofs.Listing.{lists_canonical}

-- nodes with the same stacks have equal lists
lists_equal : (g h : List Content) → IsCanonical g → IsCanonical h → (ns ms : List ℕ) → EachAlike g ns h ms
    → map (stacks_of g) ns ≡ map (stacks_of h) ms
lists_equal g h canon canon' [] [] alike = refl
lists_equal g h canon canon' [] (m ∷ ms) alike = absurd alike
lists_equal g h canon canon' (n ∷ ns) [] alike = absurd alike
lists_equal g h canon canon' (n ∷ ns) (m ∷ ms) alike =
    let first : stacks_of g n ≡ stacks_of h m = (lists_canonical g h n m canon canon').1 alike.1 in
    let rest : map (stacks_of g) ns ≡ map (stacks_of h) ms = lists_equal g h canon canon' ns ms alike.2 in
    cc

-- each is a node
abbrev pub AreNodes : List Content → List ℕ → Type 0
AreNodes g [] = Unit {0}
AreNodes g (n ∷ ns) = IsNode g n × AreNodes g ns

-- and the other way round
pub sets_alike : (g h : List Content) → IsCanonical g → IsCanonical h → (ns ms : List ℕ) → AreNodes h ms
    → map (stacks_of g) ns ≡ map (stacks_of h) ms → EachAlike g ns h ms
sets_alike g h canon canon' [] [] nodes same = tt
sets_alike g h canon canon' [] (m ∷ ms) nodes same = absurd (cc)
sets_alike g h canon canon' (n ∷ ns) [] nodes same = absurd (cc)
sets_alike g h canon canon' (n ∷ ns) (m ∷ ms) nodes same =
    let first : stacks_of g n ≡ stacks_of h m = cc in
    let rest : map (stacks_of g) ns ≡ map (stacks_of h) ms = cc in
    (nodes.0, (lists_canonical g h n m canon canon').0 first, sets_alike g h canon canon' ns ms nodes.1 rest)

-- what was taken over were nodes
taken_nodes : (other : List Content) (ns rs : List ℕ) (old new : List Content) → TakesEach other ns old new rs → AreNodes other ns
taken_nodes other [] [] old new (no_root _) = tt
taken_nodes other _ _ old new (a_root n r ns rs _ mid _ (takes _ _ c _ _ _ tops at below added at_r) rest) =
    (slice_get_within other n c at, taken_nodes other ns rs mid new rest)

copy_taken : (nodes : List Content) (roots : List ℕ) (k : IsCopy nodes roots) → TakenEach k.source k.taken fresh nodes roots
copy_taken nodes roots k = sound_each k.source k.canonical k.taken roots fresh nodes fresh_canonical k.takes

-- a copy is canonical
pub copy_canonical : (nodes : List Content) (roots : List ℕ) → IsCopy nodes roots → IsCanonical nodes
copy_canonical nodes roots k = (copy_taken nodes roots k).canonical

alike_nodes : (g h : List Content) (ns ms : List ℕ) → EachAlike g ns h ms → AreNodes h ms
alike_nodes g h [] [] alike = tt
alike_nodes g h [] (m ∷ ms) alike = absurd alike
alike_nodes g h (n ∷ ns) [] alike = absurd alike
alike_nodes g h (n ∷ ns) (m ∷ ms) alike = (alike.0, alike_nodes g h ns ms alike.2)

-- its roots are nodes
pub copy_roots : (nodes : List Content) (roots : List ℕ) → IsCopy nodes roots → AreNodes nodes roots
copy_roots nodes roots k = alike_nodes k.source nodes k.taken roots (copy_taken nodes roots k).means

-- and it has the sets of its source
pub copy_means : (nodes : List Content) (roots : List ℕ) (k : IsCopy nodes roots)
    → map (stacks_of nodes) roots ≡ map (stacks_of k.source) k.taken
copy_means nodes roots k = let t = copy_taken nodes roots k in
    sym (lists_equal k.source nodes k.canonical t.canonical k.taken roots t.means)

-- copies of equal sets are equal
pub copies_canonical : (nodes nodes' : List Content) (roots roots' : List ℕ) → IsCopy nodes roots → IsCopy nodes' roots'
    → map (stacks_of nodes) roots ≡ map (stacks_of nodes') roots' → (nodes ≡ nodes') × (roots ≡ roots')
copies_canonical nodes nodes' roots roots' k k' same =
    let sources : map (stacks_of k.source) k.taken ≡ map (stacks_of k'.source) k'.taken =
    sym (copy_means nodes roots k) ∙ (same ∙ copy_means nodes' roots' k') in
    let alike = sets_alike k.source k'.source k.canonical k'.canonical k.taken k'.taken
    (taken_nodes k'.source k'.taken roots' fresh nodes' k'.takes) sources in
    same_each k.source k'.source k.canonical k'.canonical k.taken k'.taken roots roots' fresh nodes nodes' fresh_canonical alike
    k.takes k'.takes

pub copies_equal : (nodes nodes' : List Content) (roots roots' : List ℕ) → nodes ≡ nodes' → roots ≡ roots'
    → map (stacks_of nodes) roots ≡ map (stacks_of nodes') roots'
copies_equal nodes nodes' roots roots' e f = ap (λ (g : List Content). map (stacks_of g) roots) e ∙ ap (map (stacks_of nodes')) f

module _ (nodes nodes' : List Content) (roots roots' : List ℕ) (v w : List (List Stack)) (k : IsCopy nodes roots)
    (k' : IsCopy nodes' roots') (e : map (stacks_of nodes) roots ≡ v) (e' : map (stacks_of nodes') roots' ≡ w) where
  -- shapes of the same nodes are equal where their roots are
  pub same_by_roots : nodes ≡ nodes' → (r : Bool) → (r ≡ true → roots ≡ roots') → (roots ≡ roots' → r ≡ true) → IsTrue r ↔ (v ≡ w)
  same_by_roots same r to from = (
    (λ is. sym e ∙ (copies_equal nodes nodes' roots roots' same (to is) ∙ e')),
    (λ is. from (copies_canonical nodes nodes' roots roots' k k' (e ∙ (is ∙ sym e'))).1),
  )

  -- and of others are not
  pub differ_by_nodes : (r : Bool) → r ≡ false → (nodes ≡ nodes' → r ≡ true) → IsTrue r ↔ (v ≡ w)
  differ_by_nodes r fails from = (
    (λ is. absurd (true≢false (sym is ∙ fails))),
    (λ is. from (copies_canonical nodes nodes' roots roots' k k' (e ∙ (is ∙ sym e'))).0),
  )

both_true : (x y : Bool) → (x && y) ≡ true → (x ≡ true) × (y ≡ true)
both_true true y e = (refl, e)
both_true false y e = absurd (cc)

-- a test of pairs
pub pairs_Decides : (a b : ℕ × ℕ) → Decides (eqb a.0 b.0 && eqb a.1 b.1) (a ≡ b)
pairs_Decides a b = (
  (λ t. let p = both_true (eqb a.0 b.0) (eqb a.1 b.1) t in
      ap (λ (x : ℕ). let y : ℕ × ℕ = (x, a.1) in y) ((Decides-eqb a.0 b.0).0 p.0)
      ∙ ap (λ (x : ℕ). let y : ℕ × ℕ = (b.0, x) in y) ((Decides-eqb a.1 b.1).0 p.1)),
  (λ e. let f = (Decides-eqb a.0 b.0).1 (ap (λ (x : ℕ × ℕ). x.0) e) in let h = (Decides-eqb a.1 b.1).1 (ap (λ (x : ℕ × ℕ). x.1) e) in cc),
)

-- contents with the same marks are equal where their tops are
pub same_by_tops : (c d v w : Content) → c ≡ v → d ≡ w → c.end ≡ d.end → c.wild ≡ d.wild → (r : Bool) → Decides r (c.tops ≡ d.tops)
    → IsTrue r ↔ (v ≡ w)
same_by_tops c d v w e e' ends wilds r tops = (
  (λ is. sym e ∙ (content_equal c d ends wilds (tops.0 is) ∙ e')),
  (λ is. tops.1 (ap (λ (x : Content). x.tops) (e ∙ (is ∙ sym e')))),
)

-- the roots before a place are taken over into a new graph
pub record IsCopying (other : List Content) (roots : List ℕ) (new : List Content) (known : BTreeMap ℕ ℕ) (numbers : List ℕ) : Type 0 where
  pub each : TakesEach other roots fresh new numbers
  pub sound : IsKnown other new known

pub copying_more : (other g h : List Content) (roots numbers numbers' : List ℕ) (i r : ℕ) (known known' : BTreeMap ℕ ℕ)
    → IsCopying other (take i roots) g known numbers → i < length roots
    → Takes other (get_or roots i 0) g h r → IsKnown other h known' → numbers' ≡ numbers ++ r ∷ []
    → IsCopying other (take (i + 1) roots) h known' numbers'
copying_more other g h roots numbers numbers' i r known known' k lt took before is = record {
  each = subst (λ ns. TakesEach other ns fresh h numbers') (sym next)
      (subst (TakesEach other (take i roots ++ get_or roots i 0 ∷ []) fresh h) (sym is)
      (TakesEach-push other (take i roots) numbers (get_or roots i 0) r fresh g h k.each took));
  sound = before;
}
  where
    next : take (i + 1) roots ≡ take i roots ++ get_or roots i 0 ∷ []
    next = rw add-one (take-suc roots i 0 lt)

pub copying_none : (other g : List Content) (numbers : List ℕ) (known : BTreeMap ℕ ℕ) → g ≡ fresh → numbers ≡ []
    → ((n r : ℕ) → get nat_cmp known n ≡ Some r → ⊥) → IsCopying other [] g known numbers
copying_none other g numbers known new none unknown = record {
  each = subst (λ (h : List Content). TakesEach other [] fresh h numbers) (sym new)
      (subst (TakesEach other [] fresh fresh) (sym none) (no_root fresh));
  sound = λ n r is. absurd (unknown n r is);
}

-- what is copied in the end
pub copying_done : (other g nodes : List Content) (roots numbers : List ℕ) (i : ℕ) (known : BTreeMap ℕ ℕ) → IsCanonical other
    → IsCopying other (take i roots) g known numbers → length roots ≤ i → nodes ≡ g → IsCopy nodes numbers
copying_done other g nodes roots numbers i known canon k le is = record {
  source = other;
  taken = roots;
  canonical = canon;
  takes = subst (λ (ns : List ℕ). TakesEach other ns fresh nodes numbers) (take_all i roots le)
      (subst (λ (h : List Content). TakesEach other (take i roots) fresh h numbers) (sym is) k.each);
}

pub copied_means : (other g nodes : List Content) (roots numbers : List ℕ) (i : ℕ) (known : BTreeMap ℕ ℕ) → IsCanonical other
    → IsCopying other (take i roots) g known numbers → length roots ≤ i → nodes ≡ g
    → map (stacks_of nodes) numbers ≡ map (stacks_of other) roots
unfolding copying_done
copied_means other g nodes roots numbers i known canon k le is =
    copy_means nodes numbers (copying_done other g nodes roots numbers i known canon k le is)

-- a renumbered content

renumbered-append : (numbers : List ℕ) (es : List (ℕ × ℕ)) (e : ℕ × ℕ)
    → renumbered numbers (es ++ e ∷ []) ≡ renumbered numbers es ++ (e.0, slice_index numbers e.1) ∷ []
renumbered-append numbers [] e = refl
renumbered-append numbers (d ∷ es) e = let y : ℕ × ℕ = (d.0, slice_index numbers d.1) in ap (λ ds. y ∷ ds) (renumbered-append numbers es e)

pub renumbered_more : (numbers : List ℕ) (es : List (ℕ × ℕ)) (i : ℕ) → i < length es
    → renumbered numbers (take (i + 1) es) ≡ renumbered numbers (take i es)
    ++ ((get_or es i (0, 0)).0, slice_index numbers (get_or es i (0, 0)).1) ∷ []
renumbered_more numbers es i lt =
    let next : take (i + 1) es ≡ take i es ++ get_or es i (0, 0) ∷ [] = rw add-one (take-suc es i (0, 0) lt) in
    ap (renumbered numbers) next ∙ renumbered-append numbers (take i es) (get_or es i (0, 0))

pub leads_at : (n : ℕ) (es : List (ℕ × ℕ)) (i : ℕ) → LeadBelow n es → i < length es → (get_or es i (0, 0)).1 < n
leads_at n [] i b lt = absurd (omega arith)
leads_at n (e ∷ es) zero b lt = b.1
leads_at n (e ∷ es) (suc i) b lt = leads_at n es i b.2 (omega arith)

-- with one number more, a place is an old one or the last
index_push : (numbers : List ℕ) (r m : ℕ) → m < length (numbers ++ r ∷ [])
    → ((m < length numbers) × (slice_index (numbers ++ r ∷ []) m ≡ slice_index numbers m))
    ⊎ ((m ≡ length numbers) × (slice_index (numbers ++ r ∷ []) m ≡ r))
index_push [] r zero lt = inr (refl, refl)
index_push [] r (suc m) lt = absurd (omega arith)
index_push (n ∷ ns) r zero lt = inl (omega arith, refl)
index_push (n ∷ ns) r (suc m) lt = elim (index_push ns r m (omega arith))
    [ inl p ↦ inl (let less = p.0 in omega arith, p.1) | inr p ↦ inr (ap suc p.0, p.1) ]

-- the first nodes of a copy are loaded: each number is that of a node with the same stacks
pub record IsLoading (nodes : List Content) (old new : List Content) (numbers : List ℕ) : Type 0 where
  pub grows : Grows old new
  pub canonical : IsCanonical new
  pub known : (m : ℕ) → m < length numbers → IsNode new (slice_index numbers m)
  pub means : (m : ℕ) → m < length numbers → Alike new (slice_index numbers m) nodes m

pub loading_none : (nodes g : List Content) (numbers : List ℕ) → IsCanonical g → numbers ≡ [] → IsLoading nodes g g numbers
loading_none nodes g numbers canon none = record {
  grows = Grows-self g;
  canonical = canon;
  known = λ m lt. absurd (let e = ap length none in omega arith);
  means = λ m lt. absurd (let e = ap length none in omega arith);
}

module _ (nodes : List Content) (canon : IsCanonical nodes) (old g : List Content) (numbers : List ℕ)
    (k : IsLoading nodes old g numbers) where
  loaded_node : (m : ℕ) → m < length numbers → Taken nodes m g g (slice_index numbers m)
  loaded_node m lt = record { canonical = k.canonical; grows = Grows-self g; within = k.known m lt; means = k.means m lt }

  loaded_tops : (low : ℕ) (es : List (ℕ × ℕ)) → Ascends low es → LeadBelow (length numbers) es → length numbers ≤ length nodes
      → TakenTops nodes low es g g (renumbered numbers es)
  loaded_tops low [] asc lead le = record {
    canonical = k.canonical;
    grows = Grows-self g;
    sorted = tt;
    lead = tt;
    means = λ t s. ((λ x. absurd x.1), (λ x. absurd x.1));
  }
  loaded_tops low (e ∷ es) asc lead le =
      let lower = lead.1 in
      put nodes canon low e.0 e.1 (slice_index numbers e.1) es (renumbered numbers es) g g g (omega arith) lead.0 asc.0
      (loaded_node e.1 lead.1) (loaded_tops (suc e.0) es asc.1 lead.2 le)

  module _ (n : ℕ) (c : Content) (at : slice_get nodes n ≡ Some c) (long : length numbers ≡ n) where
    pub loading_lead : LeadBelow (length numbers) c.tops
    loading_lead = subst (λ (m : ℕ). LeadBelow m c.tops) (sym long) (canon.plain n c at).lower

    loading_tops : TakenTops nodes 0 c.tops g g (renumbered numbers c.tops)
    loading_tops = let n_in = slice_get_within nodes n c at in loaded_tops 0 c.tops (canon.plain n c at).sorted loading_lead (omega arith)

    pub loading_plain : (wanted : Content) → wanted ≡ with_tops c (renumbered numbers c.tops) → IsPlain (length g) wanted
    loading_plain wanted same = subst (IsPlain (length g)) (sym same) (record { sorted = loading_tops.sorted; lower = loading_tops.lead })

    pub loading_more : (wanted : Content) → wanted ≡ with_tops c (renumbered numbers c.tops)
        → (h : List Content) (r : ℕ) (numbers' : List ℕ) → IsAdded g wanted h → slice_get h r ≡ Some wanted → numbers' ≡ numbers ++ r ∷ []
        → (length numbers' ≡ n + 1) × IsLoading nodes old h numbers'
    loading_more wanted same h r numbers' added at_r is =
        let t = made nodes canon n r c g g h (renumbered numbers c.tops) at loading_tops
        (subst (λ (d : Content). IsAdded g d h) same added) (subst (λ (d : Content). slice_get h r ≡ Some d) same at_r) in (
          (let l = length-append numbers (r ∷ []) in let e = ap length is in omega (arith, long)),
          record {
            grows = Grows-then old g h k.grows t.grows;
            canonical = t.canonical;
            known = λ m lt. subst (λ (ns : List ℕ). IsNode h (slice_index ns m)) (sym is) (known_at t m (split m lt));
            means = λ m lt. subst (λ (ns : List ℕ). Alike h (slice_index ns m) nodes m) (sym is) (means_at t m (split m lt));
          },
        )
      where
        split : (m : ℕ) → m < length numbers' → ((m < length numbers) × (slice_index (numbers ++ r ∷ []) m ≡ slice_index numbers m))
            ⊎ ((m ≡ n) × (slice_index (numbers ++ r ∷ []) m ≡ r))
        split m lt = elim (index_push numbers r m (subst (λ (ns : List ℕ). m < length ns) is lt))
            [ inl p ↦ inl p | inr p ↦ inr (p.0 ∙ long, p.1) ]

        known_at : Taken nodes n g h r → (m : ℕ) → ((m < length numbers)
            × (slice_index (numbers ++ r ∷ []) m ≡ slice_index numbers m)) ⊎ ((m ≡ n) × (slice_index (numbers ++ r ∷ []) m ≡ r))
            → IsNode h (slice_index (numbers ++ r ∷ []) m)
        known_at t m (inl p) = subst (IsNode h) (sym p.1) (keeps g h k.canonical t.grows (slice_index numbers m) (k.known m p.0)).0
        known_at t m (inr p) = subst (IsNode h) (sym p.1) t.within

        means_at : Taken nodes n g h r → (m : ℕ) → ((m < length numbers)
            × (slice_index (numbers ++ r ∷ []) m ≡ slice_index numbers m)) ⊎ ((m ≡ n) × (slice_index (numbers ++ r ∷ []) m ≡ r))
            → Alike h (slice_index (numbers ++ r ∷ []) m) nodes m
        means_at t m (inl p) =
            let kept = (keeps g h k.canonical t.grows (slice_index numbers m) (k.known m p.0)).1 in
            let was = k.means m p.0 in
            subst (λ (x : ℕ). Alike h x nodes m) (sym p.1) (λ s. ((λ x. (was s).0 ((kept s).1 x)), (λ x. (kept s).0 ((was s).1 x))))
        means_at t m (inr p) = subst (λ (x : ℕ). Alike h x nodes m) (sym p.1) (subst (λ (y : ℕ). Alike h r nodes y) (sym p.0) t.means)

  -- all are loaded
  pub loaded_means : (roots : List ℕ) → AreNodes nodes roots → length numbers ≡ length nodes
      → map (stacks_of g) (map (slice_index numbers) roots) ≡ map (stacks_of nodes) roots
  loaded_means [] are long = refl
  loaded_means (r ∷ rs) are long =
      let inside = are.0 in
      let first : stacks_of g (slice_index numbers r) ≡ stacks_of nodes r =
      (lists_canonical g nodes (slice_index numbers r) r k.canonical canon).1 (k.means r (omega arith)) in
      let rest : map (stacks_of g) (map (slice_index numbers) rs) ≡ map (stacks_of nodes) rs = loaded_means rs are.1 long in
      cc

  pub loaded_known : (roots : List ℕ) → AreNodes nodes roots → length numbers ≡ length nodes
      → All (IsNode g) (map (slice_index numbers) roots)
  loaded_known [] are long = All-nil (IsNode g)
  loaded_known (r ∷ rs) are long = let inside = are.0 in
      All-cons (IsNode g) (slice_index numbers r) (map (slice_index numbers) rs) (k.known r (omega arith)) (loaded_known rs are.1 long)

-- places below a length
pub places_in : (nodes : List Content) (numbers roots : List ℕ) → AreNodes nodes roots → length numbers ≡ length nodes
    → All (λ place. place < length numbers) roots
places_in nodes numbers [] are long = All-nil (λ place. place < length numbers)
places_in nodes numbers (r ∷ rs) are long = let inside = are.0 in
    All-cons (λ place. place < length numbers) r rs (omega arith) (places_in nodes numbers rs are.1 long)
