-- Stacks in the place of the bottom of a node's, from images of the nodes before it; and some nodes in a graph of their own.
use Rattle.std.proofs.Common.{◌≡◌, ◌<◌, ◌≤◌, ◌+◌, ◌↔◌, ◌⊎◌, inl, inr, ℕ, zero, suc, All, List, [], ◌∷◌, ◌++◌, false, Option, Some, None, get_or, length, map, slice_get, refl, sym, ◌∙◌, ap, subst, arith}
use Rattle.std.proofs.lemmas.Option.{slice_get_within, slice_get-get_or}
use Rattle.std.proofs.lemmas.List.Elements.{All-head, All-tail}
use Rattle.g4_net.specs.Configurations.{Stack, above_bottom}
use Rattle.g4_stacks.specs.Stack.{bottom, pushed}
use Rattle.g4_stacks.specs.Graph.{Content, Has, HasOf, HasTops, In, IsNode, IsPushed, Keeps}
use Rattle.g4_stacks.specs.Canonical.{IsCanonical}
use Rattle.g4_stacks.specs.Listing.{stacks_of}
use Rattle.g4_stacks.specs.Merge.{IsUnion, tops_by, tops_of}
use Rattle.g4_stacks.specs.Lowering.{AreLowered, IsAlone, IsLowered, IsLowering, IsOfTops, stacked}
use Rattle.g4_stacks.specs.Taking.{EachAlike}
use Rattle.g4_stacks.proofs.Ordered.{lead_below}
use Rattle.g4_stacks.proofs.Shapes.{AreNodes, sets_alike}
use Rattle.g4_stacks.proofs.Walking.{In-at}

-- a graph that keeps the nodes of one that keeps those of a third
pub keeps_then : (a b c : List Content) → Keeps a b → Keeps b c → Keeps a c
keeps_then a b c first second n known =
    let l = first n known in
    let r = second n l.0 in
    (r.0, λ s. ((λ h. (r.1 s).0 ((l.1 s).0 h)), (λ h. (l.1 s).1 ((r.1 s).1 h))))

-- the place of a top
place_of : (x : ℕ × ℕ) (xs : List (ℕ × ℕ)) → In x xs → (i : ℕ) × (slice_get xs i ≡ Some x)
place_of x [] i = absurd i
place_of x (y ∷ xs) (inl e) = (0, ap Some (sym e))
place_of x (y ∷ xs) (inr i) = let r = place_of x xs i in (suc r.0, r.1)

-- the nodes that a node's tops lead to are before it
top_before : (g : List Content) (n k u m : ℕ) → IsCanonical g → slice_get (tops_of g n) k ≡ Some (u, m) → m < n
top_before g n k u m canon is = by (slice_get g n) refl is
  where
    none_some : {X : Type 0} (x : X) → None ≡ Some x → ⊥
    none_some x e = grind (arith, e)

    by : (o : Option Content) → slice_get g n ≡ o → slice_get (tops_by o) k ≡ Some (u, m) → m < n
    by None at is_k = let x : ℕ × ℕ = (u, m) in let r : In x [] = In-at [] k x is_k in absurd r
    by (Some c) at is_k = (lead_below n u m c.tops (canon.plain n c at).lower (In-at c.tops k (u, m) is_k)).1

-- where the bottom alone is in the set, the stacks are those in its place
pub lowered_alone : (g : List Content) (n under : ℕ) → Has g n bottom → (s : Stack) → Has g under s ↔ IsAlone g n under s
lowered_alone g n under has s = ((λ x. (has, x)), (λ x. x.1))

-- and where it is not, there is none
pub lowered_none : (g : List Content) (n under r : ℕ) → (Has g n bottom → ⊥) → ((s : Stack) → Has g r s → ⊥) → (s : Stack)
    → Has g r s ↔ IsAlone g n under s
lowered_none g n under r lacks none s = ((λ x. absurd (none s x)), (λ (has, _). absurd (lacks has)))

module _ (old : List Content) (n under : ℕ) (tops : List (ℕ × ℕ)) where
  -- no top yet
  pub lowering_start : (new : List Content) (r : ℕ) → Keeps old new → IsNode new r
      → ((s : Stack) → Has new r s ↔ IsAlone old n under s) → IsLowering old new n under tops 0 r
  lowering_start new r keeps known means = record {
    keeps = keeps;
    known = known;
    means = λ s. (
      (λ x. inl ((means s).0 x)),
      (λ h.
          elim h [ inl x ↦ (means s).1 x | inr (k, u, m, less, _, _) ↦ absurd (omega (arith, less)) ]),
    );
  }

  module _ (cur mid new : List Content) (images : List ℕ) (j result u m i p next : ℕ) (h : IsLowering old cur n under tops j result)
      (at : slice_get tops j ≡ Some (u, m)) (are : AreLowered old under images) (image : slice_get images m ≡ Some i)
      (keeps_mid : Keeps cur mid) (known : IsNode mid p) (is_pushed : (s : Stack) → Has mid p s ↔ IsPushed cur i u s)
      (keeps_new : Keeps mid new) (known_new : IsNode new next) (union : IsUnion mid result p new next) where
    -- the stacks of this top
    abbrev OfTop : Stack → Type 0
    OfTop s = (r : Stack) × IsLowered old m under r × (s ≡ pushed u r)

    of_top : (s : Stack) → Has mid p s → IsOfTops old tops (j + 1) under s
    of_top s x =
        let (r, has, is) = (is_pushed s).0 x in
        let (in_n, in_i, means) = are m i image in
        (j, u, m, omega arith, at, (r, (means r).0 (((h.keeps i in_i).1 r).1 has), is))

    to_top : (s : Stack) → OfTop s → Has mid p s
    to_top s (r, low, is) =
        let (in_n, in_i, means) = are m i image in
        (is_pushed s).1 (r, ((h.keeps i in_i).1 r).0 ((means r).1 low), is)

    -- the stacks before
    before : (s : Stack) → Has mid result s ↔ (IsAlone old n under s ⊎ IsOfTops old tops j under s)
    before s = ((λ x. (h.means s).0 (((keeps_mid result h.known).1 s).1 x)), (λ x. ((keeps_mid result h.known).1 s).0 ((h.means s).1 x)))

    -- one top of the first
    this_or_before : (s : Stack) → IsOfTops old tops (j + 1) under s → IsOfTops old tops j under s ⊎ OfTop s
    this_or_before s (k, v, l, less, at_k, (r, low, is)) = elim (let split : (k < j) ⊎ (k ≡ j) = grind (arith, less) in split) [
      | inl before_j ↦ inl (k, v, l, before_j, at_k, (r, low, is))
      | inr same ↦
          (let both : Some (v, l) ≡ Some (u, m) = sym at_k ∙ (ap (λ (x : ℕ). slice_get tops x) same ∙ at) in
          let first : v ≡ u = ap (λ (o : Option (ℕ × ℕ)). first_of o) both in
          let second : l ≡ m = ap (λ (o : Option (ℕ × ℕ)). second_of o) both in
          inr (r, subst (λ (x : ℕ). IsLowered old x under r) second low, subst (λ (x : ℕ). s ≡ pushed x r) first is))
    ]
      where
        first_of : Option (ℕ × ℕ) → ℕ
        first_of None = 0
        first_of (Some x) = x.0

        second_of : Option (ℕ × ℕ) → ℕ
        second_of None = 0
        second_of (Some x) = x.1

    -- one top more
    pub lowering_more : IsLowering old new n under tops (j + 1) next
    lowering_more = record {
      keeps = keeps_then old mid new (keeps_then old cur mid h.keeps keeps_mid) keeps_new;
      known = known_new;
      means = λ s. (
        (λ x. elim ((union s).0 x) [
          | inl l ↦ elim ((before s).0 l) [
            | inl a ↦ inl a
            | inr (k, v, w, less, at_k, stack) ↦ inr
                (k, v, w, omega (arith, less), at_k, stack)
          ]
          | inr r ↦ inr (of_top s r)
        ]),
        (λ x. (union s).1 (elim x [
          | inl a ↦ inl ((before s).1 (inl a))
          | inr o ↦ elim (this_or_before s o) [ inl b ↦ inl ((before s).1 (inr b)) | inr e ↦ inr (to_top s e) ]
        ])),
      );
    }

  -- all tops
  pub lowering_all : (new : List Content) (j r : ℕ) → HasTops old n tops → IsLowering old new n under tops j r → length tops ≤ j
      → (s : Stack) → Has new r s ↔ IsLowered old n under s
  lowering_all new j r has h all s = (
    (λ x. elim ((h.means s).0 x) [
      | inl (alone, q) ↦ ([], s, alone, q, refl)
      | inr (k, u, m, less, at, (q, (rs, z, above, in_z, is_q), is)) ↦
          (u ∷ rs, z, (has.rests u m (In-at tops k (u, m) at) (above_bottom rs)).0 above, in_z, is ∙ ap (pushed u) is_q)
    ]),
    (λ (rs, z, above, in_z, is). (h.means s).1 (by rs z above in_z is)),
  )
    where
      by : (rs : List ℕ) (z : Stack) → HasOf old n rs false → Has old under z → s ≡ stacked rs z
          → IsAlone old n under s ⊎ IsOfTops old tops j under s
      by [] z above in_z is = inl (above, subst (Has old under) (sym is) in_z)
      by (u ∷ rs) z above in_z is =
          let (m, i) = has.all u (above_bottom rs) above in
          let (k, at) = place_of (u, m) tops i in
          let less : k < length tops = slice_get_within tops k (u, m) at in
          inr (k, u, m, omega (arith, less, all), at, (stacked rs z, (rs, z, (has.rests u m i (above_bottom rs)).1 above, in_z, refl), is))

-- with one number more, a place is an old one or the last
split_last : (xs : List ℕ) (c d n : ℕ) → slice_get (xs ++ c ∷ []) n ≡ Some d → (slice_get xs n ≡ Some d) ⊎ ((n ≡ length xs) × (c ≡ d))
split_last [] c d zero is = inr (refl, cc)
split_last [] c d (suc n) is = absurd (cc)
split_last (x ∷ xs) c d zero is = inl is
split_last (x ∷ xs) c d (suc n) is = elim (split_last xs c d n is) [ inl old ↦ inl old | inr new ↦ inr (ap suc new.0, new.1) ]

-- images stay images in a graph that grows
lowered_kept : (g h : List Content) (under a b : ℕ) → Keeps g h → IsNode g under → IsNode g a
    → ((s : Stack) → Has h b s ↔ IsLowered g a under s) → (s : Stack) → Has h b s ↔ IsLowered h a under s
lowered_kept g h under a b keeps known_under known_a is s = (
  (λ x. let (rs, z, above, in_z, e) = (is s).0 x in
      (rs, z, ((keeps a known_a).1 (above_bottom rs)).0 above, ((keeps under known_under).1 z).0 in_z, e)),
  (λ (rs, z, above, in_z, e). (is s).1 (rs, z, ((keeps a known_a).1 (above_bottom rs)).1 above, ((keeps under known_under).1 z).1 in_z, e)),
)

-- and the next one joins them
pub images_more : (g h : List Content) (under : ℕ) (images : List ℕ) (n r : ℕ) → Keeps g h → IsNode g under
    → AreLowered g under images → length images ≡ n → IsNode g n → IsNode h r → ((s : Stack) → Has h r s ↔ IsLowered g n under s)
    → AreLowered h under (images ++ r ∷ [])
images_more g h under images n r keeps known_under are long known known_r means k q at = elim (split_last images r q k at) [
  | inl old ↦
      (let (in_k, in_q, is) = are k q old in (
        (keeps k in_k).0,
        (keeps q in_q).0,
        lowered_kept g h under k q keeps known_under in_k
            (λ s. ((λ x. (is s).0 (((keeps q in_q).1 s).1 x)), (λ x. ((keeps q in_q).1 s).0 ((is s).1 x)))),
      ))
  | inr e ↦
      (let at_n : k ≡ n = e.0 ∙ long in
      subst (λ (x : ℕ). IsNode h x × IsNode h q × ((s : Stack) → Has h q s ↔ IsLowered h x under s)) (sym at_n)
      (subst (λ (x : ℕ). IsNode h n × IsNode h x × ((s : Stack) → Has h x s ↔ IsLowered h n under s)) e.1
      ((keeps n known).0, known_r, lowered_kept g h under n r keeps known_under known means)))
]

-- the node below a top has an image
pub image_bound : (g : List Content) (n j : ℕ) (items : List (ℕ × ℕ)) (images : List ℕ) → IsCanonical g → items ≡ tops_of g n
    → j < length items → n ≤ length images → (get_or items j (0, 0)).1 < length images
image_bound g n j items images canon are less before =
    let at : slice_get items j ≡ Some (get_or items j (0, 0)) = slice_get-get_or items j (0, 0) less in
    let first = top_before g n j (get_or items j (0, 0)).0 (get_or items j (0, 0)).1 canon
    (subst (λ (xs : List (ℕ × ℕ)). slice_get xs j ≡ Some (get_or items j (0, 0))) are at) in
    omega (arith, first, before)

-- and this is a node
pub image_node : (old cur : List Content) (under m : ℕ) (images : List ℕ) → Keeps old cur → AreLowered old under images
    → m < length images → IsNode cur (get_or images m 0)
image_node old cur under m images keeps are less =
    (keeps (get_or images m 0) (are m (get_or images m 0) (slice_get-get_or images m 0 less)).1).0

-- no image yet
pub images_none : (g : List Content) (under : ℕ) → AreLowered g under []
images_none g under n r at = grind (arith, at)

-- the nodes of a list, one by one
nodes_in : (g : List Content) (ns : List ℕ) → All (IsNode g) ns → AreNodes g ns
nodes_in g [] are = tt
nodes_in g (n ∷ ns) are = (All-head (IsNode g) n ns are, nodes_in g ns (All-tail (IsNode g) n ns are))

-- nodes in a graph of their own have the same stacks in turn
pub part_alike : (g h : List Content) (ns ms : List ℕ) → IsCanonical g → IsCanonical h → All (IsNode h) ms
    → map (stacks_of h) ms ≡ map (stacks_of g) ns → EachAlike g ns h ms
part_alike g h ns ms canon canon' are same = sets_alike g h canon canon' ns ms (nodes_in h ms are) (sym same)
