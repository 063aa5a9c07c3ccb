-- The list of a node's stacks: it has these and no others, it is in order, and it is equal exactly where the sets are.
use Rattle.std.proofs.Common.{◌≡◌, ℕ, zero, suc, ◌<◌, ◌↔◌, ◌⊎◌, inl, inr, List, [], ◌∷◌, ◌++◌, Bool, true, false, Option, Some, None, IsTrue, slice_get, map, Contains, refl, sym, ◌∙◌, ap, subst, arith}
use Rattle.g4_net.specs.Configurations.{Stack, Config, config, wildcard, ReturnsPrecede, StackPrecedes, IsRising}
use Rattle.g4_net.proofs.Pigeons.{In, In-from, In-to}
use Rattle.g4_net.proofs.Rows.{one_row}
use Rattle.g4_stacks.specs.Stack.{bottom, pushed}
use Rattle.g4_stacks.specs.Graph.{In as Top, Content, IsMarked, LeadsTo, Has, Ascends}
use Rattle.g4_stacks.specs.Canonical.{IsCanonical}
use Rattle.g4_stacks.specs.Listing.{marked, above, listed, stacks_below, stacks_of, StacksRise}
use Rattle.g4_stacks.proofs.Ordered.{In-low, lead_below}
use Rattle.g4_stacks.proofs.Canonicity.{has_end, has_wild, has_pushed}

-- a stack by its parts
by_parts : (s t : Stack) → s.returns ≡ t.returns → s.wild ≡ t.wild → s ≡ t
by_parts s t e m =
    let make : List ℕ → Bool → Stack = λ rs w. record { returns = rs; wild = w } in
    ap (λ (rs : List ℕ). make rs s.wild) e ∙ ap (λ (w : Bool). make t.returns w) m

-- what was pushed
pushed_parts : (t u : ℕ) (r s : Stack) → pushed t r ≡ pushed u s → (t ≡ u) × (r ≡ s)
pushed_parts t u r s e =
    let tops : t ∷ r.returns ≡ u ∷ s.returns = ap (λ (x : Stack). x.returns) e in
    let first : t ≡ u = cc in
    let rests : r.returns ≡ s.returns = cc in
    (first, by_parts r s rests (ap (λ (x : Stack). x.wild) e))

-- members of the parts of a list

In-append : (xs ys : List Stack) (s : Stack) → In s (xs ++ ys) ↔ (In s xs ⊎ In s ys)
In-append [] ys s = (inr, λ h. elim h [ inl never ↦ absurd never | inr i ↦ i ])
In-append (x ∷ xs) ys s = let r = In-append xs ys s in (
  (λ h. elim h [ inl is ↦ inl (inl is) | inr i ↦ elim (r.0 i) [ inl j ↦ inl (inr j) | inr j ↦ inr j ] ]),
  (λ h. elim h [ inl i ↦ elim i [ inl is ↦ inl is | inr j ↦ inr (r.1 (inl j)) ] | inr j ↦ inr (r.1 (inr j)) ]),
)

In-marked : (b : Bool) (m s : Stack) → In s (marked b m) ↔ (IsTrue b × (s ≡ m))
In-marked true m s = ((λ h. elim h [ inl is ↦ (refl, is) | inr never ↦ absurd never ]), (λ p. inl p.1))
In-marked false m s = ((λ h. absurd h), (λ p. let e : false ≡ true = p.0 in absurd (cc)))

In-map : (t : ℕ) (s : Stack) (xs : List Stack) → In s (map (pushed t) xs) ↔ ((r : Stack) × In r xs × (s ≡ pushed t r))
In-map t s [] = ((λ h. absurd h), (λ p. absurd p.1))
In-map t s (x ∷ xs) = let r = In-map t s xs in (
  (λ h. elim h [ inl is ↦ (x, inl refl, is) | inr i ↦ (let q = r.0 i in (q.0, inr q.1, q.2)) ]),
  (λ p. elim p.1 [ inl is ↦ inl (p.2 ∙ ap (pushed t) is) | inr i ↦ inr (r.1 (p.0, i, p.2)) ]),
)

-- a rest below one of the tops
abbrev Below : (ℕ → List Stack) → List (ℕ × ℕ) → Stack → Type 0
Below rests es s = (e : ℕ × ℕ) × Top e es × ((r : Stack) × In r (rests e.1) × (s ≡ pushed e.0 r))

In-above : (rests : ℕ → List Stack) (es : List (ℕ × ℕ)) (s : Stack) → In s (above rests es) ↔ Below rests es s
In-above rests [] s = ((λ h. absurd h), (λ p. absurd p.1))
In-above rests (e ∷ es) s =
    let both = In-append (map (pushed e.0) (rests e.1)) (above rests es) s in
    let here = In-map e.0 s (rests e.1) in
    let later = In-above rests es s in (
      (λ h. elim (both.0 h) [ inl i ↦ (e, inl refl, here.0 i) | inr i ↦ (let q = later.0 i in (q.0, inr q.1, q.2)) ]),
      (λ p. elim p.1 [
        | inl is ↦ both.1 (inl (here.1 (subst (λ (d : ℕ × ℕ). (r : Stack) × In r (rests d.1) × (s ≡ pushed d.0 r)) is p.2)))
        | inr i ↦ both.1 (inr (later.1 (p.0, i, p.2)))
      ]),
    )

-- a member of what is held is a mark, or has a state on top
abbrev IsHeld : (ℕ → List Stack) → Content → Stack → Type 0
IsHeld rests c s = (IsTrue c.end × (s ≡ bottom)) ⊎ ((IsTrue c.wild × (s ≡ wildcard)) ⊎ Below rests c.tops s)

In-listed : (rests : ℕ → List Stack) (c : Content) (s : Stack) → In s (listed rests (Some c)) ↔ IsHeld rests c s
In-listed rests c s =
    let one = In-append (marked c.end bottom) (marked c.wild wildcard ++ above rests c.tops) s in
    let two = In-append (marked c.wild wildcard) (above rests c.tops) s in
    let end = In-marked c.end bottom s in
    let wild = In-marked c.wild wildcard s in
    let tops = In-above rests c.tops s in (
      (λ h. elim (one.0 h) [
        | inl i ↦ inl (end.0 i)
        | inr i ↦ elim (two.0 i)
            [ inl j ↦ inr (inl (wild.0 j)) | inr j ↦ inr (inr (tops.0 j)) ]
      ]),
      (λ h. elim h [
        | inl p ↦ one.1 (inl (end.1 p))
        | inr q ↦ one.1 (inr (elim q [ inl p ↦ two.1 (inl (wild.1 p)) | inr b ↦ two.1 (inr (tops.1 b)) ]))
      ]),
    )

-- the list has the node's stacks

abbrev Lists : List Content → (ℕ → List Stack) → ℕ → Type 0
Lists g rests k = (m : ℕ) → m < k → (s : Stack) → In s (rests m) ↔ Has g m s

module _ (g : List Content) (canon : IsCanonical g) where
  held_to : (rests : ℕ → List Stack) (n : ℕ) (c : Content) → slice_get g n ≡ Some c → Lists g rests n → (s : Stack) → IsHeld rests c s
      → Has g n s
  held_to rests n c at lists s (inl p) = subst (Has g n) (sym p.1) ((has_end g n c at).1 p.0)
  held_to rests n c at lists s (inr (inl p)) = subst (Has g n) (sym p.1) ((has_wild g n c at).1 p.0)
  held_to rests n c at lists s (inr (inr b)) =
      let low = (lead_below n b.0.0 b.0.1 c.tops (canon.plain n c at).lower b.1).1 in
      let r = b.2 in
      subst (Has g n) (sym r.2) ((has_pushed g n c b.0.0 r.0 at).1 (b.0.1, b.1, (lists b.0.1 low r.0).0 r.1))

  held_from : (rests : ℕ → List Stack) (n : ℕ) (c : Content) → slice_get g n ≡ Some c → Lists g rests n → (s : Stack) → Has g n s
      → IsHeld rests c s
  held_from rests n c at lists s h = by s.returns s.wild refl refl h
    where
      by : (returns : List ℕ) (wild : Bool) → s.returns ≡ returns → s.wild ≡ wild
          → Has g n (record { returns = returns; wild = wild }) → IsHeld rests c s
      by [] false e m x = inl ((has_end g n c at).0 x, by_parts s bottom e m)
      by [] true e m x = inr (inl ((has_wild g n c at).0 x, by_parts s wildcard e m))
      by (t ∷ rest) wild e m x =
          let r : Stack = record { returns = rest; wild = wild } in
          let p = (has_pushed g n c t r at).0 x in
          let low = (lead_below n t p.0 c.tops (canon.plain n c at).lower p.1).1 in
          inr (inr ((t, p.0), p.1, (r, (lists p.0 low r).1 p.2, by_parts s (pushed t r) e m)))

  none_held : (n : ℕ) → slice_get g n ≡ None → (s : Stack) → Has g n s → ⊥
  none_held n at s h = by s.returns s.wild h
    where
      by : (returns : List ℕ) (wild : Bool) → Has g n (record { returns = returns; wild = wild }) → ⊥
      by [] false x = subst (λ o. IsMarked o false) at x
      by [] true x = subst (λ o. IsMarked o true) at x
      by (t ∷ rest) wild (m, lead, x) = subst (λ o. LeadsTo o t m) at lead

  lists_by : (rests : ℕ → List Stack) (n : ℕ) (o : Option Content) → slice_get g n ≡ o → Lists g rests n → (s : Stack)
      → In s (listed rests (slice_get g n)) ↔ Has g n s
  lists_by rests n None at lists s = ((λ i. absurd (subst (λ o. In s (listed rests o)) at i)), (λ h. absurd (none_held n at s h)))
  lists_by rests n (Some c) at lists s = (
    (λ i. held_to rests n c at lists s ((In-listed rests c s).0 (subst (λ o. In s (listed rests o)) at i))),
    (λ h. subst (λ o. In s (listed rests o)) (sym at) ((In-listed rests c s).1 (held_from rests n c at lists s h))),
  )

  lists_below : (k : ℕ) → Lists g (stacks_below g k) k
  lists_below zero n lt s = absurd (omega arith)
  lists_below (suc k) n lt s = lists_by (stacks_below g k) n (slice_get g n) refl (λ m less. lists_below k m (omega arith)) s

  listed_exactly : (n : ℕ) (s : Stack) → In s (stacks_of g n) ↔ Has g n s
  unfolding stacks_of
  listed_exactly n s = lists_below (suc n) n (omega arith) s

  pub lists_exact : (n : ℕ) (s : Stack) → Contains (stacks_of g n) s ↔ Has g n s
  lists_exact n s = let e = listed_exactly n s in (
    (λ i. e.0 (In-from (stacks_of g n) s i.0 i.1 i.2)),
    (λ h. In-to (stacks_of g n) s (e.1 h)),
  )

-- the list is in order

rise_append : (xs ys : List Stack) → StacksRise xs → StacksRise ys → ((x y : Stack) → In x xs → In y ys → StackPrecedes x y)
    → StacksRise (xs ++ ys)
rise_append [] ys up up' before = up'
rise_append (x ∷ []) [] up up' before = tt
rise_append (x ∷ []) (y ∷ ys) up up' before = (before x y (inl refl) (inl refl), up')
rise_append (x ∷ z ∷ xs) ys up up' before = (up.0, rise_append (z ∷ xs) ys up.1 up' (λ a b i j. before a b (inr i) j))

pushed_precede : (t : ℕ) (r s : Stack) → StackPrecedes r s → StackPrecedes (pushed t r) (pushed t s)
pushed_precede t r s (inl h) = inl (inr (refl, h))
pushed_precede t r s (inr h) = inr (ap (λ (xs : List ℕ). t ∷ xs) h.0, h.1, h.2)

rise_map : (t : ℕ) (xs : List Stack) → StacksRise xs → StacksRise (map (pushed t) xs)
rise_map t [] up = tt
rise_map t (x ∷ []) up = tt
rise_map t (x ∷ y ∷ xs) up = (pushed_precede t x y up.0, rise_map t (y ∷ xs) up.1)

rise_marked : (b : Bool) (s : Stack) → StacksRise (marked b s)
rise_marked true s = tt
rise_marked false s = tt

module _ (rests : ℕ → List Stack) (up : (m : ℕ) → StacksRise (rests m)) where
  rise_above : (low : ℕ) (es : List (ℕ × ℕ)) → Ascends low es → StacksRise (above rests es)
  rise_above low [] asc = tt
  rise_above low (e ∷ es) asc = rise_append (map (pushed e.0) (rests e.1)) (above rests es) (rise_map e.0 (rests e.1) (up e.1))
      (rise_above (suc e.0) es asc.1) before
    where
      before : (x y : Stack) → In x (map (pushed e.0) (rests e.1)) → In y (above rests es) → StackPrecedes x y
      before x y i j =
          let p = (In-map e.0 x (rests e.1)).0 i in
          let q = (In-above rests es y).0 j in
          let l = In-low (suc e.0) q.0.0 q.0.1 es asc.1 q.1 in
          let r = q.2 in
          let less : StackPrecedes (pushed e.0 p.0) (pushed q.0.0 r.0) = inl (inl (omega arith)) in
          subst (λ (a : Stack). StackPrecedes a y) (sym p.2) (subst (StackPrecedes (pushed e.0 p.0)) (sym r.2) less)

  marks_precede : (m : Stack) → m.returns ≡ [] → (es : List (ℕ × ℕ)) (y : Stack) → In y (above rests es) → StackPrecedes m y
  marks_precede m none es y j =
      let q = (In-above rests es y).0 j in
      let r = q.2 in
      let less : StackPrecedes m (pushed q.0.0 r.0) =
      inl (subst (λ (xs : List ℕ). ReturnsPrecede xs (q.0.0 ∷ r.0.returns)) (sym none) tt) in
      subst (StackPrecedes m) (sym r.2) less

  rise_listed : (c : Content) → Ascends 0 c.tops → StacksRise (listed rests (Some c))
  rise_listed c asc = rise_append (marked c.end bottom) _ (rise_marked c.end bottom)
      (rise_append (marked c.wild wildcard) (above rests c.tops) (rise_marked c.wild wildcard) (rise_above 0 c.tops asc) wild_first)
      end_first
    where
      wild_first : (x y : Stack) → In x (marked c.wild wildcard) → In y (above rests c.tops) → StackPrecedes x y
      wild_first x y i j = subst (λ (a : Stack). StackPrecedes a y) (sym ((In-marked c.wild wildcard x).0 i).1)
          (marks_precede wildcard refl c.tops y j)

      bottom_first : (y : Stack) → In y (marked c.wild wildcard ++ above rests c.tops) → StackPrecedes bottom y
      bottom_first y j = elim ((In-append (marked c.wild wildcard) (above rests c.tops) y).0 j) [
        | inl i ↦ subst (StackPrecedes bottom) (sym ((In-marked c.wild wildcard y).0 i).1) (inr (refl, refl, refl))
        | inr i ↦ marks_precede bottom refl c.tops y i
      ]

      end_first : (x y : Stack) → In x (marked c.end bottom) → In y (marked c.wild wildcard ++ above rests c.tops) → StackPrecedes x y
      end_first x y i j = subst (λ (a : Stack). StackPrecedes a y) (sym ((In-marked c.end bottom x).0 i).1) (bottom_first y j)

module _ (g : List Content) (canon : IsCanonical g) where
  rise_by : (rests : ℕ → List Stack) → ((m : ℕ) → StacksRise (rests m)) → (n : ℕ) (o : Option Content) → slice_get g n ≡ o
      → StacksRise (listed rests (slice_get g n))
  rise_by rests up n None at = subst (λ o. StacksRise (listed rests o)) (sym at) tt
  rise_by rests up n (Some c) at = subst (λ o. StacksRise (listed rests o)) (sym at) (rise_listed rests up c (canon.plain n c at).sorted)

  rise_below : (k n : ℕ) → StacksRise (stacks_below g k n)
  rise_below zero n = tt
  rise_below (suc k) n = rise_by (stacks_below g k) (rise_below k) n (slice_get g n) refl

  pub lists_in_order : (n : ℕ) → StacksRise (stacks_of g n)
  unfolding stacks_of
  lists_in_order n = rise_below (suc n) n

-- a set has one list in order: that of configurations with one state and one alternative

abbrev with_stack : Stack → Config
with_stack = config 0 0

configs_rise : (xs : List Stack) → StacksRise xs → IsRising (map with_stack xs)
configs_rise [] up = tt
configs_rise (x ∷ []) up = tt
configs_rise (x ∷ y ∷ xs) up = (inr (refl, inr (refl, up.0)), configs_rise (y ∷ xs) up.1)

In-configs : (xs : List Stack) (d : Config) → In d (map with_stack xs) ↔ ((s : Stack) × In s xs × (d ≡ with_stack s))
In-configs [] d = ((λ h. absurd h), (λ p. absurd p.1))
In-configs (x ∷ xs) d = let r = In-configs xs d in (
  (λ h. elim h [ inl is ↦ (x, inl refl, is) | inr i ↦ (let q = r.0 i in (q.0, inr q.1, q.2)) ]),
  (λ p. elim p.1 [ inl is ↦ inl (p.2 ∙ ap with_stack is) | inr i ↦ inr (r.1 (p.0, i, p.2)) ]),
)

configs_stacks : (xs : List Stack) → map (λ (d : Config). d.stack) (map with_stack xs) ≡ xs
configs_stacks [] = refl
configs_stacks (x ∷ xs) = ap (λ ys. x ∷ ys) (configs_stacks xs)

configs_within : (xs ys : List Stack) → ((s : Stack) → In s xs → In s ys) → (d : Config) → Contains (map with_stack xs) d
    → Contains (map with_stack ys) d
configs_within xs ys to d i =
    let p = (In-configs xs d).0 (In-from (map with_stack xs) d i.0 i.1 i.2) in
    In-to (map with_stack ys) d ((In-configs ys d).1 (p.0, to p.0 p.1, p.2))

one_list : (xs ys : List Stack) → StacksRise xs → StacksRise ys → ((s : Stack) → In s xs → In s ys)
    → ((s : Stack) → In s ys → In s xs) → xs ≡ ys
one_list xs ys up up' to from =
    let rows : map with_stack xs ≡ map with_stack ys = one_row (Contains (map with_stack ys)) (map with_stack xs) (map with_stack ys)
    (record { rising = configs_rise xs up; exactly = λ d. (configs_within xs ys to d, configs_within ys xs from d) })
    (record { rising = configs_rise ys up'; exactly = λ d. ((λ i. i), (λ i. i)) }) in
    sym (configs_stacks xs) ∙ ap (map (λ (d : Config). d.stack)) rows ∙ configs_stacks ys

-- nodes have equal lists exactly where they have the same stacks
pub lists_canonical : (g h : List Content) (n m : ℕ) → IsCanonical g → IsCanonical h
    → (stacks_of g n ≡ stacks_of h m) ↔ ((s : Stack) → Has g n s ↔ Has h m s)
lists_canonical g h n m canon canon' = (
  (λ e s. (
    (λ x. (listed_exactly h canon' m s).0 (subst (In s) e ((listed_exactly g canon n s).1 x))),
    (λ x. (listed_exactly g canon n s).0 (subst (In s) (sym e) ((listed_exactly h canon' m s).1 x))),
  )),
  (λ alike. one_list (stacks_of g n) (stacks_of h m) (lists_in_order g canon n) (lists_in_order h canon' m)
      (λ s i. (listed_exactly h canon' m s).1 ((alike s).0 ((listed_exactly g canon n s).0 i)))
      (λ s i. (listed_exactly g canon n s).1 ((alike s).1 ((listed_exactly h canon' m s).0 i)))),
)
