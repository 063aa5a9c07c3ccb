-- Edges of graphs as lists of successors, and of reversed graphs.
use Rattle.std.proofs.Common.{◌≡◌, ◌<◌, ◌≤◌, ◌+◌, ◌⊎◌, ◌↔◌, inl, inr, ℕ, List, [], ◌∷◌, ◌++◌, Contains, Option, Some, None, length, get_or, set, take, drop, slice_get, Vec, Global, refl, sym, ◌∙◌, ap, subst, arith, length-set, get_or-set_same, get_or-set_other}
use Rattle.std.proofs.lemmas.Bool.{cases_lt, cases_eq}
use Rattle.std.proofs.lemmas.List.{take_more, take_all, take-append-le}
use Rattle.std.proofs.lemmas.List.Elements.{Contains-append_left, Contains-push, Contains-push_cases}
use Rattle.std.proofs.lemmas.Option.{slice_get-get_or, slice_get_past, slice_get_within}
use Rattle.g4_cycles.specs.Cycles.{Reaches, once, further}
use Rattle.g4_cycles.specs.Edges.{Graph, listed_by, successors_of, EdgeOf, AddsReversed, IsReverse, Backward}

-- a list has no item
pub nothing_in : (xs : List ℕ) (k : ℕ) → xs ≡ [] → Contains xs k → ⊥
nothing_in xs k is has = let has' = subst (λ (ys : List ℕ). Contains ys k) is has in omega (arith, has'.1)

-- the items up to the next index are those before it and the one there
pub taken_cases : (xs : List ℕ) (i x k : ℕ) → i < length xs → get_or xs i 0 ≡ x → Contains (take (i + 1) xs) k
    → Contains (take i xs) k ⊎ (k ≡ x)
taken_cases xs i x k within at has = elim (Contains-push_cases (take i xs) (get_or xs i 0) k
    (subst (λ (ys : List ℕ). Contains ys k) (take_more xs i 0 within) has)) [ inl old ↦ inl old | inr is ↦ inr (sym is ∙ at) ]

pub taken_before : (xs : List ℕ) (i k : ℕ) → i < length xs → Contains (take i xs) k → Contains (take (i + 1) xs) k
taken_before xs i k within has = subst (λ (ys : List ℕ). Contains ys k) (sym (take_more xs i 0 within))
    (Contains-append_left (take i xs) (get_or xs i 0 ∷ []) k has)

pub taken_next : (xs : List ℕ) (i x : ℕ) → i < length xs → get_or xs i 0 ≡ x → Contains (take (i + 1) xs) x
taken_next xs i x within at = subst (λ (ys : List ℕ). Contains ys x) (sym (take_more xs i 0 within))
    (subst (Contains (take i xs ++ get_or xs i 0 ∷ [])) at (Contains-push (take i xs) (get_or xs i 0)))

-- a node with a successor is one of the nodes
listed_within : (graph : Graph) (k i : ℕ) (o : Option (Vec ℕ Global)) → slice_get graph k ≡ o → Contains (listed_by o) i → k < length graph
listed_within graph k i None is has = absurd (nothing_in [] i refl has)
listed_within graph k i (Some v) is has = slice_get_within graph k v is

pub edge_within : (graph : Graph) (k i : ℕ) → EdgeOf graph k i → k < length graph
edge_within graph k i e = listed_within graph k i (slice_get graph k) refl e

pub reaches_within : (graph : Graph) (k j : ℕ) → Reaches (EdgeOf graph) k j → k < length graph
reaches_within graph k j (once a b e) = edge_within graph k j e
reaches_within graph k j (further a i b e more) = edge_within graph k i e

-- the item at the index that is set, and at others
pub get_set : {X : Type 0} (xs : List X) (i : ℕ) (v : X) → i < length xs → slice_get (set xs i v) i ≡ Some v
get_set xs i v within =
    let short : i < length (set xs i v) = omega (arith, within, length-set xs i v) in
    slice_get-get_or (set xs i v) i v short ∙ ap (λ x. Some x) (get_or-set_same xs i v v within)

pub get_other : {X : Type 0} (xs : List X) (i k : ℕ) (v : X) → (k ≡ i → ⊥) → slice_get (set xs i v) k ≡ slice_get xs k
get_other xs i k v other = elim (cases_lt k (length xs)) [
  | inl within ↦ (
      let short : k < length (set xs i v) = omega (arith, within, length-set xs i v) in
      slice_get-get_or (set xs i v) k v short ∙ ap (λ x. Some x) (get_or-set_other xs i k v v other) ∙ sym (slice_get-get_or xs k v within)
      )
  | inr past ↦ (
      let long : length (set xs i v) ≤ k = omega (arith, past, length-set xs i v) in
      slice_get_past (set xs i v) k long ∙ sym (slice_get_past xs k past)
      )
]

-- the successors at the index that is set, and at others
pub successors_set : (graph : Graph) (i : ℕ) (v : Vec ℕ Global) → i < length graph → successors_of (set graph i v) i ≡ v.items
successors_set graph i v within = ap listed_by (get_set graph i v within)

pub successors_other : (graph : Graph) (i k : ℕ) (v : Vec ℕ Global) → (k ≡ i → ⊥) → successors_of (set graph i v) k ≡ successors_of graph k
successors_other graph i k v other = ap listed_by (get_other graph i k v other)

-- a successor past the last node adds nothing
pub adds_past : (node : ℕ) (old new : Graph) (xs : List ℕ) (i x : ℕ) → i < length xs → get_or xs i 0 ≡ x → length new ≤ x
    → AddsReversed node (take i xs) old new → AddsReversed node (take (i + 1) xs) old new
adds_past node old new xs i x within at past adds = record {
  size = adds.size;
  edges = λ k j. (
    (λ e. elim ((adds.edges k j).0 e) [ inl before ↦ inl before | inr added ↦ inr (added.0, taken_before xs i j within added.1, added.2) ]),
    (λ h. (adds.edges k j).1 (elim h [
      | inl before ↦ inl before
      | inr added ↦ elim (taken_cases xs i x j within at added.1)
          [ inl has ↦ inr (added.0, has, added.2) | inr is ↦ absurd (omega (arith, adds.size, added.2)) ]
    ])),
  );
}

-- a successor adds the edge to it
pub adds_one : (node : ℕ) (old mid new : Graph) (xs : List ℕ) (i x : ℕ) (v : Vec ℕ Global) → i < length xs → get_or xs i 0 ≡ x
    → x < length mid → new ≡ set mid x v → v.items ≡ successors_of mid x ++ node ∷ []
    → AddsReversed node (take i xs) old mid → AddsReversed node (take (i + 1) xs) old new
adds_one node old mid new xs i x v within at short is_set pushed adds = record {
  size = ap length is_set ∙ (length-set mid x v ∙ adds.size);
  edges = λ k j. (to k j, from k j);
}
  where
    here : successors_of new x ≡ successors_of mid x ++ node ∷ []
    here = ap (λ (g : Graph). successors_of g x) is_set ∙ (successors_set mid x v short ∙ pushed)

    elsewhere : (j : ℕ) → (j ≡ x → ⊥) → successors_of new j ≡ successors_of mid j
    elsewhere j other = ap (λ (g : Graph). successors_of g j) is_set ∙ successors_other mid x j v other

    short_old : x < length old
    short_old = omega (arith, adds.size)

    old_edge : (k j : ℕ) → EdgeOf mid j k → EdgeOf old j k ⊎ ((k ≡ node) × Contains (take (i + 1) xs) j × (j < length old))
    old_edge k j e = elim ((adds.edges k j).0 e)
        [ inl before ↦ inl before | inr added ↦ inr (added.0, taken_before xs i j within added.1, added.2) ]

    to : (k j : ℕ) → EdgeOf new j k → EdgeOf old j k ⊎ ((k ≡ node) × Contains (take (i + 1) xs) j × (j < length old))
    to k j e = elim (cases_eq j x) [
      | inl same ↦ (
          let e' : Contains (successors_of mid x ++ node ∷ []) k =
          subst (λ (ys : List ℕ). Contains ys k) here (subst (λ (y : ℕ). EdgeOf new y k) same e) in
          elim (Contains-push_cases (successors_of mid x) node k e') [
            | inl before ↦ old_edge k j (subst (λ (y : ℕ). EdgeOf mid y k) (sym same) before)
            | inr is ↦ inr (
              sym is,
              subst (Contains (take (i + 1) xs)) (sym same) (taken_next xs i x within at),
              subst (λ (y : ℕ). y < length old) (sym same) short_old,
            )
          ]
          )
      | inr other ↦ old_edge k j (subst (λ (ys : List ℕ). Contains ys k) (elsewhere j other) e)
    ]

    kept : (k j : ℕ) → EdgeOf mid j k → EdgeOf new j k
    kept k j e = elim (cases_eq j x) [
      | inl same ↦ (
          let e' : Contains (successors_of mid x) k = subst (λ (y : ℕ). EdgeOf mid y k) same e in
          subst (λ (y : ℕ). EdgeOf new y k) (sym same)
          (subst (λ (ys : List ℕ). Contains ys k) (sym here) (Contains-append_left (successors_of mid x) (node ∷ []) k e'))
          )
      | inr other ↦ subst (λ (ys : List ℕ). Contains ys k) (sym (elsewhere j other)) e
    ]

    from : (k j : ℕ) → EdgeOf old j k ⊎ ((k ≡ node) × Contains (take (i + 1) xs) j × (j < length old)) → EdgeOf new j k
    from k j (inl before) = kept k j ((adds.edges k j).1 (inl before))
    from k j (inr (is, has, less)) = elim (taken_cases xs i x j within at has) [
      | inl has' ↦ kept k j ((adds.edges k j).1 (inr (is, has', less)))
      | inr same ↦ (
          let e : Contains (successors_of new x) node =
          subst (λ (ys : List ℕ). Contains ys node) (sym here) (Contains-push (successors_of mid x) node) in
          subst (EdgeOf new j) (sym is) (subst (λ (y : ℕ). EdgeOf new y node) (sym same) e)
          )
    ]

-- The graph has the edges of the first nodes reversed.
pub record IsReverseBelow (graph : Graph) (n : ℕ) (reversed : Graph) : Type 0 where
  pub size : length reversed ≡ length graph
  pub edges : (k i : ℕ) → EdgeOf reversed i k ↔ (EdgeOf graph k i × (i < length graph) × (k < n))

pub reverse_goes_on : (graph old new : Graph) (n : ℕ) (successors : List ℕ) → successors ≡ successors_of graph n
    → IsReverseBelow graph n old → AddsReversed n successors old new → IsReverseBelow graph (n + 1) new
reverse_goes_on graph old new n successors is r adds = record {
  size = adds.size ∙ r.size;
  edges = λ k i. (to k i, from k i);
}
  where
    to : (k i : ℕ) → EdgeOf new i k → EdgeOf graph k i × (i < length graph) × (k < n + 1)
    to k i e = elim ((adds.edges k i).0 e) [
      | inl before ↦ (let h = (r.edges k i).0 before in (h.0, h.1, omega (arith, h.2)))
      | inr added ↦ (
          let e' : EdgeOf graph n i = subst (λ (ys : List ℕ). Contains ys i) is added.1 in
          (subst (λ (y : ℕ). EdgeOf graph y i) (sym added.0) e', omega (arith, added.2, r.size), omega (arith, added.0))
          )
    ]

    from : (k i : ℕ) → EdgeOf graph k i × (i < length graph) × (k < n + 1) → EdgeOf new i k
    from k i (e, less, low) = (adds.edges k i).1 (elim (cases_eq k n) [
      | inl same ↦ inr (
        same,
        subst (λ (ys : List ℕ). Contains ys i) (sym is) (subst (λ (y : ℕ). EdgeOf graph y i) same e),
        omega (arith, less, r.size),
      )
      | inr other ↦ inl ((r.edges k i).1 (e, less, omega (arith, low, other)))
    ])

pub reverse_ends : (graph reversed : Graph) (n : ℕ) → length graph ≤ n → IsReverseBelow graph n reversed → IsReverse graph reversed
reverse_ends graph reversed n past r = record {
  size = r.size;
  edges = λ k i. (
    (λ e. let h = (r.edges k i).0 e in (h.0, h.1)),
    (λ (e, less). (r.edges k i).1 (e, less, let within : k < length graph = edge_within graph k i e in omega (arith, past, within))),
  );
}

-- the predecessors are nodes
pub reversed_within : (graph reversed : Graph) → IsReverse graph reversed → (k i : ℕ) → EdgeOf reversed i k → k < length reversed
reversed_within graph reversed r k i e = let h = (r.edges k i).0 e in let within : k < length graph = edge_within graph k i h.0 in
    omega (arith, within, r.size)

-- what a node reaches along the edges is a node that it reaches along the reversed ones
pub reaches_reversed : (graph reversed : Graph) → IsReverse graph reversed → (k j : ℕ) → j < length graph → Reaches (EdgeOf graph) k j
    → Reaches (Backward reversed) k j
reaches_reversed graph reversed r k j less (once a b e) = once k j ((r.edges k j).1 (e, less))
reaches_reversed graph reversed r k j less (further a i b e more) =
    further k i j ((r.edges k i).1 (e, reaches_within graph i j more)) (reaches_reversed graph reversed r i j less more)

-- a list that was lent out as a whole is what came back
pub came_back : {X : Type 0} (n : ℕ) (new items : List X) → n ≡ length new → take n (new ++ drop (length new) items) ≡ new
came_back n new items e =
    let short : n ≤ length new = omega (arith, e) in
    let long : length new ≤ n = omega (arith, e) in
    take-append-le n new (drop (length new) items) short ∙ take_all n new long

-- the successors at an index
pub row_at : (graph : Graph) (k : ℕ) (d : Vec ℕ Global) → k < length graph → successors_of graph k ≡ (get_or graph k d).items
row_at graph k d within = ap listed_by (slice_get-get_or graph k d within)
