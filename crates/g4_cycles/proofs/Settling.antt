-- Nodes that are on no cycle, and the least node that is on one.
use Rattle.std.proofs.Common.{◌≡◌, ◌<◌, ◌≤◌, ◌+◌, inl, inr, ℕ, List, Bool, true, false, IsTrue, Option, Some, None, IsSome, length, get_or, set, replicate, slice_get, sym, ◌∙◌, subst, arith, length-set}
use Rattle.std.proofs.lemmas.Bool.{cases_eq}
use Rattle.std.proofs.lemmas.List.{get_or-replicate, length-replicate}
use Rattle.std.proofs.lemmas.Option.{slice_get_within, get_or_from_slice_get}
use Rattle.g4_cycles.specs.Cycles.{Reaches}
use Rattle.g4_cycles.specs.Edges.{Graph, EdgeOf, Backward, IsReverse}
use Rattle.g4_cycles.specs.Marks.{distance_of, IsOpen, IsSpread}
use Rattle.g4_cycles.proofs.EdgesOf.{get_set, get_other, reaches_within, reaches_reversed}
use Rattle.g4_cycles.proofs.Marking.{value_of, none_or_some, none_in}
use Rattle.g4_cycles.proofs.Spreading.{closed_more, on_no_cycle}

-- Each node that leads to one that was found was found, and those that are marked as acyclic are on no cycle.
pub record IsSettled (Edge : ℕ → ℕ → Type 0) (n : ℕ) (found : List (Option ℕ)) (acyclic : List Bool) : Type 0 where
  pub size : length found ≡ n
  pub same : length acyclic ≡ n
  pub closed : (k i : ℕ) → Edge k i → IsSome (distance_of found i) → IsSome (distance_of found k)
  pub sound : (k : ℕ) → slice_get acyclic k ≡ Some true → Reaches Edge k k → ⊥

not_marked : (n k : ℕ) (acyclic : List Bool) → acyclic ≡ replicate n false → slice_get acyclic k ≡ Some true → ⊥
not_marked n k acyclic is marked =
    let marked' : slice_get (replicate n false) k ≡ Some true = subst (λ (xs : List Bool). slice_get xs k ≡ Some true) is marked in
    let less : k < length (replicate n false) = slice_get_within (replicate n false) k true marked' in
    let short : k < n = omega (arith, less, length-replicate n false) in
    let yes : get_or (replicate n false) k false ≡ true = get_or_from_slice_get (replicate n false) k true false marked' in
    let no : get_or (replicate n false) k false ≡ false = get_or-replicate n k false false short in
    absurd (cc)

-- at first no node was found
pub settled_first : (Edge : ℕ → ℕ → Type 0) (n : ℕ) (found : List (Option ℕ)) (acyclic : List Bool) → found ≡ replicate n None
    → acyclic ≡ replicate n false → IsSettled Edge n found acyclic
settled_first Edge n found acyclic none unmarked = record {
  size = subst (λ (xs : List (Option ℕ)). length xs ≡ n) (sym none) (length-replicate n None);
  same = subst (λ (xs : List Bool). length xs ≡ n) (sym unmarked) (length-replicate n false);
  closed = λ k i e has. let v = value_of (distance_of found i) has in
      absurd (none_or_some (distance_of found i) v.0 (none_in n found i none) v.1);
  sound = λ k marked reaches. not_marked n k acyclic unmarked marked;
}

-- one more search, from a node that is on no cycle where its predecessors were found before
pub settled_more : (Edge : ℕ → ℕ → Type 0) (n x : ℕ) (found new : List (Option ℕ)) (acyclic now : List Bool) (marked : Bool)
    → IsOpen found x → now ≡ set acyclic x marked → (IsTrue marked → (k : ℕ) → Edge k x → IsSome (distance_of found k))
    → IsSpread Edge x found new → IsSettled Edge n found acyclic → IsSettled Edge n new now
settled_more Edge n x found new acyclic now marked open' is all spread s = record {
  size = spread.size ∙ s.size;
  same = subst (λ (xs : List Bool). length xs ≡ n) (sym is) (length-set acyclic x marked ∙ s.same);
  closed = closed_more Edge x found new spread s.closed;
  sound = λ k is_marked. sound k (subst (λ (xs : List Bool). slice_get xs k ≡ Some true) is is_marked);
}
  where
    within : x < length acyclic
    within = omega (arith, open'.0, s.size, s.same)

    sound : (k : ℕ) → slice_get (set acyclic x marked) k ≡ Some true → Reaches Edge k k → ⊥
    sound k is_marked reaches = elim (cases_eq k x) [
      | inl same ↦ (
          let mark_x : slice_get (set acyclic x marked) x ≡ Some true =
          subst (λ (y : ℕ). slice_get (set acyclic x marked) y ≡ Some true) same is_marked in
          let set_x : slice_get (set acyclic x marked) x ≡ Some marked = get_set acyclic x marked within in
          let mark_true : marked ≡ true = cc in
          on_no_cycle Edge found x s.closed (all mark_true) open' (subst (λ (y : ℕ). Reaches Edge y y) same reaches)
          )
      | inr other ↦ s.sound k (sym (get_other acyclic x k marked other) ∙ is_marked) reaches
    ]

-- no node below the next one is on a cycle
pub none_more : (Edge : ℕ → ℕ → Type 0) (n : ℕ) → ((k : ℕ) → k < n → Reaches Edge k k → ⊥) → (Reaches Edge n n → ⊥) → (k : ℕ)
    → k < n + 1 → Reaches Edge k k → ⊥
none_more Edge n below here k less reaches = elim (cases_eq k n) [
  | inl same ↦ here (subst (λ (y : ℕ). Reaches Edge y y) same reaches)
  | inr other ↦ below k (omega (arith, less, other)) reaches
]

-- a node that is marked as acyclic is on no cycle, since it is on none of the reversed graph
pub acyclic_right : (graph reversed : Graph) (acyclic : List Bool) (k : ℕ) → IsReverse graph reversed
    → ((i : ℕ) → slice_get acyclic i ≡ Some true → Reaches (Backward reversed) i i → ⊥) → slice_get acyclic k ≡ Some true
    → Reaches (EdgeOf graph) k k → ⊥
acyclic_right graph reversed acyclic k r sound marked reaches =
    sound k marked (reaches_reversed graph reversed r k k (reaches_within graph k k reaches) reaches)

-- no node is on a cycle
pub none_at_all : (graph : Graph) (n : ℕ) → length graph ≤ n → ((k : ℕ) → k < n → Reaches (EdgeOf graph) k k → ⊥) → (k : ℕ)
    → Reaches (EdgeOf graph) k k → ⊥
none_at_all graph n past below k reaches = let within : k < length graph = reaches_within graph k k reaches in
    below k (omega (arith, within, past)) reaches
