-- The least of the shortest cycles from a node, by the distances to it.
use Rattle.std.proofs.Common.{◌≡◌, ◌≤◌, inl, inr, ℕ, suc, List, [], ◌∷◌, ◌++◌, Contains, Option, Some, None, length, refl, sym, ◌∙◌, ap, subst, arith, append_assoc, append-nil}
use Rattle.g4_cycles.specs.Cycles.{Reaches, once, further, LeadsAlong, IsCycle, BeginsWith, Precedes, IsShortestFrom}
use Rattle.g4_cycles.specs.Edges.{Graph, EdgeOf, successors_of}
use Rattle.g4_cycles.specs.Marks.{distance_of, AreDistances, IsLeast, HasDistance, IsAtDistance}
use Rattle.g4_cycles.proofs.Marking.{same_value}

-- Each node leads to the next and the last to the root, and each next one is the least of those that are as near to it.
abbrev pub IsBest : (ℕ → ℕ → Type 0) → ℕ → List (Option ℕ) → ℕ → List ℕ → Type 0
IsBest Edge root d k [] = Edge k root
IsBest Edge root d k (x ∷ xs) = Edge k x × (distance_of d x ≡ Some (suc (length xs)))
    × ((i : ℕ) → Edge k i → distance_of d i ≡ Some (suc (length xs)) → x ≤ i) × IsBest Edge root d x xs

-- The least distance of what the node leads to.
pub record LeadsAt (Edge : ℕ → ℕ → Type 0) (d : List (Option ℕ)) (k m : ℕ) : Type 0 where
  pub near : (i : ℕ) × Edge k i × (distance_of d i ≡ Some m)
  pub no_nearer : (i j : ℕ) → Edge k i → distance_of d i ≡ Some j → m ≤ j

module _ (Edge : ℕ → ℕ → Type 0) (root : ℕ) (d : List (Option ℕ)) (a : AreDistances Edge root d) where
  -- the first node of a walk to the root leads to a node that is no farther than the rest of the walk
  pub near_along : (k : ℕ) (nodes : List ℕ) → LeadsAlong Edge k nodes root
      → (i j : ℕ) × Edge k i × (distance_of d i ≡ Some j) × (j ≤ length nodes)
  near_along k [] e = (root, 0, e, a.at_root, omega arith)
  near_along k (x ∷ nodes) (e, walk) =
      let h = near_along x nodes walk in
      let b = a.before x h.0 h.1 h.2 h.3 in
      (x, b.0, e, b.1, omega (arith, b.2, h.4))

  -- what reaches the root leads to a node with a distance
  pub reaching_near : (k : ℕ) → Reaches Edge k root → (i j : ℕ) × Edge k i × (distance_of d i ≡ Some j)
  reaching_near k reaches = near_reached k root reaches refl
    where
      near_reached : (k j : ℕ) → Reaches Edge k j → j ≡ root → (i m : ℕ) × Edge k i × (distance_of d i ≡ Some m)
      near_reached k j (once x y e) is = (root, 0, subst (Edge k) is e, a.at_root)
      near_reached k j (further x i y e more) is =
          let h = near_reached i j more is in
          let b = a.before i h.0 h.1 h.2 h.3 in
          (i, b.0, e, b.1)

  best_along : (k : ℕ) (nodes : List ℕ) → IsBest Edge root d k nodes → LeadsAlong Edge k nodes root
  best_along k [] e = e
  best_along k (x ∷ xs) (e, at, least, best) = (e, best_along x xs best)

  -- the next node leads to one that is nearer by one
  pub leads_next : (k x m : ℕ) → distance_of d x ≡ Some (suc m) → LeadsAt Edge d x m
  leads_next k x m at = record {
    near = a.next x m at;
    no_nearer = λ i j e is. let b = a.before x i j e is in let same = same_value (distance_of d x) (suc m) b.0 at b.1 in
        omega (arith, b.2, same);
  }

  -- no walk as long as the best one precedes it
  best_least : (k : ℕ) (nodes others : List ℕ) → IsBest Edge root d k nodes → LeadsAt Edge d k (length nodes)
      → LeadsAlong Edge k others root → length others ≡ length nodes → Precedes others nodes → ⊥
  best_least k [] others best at walk same before = before
  best_least k (x ∷ xs) [] best at walk same before = omega (arith, same)
  best_least k (x ∷ xs) (y ∷ ys) (e, is, least, best) at (e', walk) same before =
      let h = near_along y ys walk in
      let b = a.before y h.0 h.1 h.2 h.3 in
      let low : suc (length xs) ≤ b.0 = at.no_nearer y b.0 e' b.1 in
      let exact : b.0 ≡ suc (length xs) = omega (arith, low, b.2, h.4, same) in
      elim before [
        | inl less ↦ (let most : x ≤ y = least y e' (subst (λ (n : ℕ). distance_of d y ≡ Some n) exact b.1) in omega (arith, less, most))
        | inr (equal, more) ↦ best_least x xs ys best (leads_next k x (length xs) is)
            (subst (λ (z : ℕ). LeadsAlong Edge z ys root) equal walk) (omega (arith, same)) more
      ]

  -- so the best cycle is the least of the shortest
  pub best_shortest : (nodes cycle : List ℕ) → cycle ≡ root ∷ nodes → IsBest Edge root d root nodes
      → LeadsAt Edge d root (length nodes) → IsShortestFrom Edge root cycle
  best_shortest nodes cycle is best at = subst (IsShortestFrom Edge root) (sym is) (record {
    begins = refl;
    is_cycle = best_along root nodes best;
    shortest = λ other. shortest other;
    least = λ other. least other;
  })
    where
      as_walk : (first : ℕ) (others : List ℕ) → first ≡ root → LeadsAlong Edge first others first → LeadsAlong Edge root others root
      as_walk first others same walk = subst (λ (x : ℕ). LeadsAlong Edge x others x) same walk

      shortest : (other : List ℕ) → BeginsWith root other → IsCycle Edge other → suc (length nodes) ≤ length other
      shortest [] begins is_cycle = absurd begins
      shortest (first ∷ others) begins walk =
          let h = near_along root others (as_walk first others begins walk) in
          let low : length nodes ≤ h.1 = at.no_nearer h.0 h.1 h.2 h.3 in
          omega (arith, low, h.4)

      least : (other : List ℕ) → BeginsWith root other → IsCycle Edge other → length other ≡ suc (length nodes)
          → Precedes other (root ∷ nodes) → ⊥
      least [] begins is_cycle same before = begins
      least (first ∷ others) begins walk same before = elim before [
        | inl less ↦ omega (arith, less, begins)
        | inr (equal, more) ↦ best_least root nodes others best at (as_walk first others begins walk) (omega (arith, same)) more
      ]

-- The best walk from the root begins with the nodes so far: each best walk from the last of them, so long, continues it.
pub record IsBegun (Edge : ℕ → ℕ → Type 0) (root : ℕ) (d : List (Option ℕ)) (cycle : List ℕ) (node : ℕ) (length_left whole : ℕ) :
    Type 0 where
  pub continues : (tail : List ℕ) → length tail ≡ length_left → IsBest Edge root d node tail
      → (nodes : List ℕ) × (cycle ++ tail ≡ root ∷ nodes) × (length nodes ≡ whole) × IsBest Edge root d root nodes
  pub leads : LeadsAt Edge d node length_left
  pub starts : LeadsAt Edge d root whole

-- the least distance of the successors of a node
pub leads_least : (graph : Graph) (d : List (Option ℕ)) (k m : ℕ) (nodes : List ℕ) → nodes ≡ successors_of graph k
    → IsLeast (HasDistance d nodes) (Some m) → LeadsAt (EdgeOf graph) d k m
leads_least graph d k m nodes is least =
    let l : IsLeast (HasDistance d (successors_of graph k)) (Some m) =
    subst (λ (xs : List ℕ). IsLeast (HasDistance d xs) (Some m)) is least in
    record {
      near = l.0;
      no_nearer = λ i j e at. l.1 j (i, e, at);
    }

-- at first the root is all there is of it
pub begun_first : (Edge : ℕ → ℕ → Type 0) (root : ℕ) (d : List (Option ℕ)) (cycle : List ℕ) (left whole : ℕ) → left ≡ whole
    → cycle ≡ root ∷ [] → LeadsAt Edge d root whole → IsBegun Edge root d cycle root left whole
begun_first Edge root d cycle left whole same is leads = record {
  continues = λ tail e best. (tail, ap (λ (xs : List ℕ). xs ++ tail) is, e ∙ same, best);
  leads = subst (LeadsAt Edge d root) (sym same) leads;
  starts = leads;
}

-- one more node, the least of those that are as near
pub begun_more : (graph : Graph) (root : ℕ) (d : List (Option ℕ)) (cycle new : List ℕ) (node next left rest whole : ℕ)
    (nodes : List ℕ) → AreDistances (EdgeOf graph) root d → left ≡ suc rest → nodes ≡ successors_of graph node
    → IsLeast (IsAtDistance d nodes left) (Some next)
    → new ≡ cycle ++ next ∷ [] → IsBegun (EdgeOf graph) root d cycle node left whole → IsBegun (EdgeOf graph) root d new next rest whole
begun_more graph root d cycle new node next left rest whole nodes a left_is is least new_is b =
    let l : IsLeast (IsAtDistance d (successors_of graph node) (suc rest)) (Some next) =
    subst (λ (n : ℕ). IsLeast (IsAtDistance d (successors_of graph node) n) (Some next)) left_is
    (subst (λ (xs : List ℕ). IsLeast (IsAtDistance d xs left) (Some next)) is least) in
    record {
      continues = λ tail e best.
          let far : suc rest ≡ suc (length tail) = ap (λ (n : ℕ). suc n) (sym e) in
          let longer : IsBest (EdgeOf graph) root d node (next ∷ tail) = (
            l.0.0,
            subst (λ (n : ℕ). distance_of d next ≡ Some n) far l.0.1,
            (λ i edge at. l.1 i (edge, subst (λ (n : ℕ). distance_of d i ≡ Some n) (sym far) at)),
            best,
          ) in
          let whole_walk = b.continues (next ∷ tail) (sym far ∙ sym left_is) longer in (
            whole_walk.0,
            ap (λ (xs : List ℕ). xs ++ tail) new_is ∙ (append_assoc cycle (next ∷ []) tail ∙ whole_walk.1),
            whole_walk.2,
            whole_walk.3,
          );
      leads = leads_next (EdgeOf graph) root d a node next rest l.0.1;
      starts = b.starts;
    }

-- at last the node leads to the root
pub begun_last : (Edge : ℕ → ℕ → Type 0) (root : ℕ) (d : List (Option ℕ)) (cycle : List ℕ) (node left whole : ℕ)
    → AreDistances Edge root d → left ≡ 0 → IsBegun Edge root d cycle node left whole → IsShortestFrom Edge root cycle
begun_last Edge root d cycle node left whole a none b =
    let near = b.leads.near in
    let back : near.0 ≡ root = a.zero_at_root near.0 (subst (λ (n : ℕ). distance_of d near.0 ≡ Some n) none near.2) in
    let walk = b.continues [] (sym none) (subst (Edge node) back near.1) in
    best_shortest Edge root d a walk.0 cycle (sym (append-nil cycle) ∙ walk.1) walk.3 (subst (LeadsAt Edge d root) (sym walk.2) b.starts)

-- a node none of whose successors has a distance to it is on no cycle
pub no_cycle : (graph : Graph) (root : ℕ) (d : List (Option ℕ)) (nodes : List ℕ) → nodes ≡ successors_of graph root
    → AreDistances (EdgeOf graph) root d → IsLeast (HasDistance d nodes) None → Reaches (EdgeOf graph) root root → ⊥
no_cycle graph root d nodes is a none reaches =
    let h = reaching_near (EdgeOf graph) root d a root reaches in
    none h.1 (h.0, subst (λ (xs : List ℕ). Contains xs h.0) (sym is) h.2, h.3)
