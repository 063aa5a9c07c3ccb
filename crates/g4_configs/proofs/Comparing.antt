-- What is said of the groups of a set is said of the set.
use Rattle.std.proofs.Common.{◌≡◌, ◌≢◌, ◌<◌, ℕ, ◌↔◌, ◌⊎◌, inl, inr, Bool, IsTrue, List, Some, Contains, length, get_or, map, sym, ◌∙◌, ap, subst, arith}
use Rattle.std.proofs.lemmas.List.{get_or-map, get_or_default, length-map}
use Rattle.g4_stacks.specs.Canonical.{IsCanonical}
use Rattle.g4_net.specs.Configurations.{Config}
use Rattle.g4_net.specs.Lookahead.{Alike, Conflict, LoneState}
use Rattle.g4_configs.specs.declared.group.Group.{Group}
use Rattle.g4_configs.specs.Configs.{AreGroups, Holds, View}
use Rattle.g4_configs.specs.Groups.{AreApart, AreNodes, Entries, node_at}
use Rattle.g4_configs.specs.Verdicts.{AreAlike, HasTwice, IsLone, pair_of}
use Rattle.g4_configs.proofs.Meaning.{HasLoneNode, NodesAlike, NodesConflict, alike_exact, conflict_exact, lone_exact}

-- the list is that of the map's entries
abbrev pub AreEntries : Entries → List Group → Type 0
AreEntries m xs = (x : Group) → Contains xs x ↔ (node_at m (x.state, x.alternative) ≡ Some x.stacks)

-- where nothing is of another alternative, no two alternatives are left
pub one_alternative : (C : Config → Type 0) (i : ℕ) → (((c : Config) × C c × (c.alt ≢ i)) → ⊥) → Alike C → ⊥
one_alternative C i none alike = by alike.several
  where
    is : (c : Config) → C c → (c.alt ≡ i) ⊎ (c.alt ≢ i) → c.alt ≡ i
    is c w (inl e) = e
    is c w (inr ne) = absurd (none (c, w, ne))

    same : (j : ℕ) → (j ≡ i) ⊎ (j ≢ i)
    same j = grind arith

    by : ((c d : Config) × C c × C d × (c.alt ≢ d.alt)) → ⊥
    by (c, d, w, x, ne) = ne (is c w (same c.alt) ∙ sym (is d x (same d.alt)))

abbrev made : ℕ → ℕ → ℕ → Group
made p i n = record { state = p; alternative = i; stacks = n }

module _ (v : View) (canon : IsCanonical v.graph) (nodes : AreNodes v.graph v.nodes) (xs : List Group) where
  -- all groups are alike exactly where all nodes are
  groups_alike : AreEntries v.nodes xs → AreAlike v.nodes xs ↔ NodesAlike v.nodes
  groups_alike entries = (
    (λ alike p i n q j k a b. alike (made p i n) (made q j k) ((entries (made p i n)).1 a) ((entries (made q j k)).1 b)),
    (λ alike x y in_x in_y. alike x.state x.alternative x.stacks y.state y.alternative y.stacks ((entries x).0 in_x) ((entries y).0 in_y)),
  )

  pub alike_verdict : (r : Bool) → AreEntries v.nodes xs → (IsTrue r ↔ AreAlike v.nodes xs)
      → ((c d : Config) × Holds v c × Holds v d × (c.alt ≢ d.alt)) → IsTrue r ↔ Alike (Holds v)
  alike_verdict r entries answer several =
      let same = alike_exact v.graph v.nodes canon nodes several in
      let groups = groups_alike entries in
      ((λ t. same.0 (groups.0 (answer.0 t))), (λ a. answer.1 (groups.1 (same.1 a))))

  -- two places with one state and one node are a conflict
  groups_conflict : AreGroups v xs → HasTwice (map pair_of xs) ↔ NodesConflict v.nodes
  groups_conflict groups = (to, from)
    where
      to : HasTwice (map pair_of xs) → NodesConflict v.nodes
      to (i, j, lt, within, same) =
          let long : length (map pair_of xs) ≡ length xs = length-map xs pair_of in
          let x : Group = get_or xs i (made 0 0 0) in
          let y : Group = get_or xs j (made 0 0 0) in
          let in_x : Contains xs x = (i, omega arith, get_or_default xs i x (made 0 0 0) (omega arith)) in
          let in_y : Contains xs y = (j, omega arith, get_or_default xs j y (made 0 0 0) (omega arith)) in
          let pairs : pair_of x ≡ pair_of y = sym (get_or-map pair_of xs i (made 0 0 0) (0, 0) (omega arith)) ∙ same (0, 0)
          ∙ get_or-map pair_of xs j (made 0 0 0) (0, 0) (omega arith) in
          let before : AreApart x y = groups.apart i j (made 0 0 0) lt (omega arith) in (
            x.state,
            x.alternative,
            y.alternative,
            x.stacks,
            apart x y pairs before,
            (groups.entries x).0 in_x,
            at_pair x y pairs ((groups.entries y).0 in_y),
          )
        where
          apart : (x y : Group) → pair_of x ≡ pair_of y → AreApart x y → x.alternative ≢ y.alternative
          apart x y pairs differ e = differ (ap (λ (q : ℕ × ℕ). q.0) pairs) e

          at_pair : (x y : Group) → pair_of x ≡ pair_of y → node_at v.nodes (y.state, y.alternative) ≡ Some y.stacks
              → node_at v.nodes (x.state, y.alternative) ≡ Some x.stacks
          at_pair x y pairs at =
              let p : y.state ≡ x.state = ap (λ (q : ℕ × ℕ). q.0) (sym pairs) in
              let n : y.stacks ≡ x.stacks = ap (λ (q : ℕ × ℕ). q.1) (sym pairs) in
              subst (λ (k : ℕ). node_at v.nodes (x.state, y.alternative) ≡ Some k) n
              (subst (λ (p : ℕ). node_at v.nodes (p, y.alternative) ≡ Some y.stacks) p at)

      from : NodesConflict v.nodes → HasTwice (map pair_of xs)
      from (p, i, j, n, ne, a, b) = two ((groups.entries (made p i n)).1 a) ((groups.entries (made p j n)).1 b)
        where
          long : length (map pair_of xs) ≡ length xs
          long = length-map xs pair_of

          order : (k l : ℕ) → (k < l) ⊎ ((k ≡ l) ⊎ (l < k))
          order k l = grind arith

          placed : (h k : ℕ) → k < length xs → get_or xs k (made p h n) ≡ made p h n → (d : ℕ × ℕ) → get_or (map pair_of xs) k d ≡ (p, n)
          placed h k lt e d = get_or-map pair_of xs k (made p h n) d lt ∙ ap pair_of e

          one : (k : ℕ) → k < length xs → get_or xs k (made p i n) ≡ made p i n → get_or xs k (made p j n) ≡ made p j n → ⊥
          one k lt e f = ne (ap (λ (x : Group). x.alternative) (sym e ∙ get_or_default xs k (made p i n) (made p j n) lt ∙ f))

          two : Contains xs (made p i n) → Contains xs (made p j n) → HasTwice (map pair_of xs)
          two (k, k_in, e) (l, l_in, f) = elim (order k l) [
            | inl lt ↦ (k, l, lt, omega (arith, long), (λ d. placed i k k_in e d ∙ sym (placed j l l_in f d)))
            | inr (inl same) ↦ absurd (one k k_in e (subst (λ (h : ℕ). get_or xs h (made p j n) ≡ made p j n) (sym same) f))
            | inr (inr lt) ↦ (l, k, lt, omega (arith, long), (λ d. placed j l l_in f d ∙ sym (placed i k k_in e d)))
          ]

  pub conflict_verdict : (r : Bool) → AreGroups v xs → (IsTrue r ↔ HasTwice (map pair_of xs)) → IsTrue r ↔ Conflict (Holds v)
  conflict_verdict r groups answer =
      let same = conflict_exact v.graph v.nodes canon nodes in
      let twice = groups_conflict groups in
      ((λ t. same.0 (twice.0 (answer.0 t))), (λ a. answer.1 (twice.1 (same.1 a))))

  -- a group alone at its state is a node alone there
  groups_lone : AreGroups v xs → ((i : ℕ) × (i < length xs) × IsLone xs i) ↔ HasLoneNode v.nodes
  groups_lone groups = (to, from)
    where
      to : ((i : ℕ) × (i < length xs) × IsLone xs i) → HasLoneNode v.nodes
      to (i, within, lone) =
          let x : Group = get_or xs i (made 0 0 0) in
          let in_x : Contains xs x = (i, within, get_or_default xs i x (made 0 0 0) within) in
          (x.state, x.alternative, x.stacks, (groups.entries x).0 in_x, (λ j k at. only j k ((groups.entries (made x.state j k)).1 at)))
        where
          only : (j k : ℕ) → Contains xs (made (get_or xs i (made 0 0 0)).state j k) → j ≡ (get_or xs i (made 0 0 0)).alternative
          only j k (l, l_in, e) =
              let y : Group = made (get_or xs i (made 0 0 0)).state j k in
              let here : get_or xs i y ≡ get_or xs i (made 0 0 0) = get_or_default xs i y (made 0 0 0) within in
              let state : (get_or xs l y).state ≡ (get_or xs i y).state =
              ap (λ (x : Group). x.state) e ∙ ap (λ (x : Group). x.state) (sym here) in
              let same : l ≡ i = lone l y l_in state in
              ap (λ (x : Group). x.alternative) (sym e ∙ ap (λ (h : ℕ). get_or xs h y) same ∙ here)

      from : HasLoneNode v.nodes → (i : ℕ) × (i < length xs) × IsLone xs i
      from (p, i, n, at, only) = by ((groups.entries (made p i n)).1 at)
        where
          order : (k l : ℕ) → (k < l) ⊎ ((k ≡ l) ⊎ (l < k))
          order k l = grind arith

          -- two groups of one state and one alternative are at one place
          one : (j k : ℕ) (d : Group) → j < length xs → k < length xs → (get_or xs j d).state ≡ (get_or xs k d).state
              → (get_or xs j d).alternative ≡ (get_or xs k d).alternative → j ≡ k
          one j k d j_in k_in e f = elim (order j k) [
            | inl lt ↦ absurd (groups.apart j k d lt k_in e f)
            | inr (inl same) ↦ same
            | inr (inr lt) ↦ absurd (groups.apart k j d lt j_in (sym e) (sym f))
          ]

          by : Contains xs (made p i n) → (i : ℕ) × (i < length xs) × IsLone xs i
          by (k, k_in, e) = (k, k_in, lone)
            where
              lone : (j : ℕ) (d : Group) → j < length xs → (get_or xs j d).state ≡ (get_or xs k d).state → j ≡ k
              lone j d j_in state =
                  let y : Group = get_or xs j d in
                  let here : get_or xs k d ≡ made p i n = get_or_default xs k d (made p i n) k_in ∙ e in
                  let in_y : Contains xs y = (j, j_in, get_or_default xs j y d j_in) in
                  let at_p : y.state ≡ p = state ∙ ap (λ (x : Group). x.state) here in
                  let found : node_at v.nodes (p, y.alternative) ≡ Some y.stacks =
                  subst (λ (q : ℕ). node_at v.nodes (q, y.alternative) ≡ Some y.stacks) at_p ((groups.entries y).0 in_y) in
                  one j k d j_in k_in state (only y.alternative y.stacks found ∙ ap (λ (x : Group). x.alternative) (sym here))

  pub lone_verdict : (r : Bool) → AreGroups v xs → (IsTrue r ↔ ((i : ℕ) × (i < length xs) × IsLone xs i)) → IsTrue r ↔ LoneState (Holds v)
  lone_verdict r groups answer =
      let same = lone_exact v.graph v.nodes canon nodes in
      let lone = groups_lone groups in
      ((λ t. same.0 (lone.0 (answer.0 t))), (λ a. answer.1 (lone.1 (same.1 a))))
