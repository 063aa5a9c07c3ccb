-- What the nodes of a set say of its alternatives.
use Rattle.std.proofs.Common.{◌≡◌, ◌≢◌, ℕ, suc, ◌↔◌, List, Option, Some, None, IfNone, IfSome, refl, sym, subst, arith}
use Rattle.g4_stacks.specs.Graph.{Content, HasOf}
use Rattle.g4_stacks.specs.Canonical.{IsCanonical}
use Rattle.g4_stacks.proofs.Canonicity.{unique, witness}
use Rattle.g4_net.specs.Configurations.{Config, Stack, config}
use Rattle.g4_net.specs.Lookahead.{Alike, Conflict, HaveSameStacks, LoneState}
use Rattle.g4_configs.specs.Configs.{HasStack, Holds, IsOfGroup, IsStacks, View}
use Rattle.g4_configs.specs.Groups.{AreNodes, Entries, HasAt, Within, group_of, node_at}

-- at some state two alternatives have one node
abbrev pub NodesConflict : Entries → Type 0
NodesConflict m = (p i j n : ℕ) × (i ≢ j) × (node_at m (p, i) ≡ Some n) × (node_at m (p, j) ≡ Some n)

-- some state has one alternative
abbrev pub HasLoneNode : Entries → Type 0
HasLoneNode m = (p i n : ℕ) × (node_at m (p, i) ≡ Some n) × ((j k : ℕ) → node_at m (p, j) ≡ Some k → j ≡ i)

-- at each state each alternative has one node
abbrev pub NodesAlike : Entries → Type 0
NodesAlike m = (p i n q j k : ℕ) → node_at m (p, i) ≡ Some n → node_at m (q, j) ≡ Some k → node_at m (q, i) ≡ Some k

-- the node of a state and an alternative is that of a set of stacks
pub node_known : (g : List Content) (m : Entries) → AreNodes g m → (v : View) → record { graph = g; nodes = m } ≡ v → (p i : ℕ)
    (o : Option ℕ) → o ≡ node_at m (p, i) → IfSome o (IsStacks v)
node_known g m nodes v is p i None e = tt
node_known g m nodes v is p i (Some n) e = subst (λ (w : View). IsStacks w n) is (nodes (p, i) n (sym e)).0

-- and what it has is in the set
pub node_held : (g : List Content) (m : Entries) (v : View) → record { graph = g; nodes = m } ≡ v → (p i : ℕ) (o : Option ℕ)
    → o ≡ node_at m (p, i) → IfSome o (λ n. (c : Config) → IsOfGroup v (group_of ((p, i), n)) c → Holds v c)
node_held g m v is p i None e = tt
node_held g m v is p i (Some n) e =
    subst (λ (w : View). (c : Config) → IsOfGroup w (group_of ((p, i), n)) c → Holds w c) is (λ c h.
    let there : node_at m (c.state, c.alt) ≡ Some n = rw (h.state, h.alt) (sym e) in
    subst (λ (k : Option ℕ). HasAt g k c.stack.returns c.stack.wild) (sym there) h.stack)

-- what the set has there is in what the node has
pub node_all : (g : List Content) (m : Entries) (v : View) → record { graph = g; nodes = m } ≡ v → (p i : ℕ) (o : Option ℕ)
    → o ≡ node_at m (p, i) → IfSome o (λ n. (s : Stack) → Holds v (config p i s) → HasStack v n s)
node_all g m v is p i None e = tt
node_all g m v is p i (Some n) e =
    subst (λ (w : View). (s : Stack) → Holds w (config p i s) → HasStack w n s) is (λ s h.
    subst (λ (k : Option ℕ). HasAt g k s.returns s.wild) (sym e) h)

-- where there is no node the set has nothing
pub node_none : (g : List Content) (m : Entries) (v : View) → record { graph = g; nodes = m } ≡ v → (p i : ℕ) (o : Option ℕ)
    → o ≡ node_at m (p, i) → IfNone o ((s : Stack) → Holds v (config p i s) → ⊥)
node_none g m v is p i (Some n) e = tt
node_none g m v is p i None e =
    subst (λ (w : View). (s : Stack) → Holds w (config p i s) → ⊥) is (λ s h.
    subst (λ (k : Option ℕ). HasAt g k s.returns s.wild) (sym e) h)

module _ (g : List Content) (m : Entries) where
  -- a configuration of the set is at a node
  pub held : (c : Config) → Within g m c → (n : ℕ) × (node_at m (c.state, c.alt) ≡ Some n) × HasOf g n c.stack.returns c.stack.wild
  held c w = by (node_at m (c.state, c.alt)) refl w
    where
      by : (o : Option ℕ) → node_at m (c.state, c.alt) ≡ o → HasAt g o c.stack.returns c.stack.wild
          → (n : ℕ) × (node_at m (c.state, c.alt) ≡ Some n) × HasOf g n c.stack.returns c.stack.wild
      by None e h = absurd h
      by (Some n) e h = (n, e, h)

  -- and what a node has is in the set
  holds_at : (p i n : ℕ) (s : Stack) → node_at m (p, i) ≡ Some n → HasOf g n s.returns s.wild → Within g m (config p i s)
  holds_at p i n s at h = subst (λ (o : Option ℕ). HasAt g o s.returns s.wild) (sym at) h

  has_at : (p i n : ℕ) (s : Stack) → node_at m (p, i) ≡ Some n → Within g m (config p i s) → HasOf g n s.returns s.wild
  has_at p i n s at w = subst (λ (o : Option ℕ). HasAt g o s.returns s.wild) at w

  same_stacks : (p i j n : ℕ) → node_at m (p, i) ≡ Some n → node_at m (p, j) ≡ Some n → HaveSameStacks (Within g m) p i j
  same_stacks p i j n a b s = ((λ w. holds_at p j n s b (has_at p i n s a w)), (λ w. holds_at p i n s a (has_at p j n s b w)))

  module _ (canon : IsCanonical g) (nodes : AreNodes g m) where
    -- each node of the set has a stack
    pub some_stack : (p i n : ℕ) → node_at m (p, i) ≡ Some n → (s : Stack) × Within g m (config p i s)
    some_stack p i n at =
        let known = nodes (p, i) n at in
        let w = witness g canon (suc n) n (omega arith) known.1 known.0 in
        (w.0, holds_at p i n w.0 at w.1)

    same_node : (p i j k n : ℕ) → node_at m (p, i) ≡ Some k → node_at m (p, j) ≡ Some n → HaveSameStacks (Within g m) p i j → k ≡ n
    same_node p i j k n a b same =
        unique g canon k n (nodes (p, i) k a).0 (nodes (p, j) n b).0 (λ s. (
          (λ h. has_at p j n s b ((same s).0 (holds_at p i k s a h))),
          (λ h. has_at p i k s a ((same s).1 (holds_at p j n s b h))),
        ))

    pub conflict_exact : NodesConflict m ↔ Conflict (Within g m)
    conflict_exact = (to, from)
      where
        to : NodesConflict m → Conflict (Within g m)
        to (p, i, j, n, ne, a, b) = (p, i, j, ne, some_stack p i n a, same_stacks p i j n a b)

        from : Conflict (Within g m) → NodesConflict m
        from (p, i, j, ne, (s, w), same) =
            let k = held (config p i s) w in
            let l = held (config p j s) ((same s).0 w) in
            let one = same_node p i j k.0 l.0 k.1 l.1 same in
            (p, i, j, k.0, ne, k.1, subst (λ (n : ℕ). node_at m (p, j) ≡ Some n) (sym one) l.1)

    pub lone_exact : HasLoneNode m ↔ LoneState (Within g m)
    lone_exact = (to, from)
      where
        to : HasLoneNode m → LoneState (Within g m)
        to (p, i, n, a, only) = (p, i, some_stack p i n a, (λ j s w. let k = held (config p j s) w in only j k.0 k.1))

        from : LoneState (Within g m) → HasLoneNode m
        from (p, i, (s, w), only) = let k = held (config p i s) w in
            (p, i, k.0, k.1, (λ j n a. let z = some_stack p j n a in only j z.0 z.1))

    pub alike_exact : ((c d : Config) × Within g m c × Within g m d × (c.alt ≢ d.alt)) → NodesAlike m ↔ Alike (Within g m)
    alike_exact several = (to, from)
      where
        to : NodesAlike m → Alike (Within g m)
        to alike = record {
          several = several;
          same = λ c d e in_c in_d in_e.
              let x = held c in_c in
              let y = held d in_d in
              let z = held e in_e in
              same_stacks e.state c.alt d.alt z.0 (alike c.state c.alt x.0 e.state e.alt z.0 x.1 z.1)
              (alike d.state d.alt y.0 e.state e.alt z.0 y.1 z.1);
        }

        from : Alike (Within g m) → NodesAlike m
        from alike p i n q j k a b =
            let x = some_stack p i n a in
            let y = some_stack q j k b in
            let same = alike.same (config p i x.0) (config q j y.0) (config q j y.0) x.1 y.1 y.1 in
            let z = held (config q i y.0) ((same y.0).1 y.1) in
            let one = same_node q i j z.0 k z.1 b same in
            subst (λ (l : ℕ). node_at m (q, i) ≡ Some l) one z.1
