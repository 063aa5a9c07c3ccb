-- A group more in a set.
use Rattle.std.proofs.Common.{◌≡◌, ℕ, zero, suc, ◌<◌, arith, ◌↔◌, ◌⊎◌, inl, inr, List, Bool, true, false, true≢false, Option, Some, None, cond, refl, sym, ◌∙◌, ap, subst}
use Rattle.std.specs.Result.{OnErr}
use Rattle.std.specs.declared.result.Result.{Result}
use Rattle.std.specs.declared.result.Result.TheVariants.{Ok, Err}
use Rattle.g4_net.specs.Configurations as stacks
use Rattle.g4_stacks.specs.Graph.{Content, Has, HasOf, IsNode, Keeps}
use Rattle.g4_stacks.specs.Table.{pair_eq}
use Rattle.g4_stacks.specs.Merge.{IsUnion}
use Rattle.g4_stacks.specs.Canonical.{IsCanonical}
use Rattle.g4_stacks.proofs.Marks.{none_in}
use Rattle.g4_net.specs.Configurations.{Config}
use Rattle.g4_configs.specs.declared.group.Group.{Group}
use Rattle.g4_configs.specs.Configs.{Holds, View}
use Rattle.g4_configs.specs.Groups.{Entries, node_at, HasAt, Within, AreNodes, InGroup, Same, Subset}
use Rattle.g4_configs.proofs.Keys.{pair_exact, pair_tells}

pair_equal : (a b a' b' : ℕ) → a ≡ a' → b ≡ b' → Path (ℕ × ℕ) (a, b) (a', b')
pair_equal a b a' b' e f = cc

-- no node means no stack
pub none_means : (g : List Content) (n : ℕ) (o : Option ℕ) → o ≡ None → ((s : stacks.Stack) → Has g n s → ⊥)
    → (returns : List ℕ) (wild : Bool) → HasOf g n returns wild ↔ HasAt g o returns wild
none_means g n None e empty returns wild = ((λ h. absurd (empty (record { returns = returns; wild = wild }) h)), (λ h. absurd h))
none_means g n (Some m) e empty returns wild = absurd cc

-- what is kept twice is kept
pub keeps_then : (f g h : List Content) → Keeps f g → Keeps g h → Keeps f h
keeps_then f g h k l n lt = let a = k n lt in let b = l n a.0 in
    (b.0, (λ s. ((λ x. (b.1 s).0 ((a.1 s).0 x)), (λ x. (a.1 s).1 ((b.1 s).1 x)))))

pub kept_of : (g h : List Content) (n : ℕ) → Keeps g h → IsNode g n → (returns : List ℕ) (wild : Bool)
    → HasOf g n returns wild ↔ HasOf h n returns wild
kept_of g h n kept in' returns wild = (kept n in').1 (record { returns = returns; wild = wild })

kept_at : (g h : List Content) (o : Option ℕ) → Keeps g h → ((n : ℕ) → o ≡ Some n → IsNode g n) → (returns : List ℕ) (wild : Bool)
    → HasAt g o returns wild ↔ HasAt h o returns wild
kept_at g h None kept in' returns wild = ((λ x. x), (λ x. x))
kept_at g h (Some n) kept in' returns wild = kept_of g h n kept (in' n refl) returns wild

-- a set means the same in a grown graph
pub within_kept : (g h : List Content) (m : Entries) → Keeps g h → AreNodes g m → (c : Config) → Within g m c ↔ Within h m c
within_kept g h m kept nodes c = kept_at g h (node_at m (c.state, c.alt)) kept (λ n e. (nodes (c.state, c.alt) n e).0) c.stack.returns
    c.stack.wild

pub nodes_kept : (g h : List Content) (m : Entries) → Keeps g h → AreNodes g m → AreNodes h m
nodes_kept g h m kept nodes q n is = let r = nodes q n is in ((kept n r.0).0, r.1)

pub group_kept : (g h : List Content) (x : Group) → Keeps g h → IsNode g x.stacks → (c : Config) → InGroup g x c ↔ InGroup h x c
group_kept g h x kept in' c = (
  (λ i. record { state = i.state; alt = i.alt; stack = (kept_of g h x.stacks kept in' c.stack.returns c.stack.wild).0 i.stack }),
  (λ i. record { state = i.state; alt = i.alt; stack = (kept_of g h x.stacks kept in' c.stack.returns c.stack.wild).1 i.stack }),
)

module _ (g h : List Content) (m : Entries) (x : Group) (before both : ℕ) (kept : Keeps g h) (nodes : AreNodes g m)
    (in' : IsNode g x.stacks) (there : IsNode g before)
    (was : (returns : List ℕ) (wild : Bool) → HasOf g before returns wild ↔ HasAt g (node_at m (x.state, x.alternative)) returns wild)
    (union : IsUnion g before x.stacks h both) where
  -- the set has what its node at the group's state and alternative has
  here : (c : Config) → c.state ≡ x.state → c.alt ≡ x.alternative → HasOf g before c.stack.returns c.stack.wild ↔ Within g m c
  here c e f = subst (λ (i : ℕ). HasOf g before c.stack.returns c.stack.wild
      ↔ HasAt g (node_at m (c.state, i)) c.stack.returns c.stack.wild) (sym f)
      (subst (λ (p : ℕ). HasOf g before c.stack.returns c.stack.wild
      ↔ HasAt g (node_at m (p, x.alternative)) c.stack.returns c.stack.wild) (sym e) (was c.stack.returns c.stack.wild))

  union_of : (returns : List ℕ) (wild : Bool) → HasOf h both returns wild ↔ (HasOf g before returns wild ⊎ HasOf g x.stacks returns wild)
  union_of returns wild = union (record { returns = returns; wild = wild })

  -- nothing was added
  module _ (same : (s : stacks.Stack) → Has h before s ↔ Has h both s) where
    pub had : Subset (InGroup g x) (Within g m)
    had c i =
        let one : HasOf h both c.stack.returns c.stack.wild = (union_of c.stack.returns c.stack.wild).1 (inr i.stack) in
        let two : HasOf h before c.stack.returns c.stack.wild = (same (record { returns = c.stack.returns; wild = c.stack.wild })).1 one in
        (here c i.state i.alt).0 ((kept_of g h before kept there c.stack.returns c.stack.wild).1 two)

    pub had_members : (c : Config) → Within h m c ↔ (Within g m c ⊎ InGroup g x c)
    had_members c = (
      (λ w. inl ((within_kept g h m kept nodes c).1 w)),
      λ o. (within_kept g h m kept nodes c).0 (elim o [ inl w ↦ w | inr i ↦ had c i ]),
    )

  -- a group that adds nothing leaves the node's stacks
  pub no_more : Subset (InGroup g x) (Within g m) → (s : stacks.Stack) → Has h before s ↔ Has h both s
  no_more sub s = (
    (λ b. (union s).1 (inl ((kept_of g h before kept there s.returns s.wild).1 b))),
    λ b. (kept_of g h before kept there s.returns s.wild).0
        (elim (let o : HasOf g before s.returns s.wild ⊎ HasOf g x.stacks s.returns s.wild = (union s).0 b in o) [
          | inl k ↦ k
          | inr k ↦ (here (made s) refl refl).1 (sub (made s) (record { state = refl; alt = refl; stack = k }))
        ]),
  )
    where
      made : stacks.Stack → Config
      made s = record { state = x.state; alt = x.alternative; stack = record { returns = s.returns; wild = s.wild } }

  -- the union has a stack where the group adds one
  pub both_filled : IsCanonical h → (((s : stacks.Stack) → Has h before s ↔ Has h both s) → ⊥) → 0 < both
  both_filled canon differ = by both refl
    where
      none : both ≡ 0 → (s : stacks.Stack) → Has h both s → ⊥
      none e s i = none_in h canon s (subst (λ (n : ℕ). Has h n s) e i)

      by : (n : ℕ) → both ≡ n → 0 < both
      by zero e = absurd (differ (λ s. (
        (λ i. (union s).1 (inl ((kept_of g h before kept there s.returns s.wild).1 i))),
        λ i. absurd (none e s i),
      )))
      by (suc n) e = omega (arith, e)

  module _ (m' : Entries) (known : IsNode h both) (filled : 0 < both)
      (updates : (q : ℕ × ℕ) → node_at m' q ≡ cond (pair_eq (x.state, x.alternative) q) (Some both) (node_at m q)) where
    some_equal : {a b : ℕ} → Some a ≡ Some b → a ≡ b
    some_equal e = cc

    pub new_nodes : AreNodes h m'
    new_nodes q n is = by (pair_eq (x.state, x.alternative) q) refl
      where
        by : (t : Bool) → pair_eq (x.state, x.alternative) q ≡ t → IsNode h n × (0 < n)
        by true e =
            let found : node_at m' q ≡ Some both = updates q ∙ ap (λ (t : Bool). cond t (Some both) (node_at m q)) e in
            let same : both ≡ n = some_equal (sym found ∙ is) in
            (subst (IsNode h) same known, subst (λ (k : ℕ). 0 < k) same filled)
        by false e =
            let found : node_at m' q ≡ node_at m q = updates q ∙ ap (λ (t : Bool). cond t (Some both) (node_at m q)) e in
            let r = nodes q n (sym found ∙ is) in ((kept n r.0).0, r.1)

    pub new_members : (c : Config) → Within h m' c ↔ (Within g m c ⊎ InGroup g x c)
    new_members c = by (pair_eq (x.state, x.alternative) (c.state, c.alt)) refl
      where
        by : (t : Bool) → pair_eq (x.state, x.alternative) (c.state, c.alt) ≡ t → Within h m' c ↔ (Within g m c ⊎ InGroup g x c)
        by true e =
            let same : (x.state, x.alternative) ≡ (c.state, c.alt) =
            pair_exact (x.state, x.alternative) (c.state, c.alt) e in
            let found : node_at m' (c.state, c.alt) ≡ Some both =
            updates (c.state, c.alt) ∙ ap (λ (t : Bool). cond t (Some both) (node_at m (c.state, c.alt))) e in
            let at_state : c.state ≡ x.state = sym (ap (λ (q : ℕ × ℕ). q.0) same) in
            let at_alt : c.alt ≡ x.alternative = sym (ap (λ (q : ℕ × ℕ). q.1) same) in
            let told : HasAt h (Some both) c.stack.returns c.stack.wild ↔ (Within g m c ⊎ InGroup g x c) = (
              (λ b. elim ((union_of c.stack.returns c.stack.wild).0 b) [
                | inl k ↦ inl ((here c at_state at_alt).0 k)
                | inr k ↦ inr (record { state = at_state; alt = at_alt; stack = k })
              ]),
              λ o. (union_of c.stack.returns c.stack.wild).1 (elim o [
                | inl w ↦ inl ((here c at_state at_alt).1 w)
                | inr i ↦ inr i.stack
              ]),
            ) in
            subst (λ (o : Option ℕ). HasAt h o c.stack.returns c.stack.wild ↔ (Within g m c ⊎ InGroup g x c)) (sym found) told
        by false e =
            let found : node_at m' (c.state, c.alt) ≡ node_at m (c.state, c.alt) =
            updates (c.state, c.alt) ∙ ap (λ (t : Bool). cond t (Some both) (node_at m (c.state, c.alt))) e in
            let differ : InGroup g x c → ⊥ = λ i. absurd
            (true≢false (sym ((pair_tells (x.state, x.alternative) (c.state, c.alt)).1
            (pair_equal x.state x.alternative c.state c.alt (sym i.state) (sym i.alt))) ∙ e)) in
            let told : HasAt h (node_at m (c.state, c.alt)) c.stack.returns c.stack.wild ↔ (Within g m c ⊎ InGroup g x c) = (
              (λ w. inl ((within_kept g h m kept nodes c).1 w)),
              λ o. (within_kept g h m kept nodes c).0 (elim o [
                | inl w ↦ w
                | inr i ↦ absurd (differ i)
              ]),
            ) in
            subst (λ (o : Option ℕ). HasAt h o c.stack.returns c.stack.wild ↔ (Within g m c ⊎ InGroup g x c)) (sym found) told

-- a set in a grown graph has the same configurations
pub grown_holds : (g h : List Content) (m : Entries) (v : View) → Path View (record { graph = g; nodes = m }) v → AreNodes g m
    → Keeps g h → (c : Config) → Within h m c ↔ Holds v c
grown_holds g h m v at nodes kept c = subst (λ (u : View). Within h m c ↔ Holds u c) at
    (let s = within_kept g h m kept nodes c in (s.1, s.0))

pub turned : {C D : Config → Type 0} → Same C D → Same D C
turned same c = ((same c).1, (same c).0)

-- what holds anyway holds after an error
pub on_err : {T E P : Type 0} (r : Result T E) → P → OnErr r P
on_err (Ok v) p = tt
on_err (Err e) p = p
