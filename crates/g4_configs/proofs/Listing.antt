-- The groups of a set are the entries of its map.
use Rattle.std.proofs.Common.{◌≡◌, ℕ, false, true≢false, zero, suc, ◌<◌, ◌⊎◌, inl, inr, All, AllPairs, List, [], ◌∷◌, Option, Some, None, Contains, map, slice_get, arith, refl, sym, ◌∙◌, ap, subst}
use Rattle.std.proofs.lemmas.Map.Entries.{place_from_lookup, lookup_from_place}
use Rattle.std.proofs.lemmas.Map.Lookups.{exact_unsigned}
use Rattle.std.proofs.lemmas.List.Elements.{All-cons}
use Rattle.std.proofs.lemmas.List.Kept.{AllPairs-cons}
use Rattle.std.specs.Cmp.{nat_cmp_is}
use Rattle.std.specs.List.{AllByRecursion, IsDistinct}
use Rattle.std.specs.List.Sorted.{IsStrictlySortedBy}
use Rattle.std.specs.Map.{keys_of}
use Rattle.std.specs.Ordering.{nat_cmp, ordering_then}
use Rattle.std.specs.declared.cmp.Ordering.{Ordering}
use Rattle.std.specs.declared.cmp.Ordering.TheVariants.{Less, Equal, Greater}
use Rattle.g4_stacks.specs.Graph.{Content}
use Rattle.g4_stacks.specs.Table.{pair_cmp, pair_eq}
use Rattle.g4_net.specs.Configurations.{Config}
use Rattle.g4_net.proofs.Pigeons.{In, In-from, In-to}
use Rattle.g4_configs.specs.declared.group.Group.{Group}
use Rattle.g4_configs.specs.Groups.{AreApart, HasAt, Within, AreNodes, AreParts, ComesBefore, Entries, InGroup, InSome, Same, group_of, node_at}
use Rattle.g4_configs.specs.Configs.{AreGroups, View}
use Rattle.g4_configs.proofs.Keys.{pair_exact, pair_laws, pair_tells}

module _ {X : Type 0} where
  in_place : (x : X) (xs : List X) → In x xs → (i : ℕ) × (slice_get xs i ≡ Some x)
  in_place x [] h = absurd h
  in_place x (y ∷ ys) (inl e) = (zero, ap (λ (z : X). Some z) (sym e))
  in_place x (y ∷ ys) (inr h) = let r = in_place x ys h in (suc r.0, r.1)

  pub place_in : (x : X) (xs : List X) (i : ℕ) → slice_get xs i ≡ Some x → In x xs
  place_in x [] i e = absurd cc
  place_in x (y ∷ ys) zero e = inl (let s : y ≡ x = cc in sym s)
  place_in x (y ∷ ys) (suc i) e = inr (place_in x ys i e)

in_groups : (es : List ((ℕ × ℕ) × ℕ)) (x : Group) → In x (map group_of es) → (e : (ℕ × ℕ) × ℕ) × In e es × (x ≡ group_of e)
in_groups [] x i = absurd i
in_groups (e ∷ es) x (inl is) = (e, inl refl, is)
in_groups (e ∷ es) x (inr i) = let r = in_groups es x i in (r.0, inr r.1, r.2)

pub groups_in : (es : List ((ℕ × ℕ) × ℕ)) (e : (ℕ × ℕ) × ℕ) → In e es → In (group_of e) (map group_of es)
groups_in [] e i = absurd i
groups_in (f ∷ es) e (inl is) = inl (ap group_of is)
groups_in (f ∷ es) e (inr i) = inr (groups_in es e i)

-- a configuration of the list is in one of its groups
pub some_at : (g : List Content) (xs : List Group) (c : Config) → InSome g xs c → (x : Group) × In x xs × InGroup g x c
some_at g [] c i = absurd i
some_at g (x ∷ xs) c (inl i) = (x, inl refl, i)
some_at g (x ∷ xs) c (inr i) = let r = some_at g xs c i in (r.0, inr r.1, r.2)

pub at_some : (g : List Content) (xs : List Group) (c : Config) (x : Group) → In x xs → InGroup g x c → InSome g xs c
at_some g [] c x j i = absurd j
at_some g (y ∷ xs) c x (inl e) i = inl (subst (λ (z : Group). InGroup g z c) e i)
at_some g (y ∷ xs) c x (inr j) i = inr (at_some g xs c x j i)

group_equal : (x y : Group) → x.state ≡ y.state → x.alternative ≡ y.alternative → x.stacks ≡ y.stacks → x ≡ y
group_equal x y e f h = ap (λ (p : ℕ). made p x.alternative x.stacks) e
    ∙ (ap (λ (i : ℕ). made y.state i x.stacks) f ∙ ap (λ (n : ℕ). made y.state y.alternative n) h)
  where
    made : ℕ → ℕ → ℕ → Group
    made p i n = record { state = p; alternative = i; stacks = n }

nat_less : (a b : ℕ) → nat_cmp a b ≡ Less → a < b
nat_less a b is = by (order a b)
  where
    order : (x y : ℕ) → (x < y) ⊎ ((x ≡ y) ⊎ (y < x))
    order x y = grind arith

    by : (a < b) ⊎ ((a ≡ b) ⊎ (b < a)) → a < b
    by (inl less) = less
    by (inr (inl same)) = let e : Equal ≡ nat_cmp a b = nat_cmp_is a b Equal same in absurd cc
    by (inr (inr more)) = let e : Greater ≡ nat_cmp a b = nat_cmp_is a b Greater more in absurd cc

some_equal : {a b : ℕ} → Some a ≡ Some b → a ≡ b
some_equal e = cc

-- a pair that is less comes before
pub comes_before : (e f : (ℕ × ℕ) × ℕ) → pair_cmp e.0 f.0 ≡ Less → ComesBefore (group_of e) (group_of f)
comes_before e f less = by (nat_cmp e.0.0 f.0.0) refl less
  where
    by : (o : Ordering) → nat_cmp e.0.0 f.0.0 ≡ o → ordering_then o (nat_cmp e.0.1 f.0.1) ≡ Less → ComesBefore (group_of e) (group_of f)
    by Less is then = inl (nat_less e.0.0 f.0.0 is)
    by Equal is then = inr (exact_unsigned e.0.0 f.0.0 is, nat_less e.0.1 f.0.1 then)
    by Greater is then = absurd cc

-- the groups of entries in order are in order
pub ascends : (es : List ((ℕ × ℕ) × ℕ)) → IsStrictlySortedBy pair_cmp (keys_of es) → AllPairs ComesBefore (map group_of es)
unfolding IsStrictlySortedBy
ascends [] sorted = λ i j d lt in'. absurd (omega arith)
ascends (e ∷ es) sorted = AllPairs-cons ComesBefore (group_of e) (map group_of es) (first es sorted.0) (ascends es sorted.1)
  where
    first : (fs : List ((ℕ × ℕ) × ℕ)) → AllByRecursion (λ q. pair_cmp e.0 q ≡ Less) (keys_of fs)
        → All (ComesBefore (group_of e)) (map group_of fs)
    first [] less = λ k d lt. absurd (omega arith)
    first (f ∷ fs) less = All-cons (ComesBefore (group_of e)) (group_of f) (map group_of fs) (comes_before e f less.0) (first fs less.1)

-- entries of different keys are groups apart
apart : (e f : (ℕ × ℕ) × ℕ) → pair_eq e.0 f.0 ≡ false → AreApart (group_of e) (group_of f)
apart e f differ p q = true≢false (sym ((pair_tells e.0 f.0).1 (pair_equal e.0.0 e.0.1 f.0.0 f.0.1 p q)) ∙ differ)
  where
    pair_equal : (a b a' b' : ℕ) → a ≡ a' → b ≡ b' → Path (ℕ × ℕ) (a, b) (a', b')
    pair_equal a b a' b' k l = cc

groups_apart : (es : Entries) → IsDistinct pair_eq (keys_of es) → AllPairs AreApart (map group_of es)
unfolding IsDistinct
groups_apart [] unique = λ i j d lt in'. absurd (omega arith)
groups_apart (e ∷ es) unique = AllPairs-cons AreApart (group_of e) (map group_of es) (first es unique.0) (groups_apart es unique.1)
  where
    first : (fs : Entries) → AllByRecursion (λ q. pair_eq e.0 q ≡ false) (keys_of fs) → All (AreApart (group_of e)) (map group_of fs)
    first [] differ = λ k d lt. absurd (omega arith)
    first (f ∷ fs) differ =
        All-cons (AreApart (group_of e)) (group_of f) (map group_of fs) (apart e f differ.0) (first fs differ.1)

module _ (g : List Content) (m : Entries) (nodes : AreNodes g m) (unique : IsDistinct pair_eq (keys_of m)) where
  pub listed_to : (x : Group) → In x (map group_of m) → node_at m (x.state, x.alternative) ≡ Some x.stacks
  listed_to x i =
      let e = in_groups m x i in
      let p = in_place e.0 m e.1 in
      let got : node_at m e.0.0 ≡ Some e.0.1 = lookup_from_place pair_laws m p.0 e.0.0 e.0.1 unique p.1 in
      subst (λ (y : Group). node_at m (y.state, y.alternative) ≡ Some y.stacks) (sym e.2) got

  listed_from : (x : Group) → node_at m (x.state, x.alternative) ≡ Some x.stacks → In x (map group_of m)
  listed_from x got =
      let p = place_from_lookup (pair_eq (x.state, x.alternative)) m x.stacks got in
      let same : (x.state, x.alternative) ≡ p.1 = pair_exact (x.state, x.alternative) p.1 p.3 in
      let there : In (p.1, x.stacks) m = place_in _ m p.0 p.2 in
      let at : In ((x.state, x.alternative), x.stacks) m =
      subst (λ (q : ℕ × ℕ). let y : (ℕ × ℕ) × ℕ = (q, x.stacks) in In y m) (sym same) there in
      groups_in m ((x.state, x.alternative), x.stacks) at

  pub parts_of : (found : List Group) → found ≡ map group_of m → AreParts g found
  parts_of found is = record {
    known = λ x i. (nodes (x.state, x.alternative) x.stacks (member x i)).0;
    filled = λ x i. (nodes (x.state, x.alternative) x.stacks (member x i)).1;
    once = λ x y i j e f. group_equal x y e f (some_equal
        (sym (member x i) ∙ ap (λ (q : ℕ × ℕ). node_at m q) (keys x.state x.alternative y.state y.alternative e f) ∙ (member y j)));
  }
    where
      keys : (a b a' b' : ℕ) → a ≡ a' → b ≡ b' → Path (ℕ × ℕ) (a, b) (a', b')
      keys a b a' b' e f = cc

      member : (x : Group) → Contains found x → node_at m (x.state, x.alternative) ≡ Some x.stacks
      member x (k, lt, e) = listed_to x (subst (In x) is (In-from found x k lt e))

  pub members_of : (found : List Group) → found ≡ map group_of m → Same (InSome g found) (Within g m)
  members_of found is c = (to, λ w. by (node_at m (c.state, c.alt)) refl w)
    where
      to : InSome g found c → Within g m c
      to i =
          let x = some_at g found c i in
          let l = listed_to x.0 (subst (In x.0) is x.1) in
          let at_alt : node_at m (c.state, x.0.alternative) ≡ Some x.0.stacks =
          subst (λ (p : ℕ). node_at m (p, x.0.alternative) ≡ Some x.0.stacks) (sym x.2.state) l in
          let at_c : node_at m (c.state, c.alt) ≡ Some x.0.stacks =
          subst (λ (j : ℕ). node_at m (c.state, j) ≡ Some x.0.stacks) (sym x.2.alt) at_alt in
          subst (λ (o : Option ℕ). HasAt g o c.stack.returns c.stack.wild) (sym at_c) x.2.stack

      by : (o : Option ℕ) → node_at m (c.state, c.alt) ≡ o → HasAt g o c.stack.returns c.stack.wild → InSome g found c
      by None e w = absurd w
      by (Some n) e w =
          let x : Group = record { state = c.state; alternative = c.alt; stacks = n } in
          at_some g found c x (subst (In x) (sym is) (listed_from x e)) (record { state = refl; alt = refl; stack = w })

  pub groups_listed : (v : View) (found : List Group) → Path View (record { graph = g; nodes = m }) v
      → found ≡ map group_of m → AreGroups v found
  groups_listed v found at is = subst (λ (u : View). AreGroups u found) at (record {
    parts = parts_of found is;
    members = members_of found is;
    entries = λ x. (
      (λ i. listed_to x (subst (In x) is (In-from found x i.0 i.1 i.2))),
      (λ at. In-to found x (subst (In x) (sym is) (listed_from x at))),
    );
    apart = subst (AllPairs AreApart) (sym is) (groups_apart m unique);
  })
