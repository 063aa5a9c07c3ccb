-- The alternatives of a set are those of its map's keys.
use Rattle.std.proofs.Common.{◌≡◌, ◌≢◌, ◌≤◌, ◌<◌, ℕ, ◌↔◌, ◌⊎◌, inl, inr, Bool, true≢false, IsTrue, List, [], ◌∷◌, Option, Some, None, MatchOption, Contains, map, min, length, get_or, refl, sym, ◌∙◌, ap, subst, arith}
use Rattle.std.proofs.lemmas.Bool.{MatchBool-at_true}
use Rattle.std.proofs.lemmas.Iterator.Search.{true_from_Any}
use Rattle.std.proofs.lemmas.List.{get_or_default}
use Rattle.std.proofs.lemmas.Map.Views.{Contains-keys_from_lookup, IsSome-lookup_from_Contains}
use Rattle.std.specs.Bool.{MatchBool}
use Rattle.std.specs.List.{AllWithin, HoldsAt, fold, reduce}
use Rattle.std.specs.Option.{IsSome}
use Rattle.std.specs.Map.{keys_of}
use Rattle.g4_stacks.specs.Graph.{Content}
use Rattle.g4_stacks.specs.Canonical.{IsCanonical}
use Rattle.g4_net.specs.Configurations.{Config, config}
use Rattle.g4_net.specs.Lookahead.{IsEmpty, IsLeast}
use Rattle.g4_net.proofs.Pigeons.{In, In-from, In-to}
use Rattle.g4_configs.specs.Groups.{AreNodes, Entries, Within, node_at}
use Rattle.g4_configs.proofs.Keys.{pair_exact, pair_laws}
use Rattle.g4_configs.proofs.Meaning.{held, some_stack}

abbrev pub alternatives : List (ℕ × ℕ) → List ℕ
alternatives = map (λ (q : ℕ × ℕ). q.1)

in_alternatives : (qs : List (ℕ × ℕ)) (i : ℕ) → In i (alternatives qs) → (p : ℕ) × In (p, i) qs
in_alternatives [] i h = absurd h
in_alternatives (q ∷ qs) i (inl e) = let of : ℕ → ℕ × ℕ = λ j. (q.0, j) in (q.0, inl (ap of e))
in_alternatives (q ∷ qs) i (inr h) = let r = in_alternatives qs i h in (r.0, inr r.1)

alternatives_in : (qs : List (ℕ × ℕ)) (q : ℕ × ℕ) → In q qs → In q.1 (alternatives qs)
alternatives_in [] q h = absurd h
alternatives_in (r ∷ qs) q (inl e) = inl (ap (λ (p : ℕ × ℕ). p.1) e)
alternatives_in (r ∷ qs) q (inr h) = inr (alternatives_in qs q h)

-- the least number of a list
fold_least : (x : ℕ) (xs : List ℕ) → In (fold min x xs) (x ∷ xs) × ((y : ℕ) → In y (x ∷ xs) → fold min x xs ≤ y)
fold_least x [] = (inl refl, λ y h. elim h [ inl e ↦ omega (arith, e) | inr n ↦ absurd n ])
fold_least x (z ∷ zs) =
    let r = fold_least (min x z) zs in (
      some r.0,
      λ y h. elim h [
        | inl e ↦ (let k = r.1 (min x z) (inl refl) in omega (arith, e))
        | inr (inl e) ↦ (let k = r.1 (min x z) (inl refl) in omega (arith, e))
        | inr (inr i) ↦ r.1 y (inr i)
      ],
    )
  where
    one : (min x z ≡ x) ⊎ (min x z ≡ z)
    one = grind arith

    some : In (fold min (min x z) zs) (min x z ∷ zs) → In (fold min (min x z) zs) (x ∷ z ∷ zs)
    some (inl e) = elim one [ inl f ↦ inl (e ∙ f) | inr f ↦ inr (inl (e ∙ f)) ]
    some (inr i) = inr (inr i)

some_known : (o : Option ℕ) → IsSome o → (n : ℕ) × (o ≡ Some n)
some_known None s = absurd (true≢false (sym s))
some_known (Some n) s = (n, refl)

known_some : (o : Option ℕ) (n : ℕ) → o ≡ Some n → IsSome o
known_some None n e = absurd cc
known_some (Some k) n e = refl

module _ (g : List Content) (m : Entries) (canon : IsCanonical g) (nodes : AreNodes g m) where
  key_known : (q : ℕ × ℕ) → Contains (keys_of m) q → (n : ℕ) × (node_at m q ≡ Some n)
  key_known q h = some_known (node_at m q)
      (IsSome-lookup_from_Contains pair_laws q m h)

  known_key : (q : ℕ × ℕ) (n : ℕ) → node_at m q ≡ Some n → Contains (keys_of m) q
  known_key q n e = Contains-keys_from_lookup pair_exact q m (known_some (node_at m q) n e)

  key_held : (q : ℕ × ℕ) → Contains (keys_of m) q → (c : Config) × Within g m c × (c.alt ≡ q.1)
  key_held q h =
      let n = key_known q h in
      let s = some_stack g m canon nodes q.0 q.1 n.0 n.1 in
      (config q.0 q.1 s.0, s.1, refl)

  held_key : (c : Config) → Within g m c → Contains (keys_of m) (c.state, c.alt)
  held_key c w = let k = held g m c w in known_key (c.state, c.alt) k.0 k.1

  held_alternative : (c : Config) → Within g m c → In c.alt (alternatives (keys_of m))
  held_alternative c w =
      let k = held_key c w in alternatives_in (keys_of m) (c.state, c.alt) (In-from (keys_of m) (c.state, c.alt) k.0 k.1 k.2)

  alternative_held : (i : ℕ) → In i (alternatives (keys_of m)) → (c : Config) × Within g m c × (c.alt ≡ i)
  alternative_held i h = let q = in_alternatives (keys_of m) i h in key_held (q.0, i) (In-to (keys_of m) (q.0, i) q.1)

  pub least_exact : (r : Option ℕ) → r ≡ reduce min (alternatives (keys_of m))
      → MatchOption r (IsEmpty (Within g m)) (IsLeast (Within g m))
  least_exact r is = subst (λ (o : Option ℕ). MatchOption o (IsEmpty (Within g m)) (IsLeast (Within g m))) (sym is)
      (by (alternatives (keys_of m)) refl)
    where
      by : (xs : List ℕ) → alternatives (keys_of m) ≡ xs
          → MatchOption (reduce min xs) (IsEmpty (Within g m)) (IsLeast (Within g m))
      by [] e = λ c w. subst (In c.alt) e (held_alternative c w)
      by (x ∷ xs) e =
          let l = fold_least x xs in record {
            some = alternative_held (fold min x xs) (subst (In (fold min x xs)) (sym e) l.0);
            least = λ c w. l.1 c.alt (subst (In c.alt) e (held_alternative c w));
          }

  -- a key of another alternative
  pub other_exact : (i : ℕ) (r : Bool) → MatchBool r ((k : ℕ) × (k < length (keys_of m)) × HoldsAt (λ (q : ℕ × ℕ). q.1 ≢ i) (keys_of m) k)
      (AllWithin (λ (q : ℕ × ℕ). q.1 ≡ i) (keys_of m) 0 (length (keys_of m)))
      → IsTrue r ↔ ((c : Config) × Within g m c × (c.alt ≢ i))
  other_exact i r cases = (
    (λ t. let w = MatchBool-at_true _ _ t cases in
        let q : ℕ × ℕ = get_or (keys_of m) w.0 (0, 0) in
        let c = key_held q (w.0, w.1, get_or_any w.0 w.1) in
        (c.0, c.1, (λ e. w.2 (0, 0) (sym c.2 ∙ e)))),
    (λ h. true_from_Any (λ (q : ℕ × ℕ). q.1 ≢ i) (λ (q : ℕ × ℕ). q.1 ≡ i) r (keys_of m) (λ q ne e. ne e) cases (h.0.state, h.0.alt)
        (held_key h.0 h.1) h.2),
  )
    where
      get_or_any : (k : ℕ) → k < length (keys_of m) → get_or (keys_of m) k (get_or (keys_of m) k (0, 0)) ≡ get_or (keys_of m) k (0, 0)
      get_or_any k lt = get_or_default (keys_of m) k (get_or (keys_of m) k (0, 0)) (0, 0) lt
