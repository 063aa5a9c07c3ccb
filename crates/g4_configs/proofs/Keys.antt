-- Keys of entries: when they are equal, and that entries that were sorted have keys in order.
use Rattle.std.proofs.Common.{◌≡◌, ◌<◌, ◌+◌, ℕ, true, false, true≢false, Option, Some, None, length, get_or, arith, refl, sym, ◌∙◌, ap, subst}
use Rattle.std.proofs.lemmas.Cmp.{nat_cmp_total, on_total, then_total}
use Rattle.std.proofs.lemmas.List.{get_or-map}
use Rattle.std.proofs.lemmas.List.Sorted.{Contains-permutation, IsPermutation-map, IsPermutation-sym}
use Rattle.std.proofs.lemmas.Map.Entries.{length-keys_of}
use Rattle.std.proofs.lemmas.Map.Keys.{IsDistinct-IsPermutation, apart_from_distinct, sorted_from_all_adjacent}
use Rattle.std.proofs.lemmas.Map.Lookups.{exact_unsigned, exact_pairs}
use Rattle.std.proofs.lemmas.Map.Views.{Contains-from_lookup, lookup-from_Contains}
use Rattle.std.specs.Bool.{Decides}
use Rattle.std.specs.Cmp.{IsEquivalence, IsTotalOrder, decided}
use Rattle.std.specs.List.{IsDistinct}
use Rattle.std.specs.List.Sorted.{IsPermutation, IsSorted, IsStrictlySortedBy}
use Rattle.std.specs.Map.{keys_of}
use Rattle.std.specs.Ordering.{is_lt, nat_cmp, ordering_reverse, ordering_then}
use Rattle.std.specs.declared.cmp.Ordering.{Ordering}
use Rattle.std.specs.declared.cmp.Ordering.TheVariants.{Less, Equal, Greater}
use Rattle.g4_stacks.specs.Table.{pair_cmp, pair_eq}
use Rattle.g4_stacks.proofs.Indexing.{pair_Decides}
use Rattle.g4_configs.specs.Groups.{Entries, node_at}
use Rattle.g4_configs.specs.Rows.{entry_cmp}

pub pair_tells : (q r : ℕ × ℕ) → Decides (pair_eq q r) (q ≡ r)
pair_tells q r = (
  (λ e. let p = (pair_Decides q.0 q.1 r.0 r.1).0 e in pair_equal q.0 q.1 r.0 r.1 p.0 p.1),
  (λ e. (pair_Decides q.0 q.1 r.0 r.1).1 (ap (λ (p : ℕ × ℕ). p.0) e, ap (λ (p : ℕ × ℕ). p.1) e)),
)
  where
    pair_equal : (a b a' b' : ℕ) → a ≡ a' → b ≡ b' → Path (ℕ × ℕ) (a, b) (a', b')
    pair_equal a b a' b' e f = cc

pub pair_exact : (q r : ℕ × ℕ) → pair_eq q r ≡ true → q ≡ r
pair_exact q r e = (pair_tells q r).0 e

pub pair_laws : IsEquivalence pair_eq
pair_laws = decided pair_eq pair_tells

pub pair_total : IsTotalOrder pair_cmp
pair_total = then_total (on_total (λ (p : ℕ × ℕ). p.0) nat_cmp_total) (on_total (λ (p : ℕ × ℕ). p.1) nat_cmp_total)

-- of two entries in order with different keys the first has the lesser key
less : (a b : (ℕ × ℕ) × ℕ) → pair_eq a.0 b.0 ≡ false → is_lt (entry_cmp b a) ≡ false → pair_cmp a.0 b.0 ≡ Less
less a b apart up = by (pair_cmp a.0 b.0) refl
  where
    by : (o : Ordering) → pair_cmp a.0 b.0 ≡ o → pair_cmp a.0 b.0 ≡ Less
    by Less e = e
    by Equal e =
        let same : a.0 ≡ b.0 = exact_pairs nat_cmp nat_cmp exact_unsigned exact_unsigned a.0 b.0 e in
        absurd (true≢false (sym ((pair_tells a.0 b.0).1 same) ∙ apart))
    by Greater e =
        let f : pair_cmp b.0 a.0 ≡ Less = pair_total.antisymm b.0 a.0 ∙ ap ordering_reverse e in
        let t : is_lt (entry_cmp b a) ≡ true = ap (λ (o : Ordering). is_lt (ordering_then o (nat_cmp b.1 a.1))) f in
        absurd (true≢false (sym t ∙ up))

-- entries that were sorted and have different keys have keys in order
pub strictly : (fs : Entries) → IsSorted entry_cmp fs → IsDistinct pair_eq (keys_of fs) → IsStrictlySortedBy pair_cmp (keys_of fs)
strictly fs sorted unique = sorted_from_all_adjacent pair_total (keys_of fs) (0, 0) each
  where
    each : (k : ℕ) → k + 1 < length (keys_of fs)
        → pair_cmp (get_or (keys_of fs) k (0, 0)) (get_or (keys_of fs) (k + 1) (0, 0)) ≡ Less
    each k lt =
        let long : length (keys_of fs) ≡ length fs = length-keys_of fs in
        let d : (ℕ × ℕ) × ℕ = ((0, 0), 0) in
        let a : (ℕ × ℕ) × ℕ = get_or fs k d in
        let b : (ℕ × ℕ) × ℕ = get_or fs (k + 1) d in
        let at_a : get_or (keys_of fs) k (0, 0) ≡ a.0 =
        get_or-map (λ (e : (ℕ × ℕ) × ℕ). e.0) fs k d (0, 0) (omega (arith, lt, long)) in
        let at_b : get_or (keys_of fs) (k + 1) (0, 0) ≡ b.0 =
        get_or-map (λ (e : (ℕ × ℕ) × ℕ). e.0) fs (k + 1) d (0, 0) (omega (arith, lt, long)) in
        let differ : pair_eq (get_or (keys_of fs) k (0, 0)) (get_or (keys_of fs) (k + 1) (0, 0)) ≡ false =
        apart_from_distinct pair_eq (keys_of fs) k (k + 1) (0, 0) unique (omega arith) lt in
        let apart : pair_eq a.0 b.0 ≡ false =
        subst (λ (q : ℕ × ℕ). pair_eq q b.0 ≡ false) at_a
        (subst (λ (q : ℕ × ℕ). pair_eq (get_or (keys_of fs) k (0, 0)) q ≡ false) at_b differ) in
        let up : is_lt (entry_cmp b a) ≡ false = sorted k d (omega arith) (omega (arith, lt, long)) in
        subst (λ (q : ℕ × ℕ). pair_cmp q (get_or (keys_of fs) (k + 1) (0, 0)) ≡ Less) (sym at_a)
        (subst (λ (q : ℕ × ℕ). pair_cmp a.0 q ≡ Less) (sym at_b) (less a b apart up))

pub still_distinct : (es fs : Entries) → IsPermutation es fs → IsDistinct pair_eq (keys_of es) → IsDistinct pair_eq (keys_of fs)
still_distinct es fs moved = IsDistinct-IsPermutation pair_eq pair_laws.symm (keys_of es) (keys_of fs)
    (IsPermutation-map (λ (e : (ℕ × ℕ) × ℕ). e.0) es fs moved)

-- entries in another order have the same nodes
pub same_nodes : (es fs : Entries) → IsPermutation es fs → IsDistinct pair_eq (keys_of es) → (q : ℕ × ℕ) → node_at es q ≡ node_at fs q
same_nodes es fs moved unique q = by (node_at es q) (node_at fs q) refl refl
  where
    there : (n : ℕ) → node_at es q ≡ Some n → node_at fs q ≡ Some n
    there n e = lookup-from_Contains pair_laws q n fs (still_distinct es fs moved unique)
        (Contains-permutation es fs (q, n) moved (Contains-from_lookup pair_exact q n es e))

    back : (n : ℕ) → node_at fs q ≡ Some n → node_at es q ≡ Some n
    back n e = lookup-from_Contains pair_laws q n es unique
        (Contains-permutation fs es (q, n) (IsPermutation-sym es fs moved) (Contains-from_lookup pair_exact q n fs e))

    by : (o p : Option ℕ) → node_at es q ≡ o → node_at fs q ≡ p → node_at es q ≡ node_at fs q
    by (Some n) p e f = e ∙ sym (there n e)
    by None (Some n) e f = back n f ∙ sym f
    by None None e f = e ∙ sym f
