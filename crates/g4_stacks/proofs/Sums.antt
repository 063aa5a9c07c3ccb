-- Sums over stacks: of lists put together, of stacks with a state on top, and of a node by those of the nodes below it.
use Rattle.std.proofs.Common.{◌≡◌, ℕ, zero, suc, ◌+◌, ◌*◌, ◌%◌, ◌<◌, ◌⊎◌, inl, inr, List, [], ◌∷◌, ◌++◌, All, Option, Some, None, length, map, take, slice_get, get_or, refl, sym, ◌∙◌, ap, subst, arith, add-one, length-append}
use Rattle.std.proofs.Math.Nat.{add-mod, mod-mod, mod-eq_of_lt, mul-add}
use Rattle.std.proofs.Math.Seq.{take-suc}
use Rattle.std.proofs.lemmas.Nat.{mul-mod_second}
use Rattle.std.proofs.lemmas.List.{append-nil, append_assoc, length-map, map-append}
use Rattle.std.proofs.lemmas.List.Elements.{All-cons, All-nil}
use Rattle.std.proofs.lemmas.Option.{slice_get_within}
use Rattle.g4_net.specs.Configurations.{Stack}
use Rattle.g4_stacks.specs.Canonical.{IsCanonical, LeadBelow}
use Rattle.g4_stacks.specs.Graph.{Content}
use Rattle.g4_stacks.specs.Hashing.{AreSumsOf, EachSum, IsSumOf}
use Rattle.g4_stacks.specs.Listing.{above, listed, stacks_below, stacks_of}
use Rattle.g4_stacks.specs.Stack.{pushed}
use Rattle.g4_stacks.specs.Sums.{IsMark, IsSum, mixed_from, number_above, number_of, sum_of}
use Rattle.g4_stacks.specs.declared.sum.Sum.{Sum}
use Rattle.g4_stacks.specs.declared.sum.TheConstants.{MODULUS}
use Rattle.g4_stacks.proofs.Shapes.{AreNodes}

-- remainders

pub rests_added : (p c a d b : ℕ) → c ≡ a % p → d ≡ b % p → (c + d) % p ≡ (a + b) % p
rests_added p c a d b e f = ap (λ n. (n + d) % p) e ∙ (ap (λ n. (a % p + n) % p) f ∙ sym (add-mod a b p))

-- that of a number and three times another
rests_tripled : (p t total c count : ℕ) → t ≡ total % p → c ≡ count % p → (t + 3 * c) % p ≡ (total + 3 * count) % p
rests_tripled p t total c count e f =
    let first : t % p ≡ total % p = ap (λ n. n % p) e ∙ mod-mod total p in
    let second : (3 * c) % p ≡ (3 * count) % p = ap (λ n. (3 * n) % p) f ∙ mul-mod_second 3 count p in
    add-mod t (3 * c) p
    ∙ (ap (λ n. (n + (3 * c) % p) % p) first
    ∙ (ap (λ n. (total % p + n) % p) second ∙ sym (add-mod total (3 * count) p)))

pub rests_timed : (p factor t total c count : ℕ) → t ≡ total % p → c ≡ count % p
    → (factor * ((t + 3 * c) % p)) % p ≡ (factor * (total + 3 * count)) % p
rests_timed p factor t total c count e f =
    ap (λ n. (factor * n) % p) (rests_tripled p t total c count e f) ∙ mul-mod_second factor (total + 3 * count) p

-- one term more
pub timed_more : (m n s l q : ℕ) → q ≡ m * (s + 3 * l) → m * (n + 3) + q ≡ m * (n + s + 3 * suc l)
timed_more m n s l q e =
    let parts : n + s + 3 * suc l ≡ (n + 3) + (s + 3 * l) = omega arith in
    ap (λ k. m * (n + 3) + k) e ∙ (sym (mul-add m (n + 3) (s + 3 * l)) ∙ ap (λ k. m * k) (sym parts))

pub timed_none : (m : ℕ) → 0 ≡ m * (0 + 3 * 0)
timed_none m = omega arith

-- sums of parts

sum_append : (xs ys : List Stack) → sum_of (xs ++ ys) ≡ sum_of xs + sum_of ys
sum_append [] ys = none (sum_of ys)
  where
    none : (n : ℕ) → n ≡ 0 + n
    none n = omega arith
sum_append (x ∷ xs) ys = next (number_of x) (sum_of (xs ++ ys)) (sum_of xs) (sum_of ys) (sum_append xs ys)
  where
    next : (n a b c : ℕ) → a ≡ b + c → n + a ≡ n + b + c
    next n a b c e = omega arith

sum_pushed : (t : ℕ) (xs : List Stack) → sum_of (map (pushed t) xs) ≡ mixed_from (t + 1) * (sum_of xs + 3 * length xs)
sum_pushed t [] = timed_none (mixed_from (t + 1))
sum_pushed t (x ∷ xs) = timed_more (mixed_from (t + 1)) (number_of x) (sum_of xs) (length xs) (sum_of (map (pushed t) xs)) (sum_pushed t xs)

pub of_none : IsSum 0 0 []
of_none = record { counts = refl; totals = refl }

pub of_mark : (s : Stack) (n : ℕ) → IsMark s n → n < 3 → IsSum 1 n (s ∷ [])
of_mark s n mark small =
    let number : number_of s ≡ n = ap (λ (ts : List ℕ). number_above ts s.wild) mark.0 ∙ mark.1 in
    let total : sum_of (s ∷ []) ≡ n = next (number_of s) n number in
    record { counts = refl; totals = sym (ap (λ k. k % MODULUS) total ∙ mod-eq_of_lt (omega arith)) }
  where
    next : (a b : ℕ) → a ≡ b → a + 0 ≡ b
    next a b e = omega arith

pub of_both : (c t d u : ℕ) (xs ys : List Stack) → IsSum c t xs → IsSum d u ys
    → IsSum ((c + d) % MODULUS) ((t + u) % MODULUS) (xs ++ ys)
of_both c t d u xs ys x y = record {
  counts = rests_added MODULUS c (length xs) d (length ys) x.counts y.counts ∙ ap (λ n. n % MODULUS) (sym (length-append xs ys));
  totals = rests_added MODULUS t (sum_of xs) u (sum_of ys) x.totals y.totals ∙ ap (λ n. n % MODULUS) (sym (sum_append xs ys));
}

pub of_pushed : (state c t u : ℕ) (xs : List Stack) → IsSum c t xs
    → u ≡ (mixed_from (state + 1) * ((t + 3 * c) % MODULUS)) % MODULUS → IsSum c u (map (pushed state) xs)
of_pushed state c t u xs x e = record {
  counts = x.counts ∙ ap (λ n. n % MODULUS) (sym (length-map xs (pushed state)));
  totals = e ∙ (rests_timed MODULUS (mixed_from (state + 1)) t (sum_of xs) c (length xs) x.totals x.counts
      ∙ ap (λ n. n % MODULUS) (sym (sum_pushed state xs)));
}

-- the stacks above tops, one top more

above_push : (rests : ℕ → List Stack) (es : List (ℕ × ℕ)) (e : ℕ × ℕ)
    → above rests (es ++ e ∷ []) ≡ above rests es ++ map (pushed e.0) (rests e.1)
above_push rests [] e = append-nil (map (pushed e.0) (rests e.1))
above_push rests (d ∷ es) e =
    ap (λ (ss : List Stack). map (pushed d.0) (rests d.1) ++ ss) (above_push rests es e)
    ∙ sym (append_assoc (map (pushed d.0) (rests d.1)) (above rests es) (map (pushed e.0) (rests e.1)))

pub above_more : (rests : ℕ → List Stack) (es : List (ℕ × ℕ)) (i : ℕ) → i < length es
    → above rests (take (i + 1) es) ≡ above rests (take i es) ++ map (pushed (get_or es i (0, 0)).0) (rests (get_or es i (0, 0)).1)
above_more rests es i lt =
    let next : take (i + 1) es ≡ take i es ++ get_or es i (0, 0) ∷ [] = rw add-one (take-suc es i (0, 0) lt) in
    ap (above rests) next ∙ above_push rests (take i es) (get_or es i (0, 0))

-- the stacks of a node, below any bound above it

above_same : (rests rests' : ℕ → List Stack) (n : ℕ) (es : List (ℕ × ℕ)) → LeadBelow n es
    → ((m : ℕ) → m < n → rests m ≡ rests' m) → above rests es ≡ above rests' es
above_same rests rests' n [] lead same = refl
above_same rests rests' n (e ∷ es) lead same =
    ap (λ (ss : List Stack). map (pushed e.0) ss ++ above rests es) (same e.1 lead.1)
    ∙ ap (λ (ss : List Stack). map (pushed e.0) (rests' e.1) ++ ss) (above_same rests rests' n es lead.2 same)

module _ (g : List Content) (canon : IsCanonical g) where
  listed_same : (rests rests' : ℕ → List Stack) (n : ℕ) (o : Option Content) → slice_get g n ≡ o
      → ((m : ℕ) → m < n → rests m ≡ rests' m) → listed rests o ≡ listed rests' o
  listed_same rests rests' n None at same = refl
  listed_same rests rests' n (Some c) at same =
      let tops = above_same rests rests' n c.tops (canon.plain n c at).lower same in cc

  below_same : (k j n : ℕ) → n < k → n < j → stacks_below g k n ≡ stacks_below g j n
  below_same zero j n lt less = absurd (omega arith)
  below_same (suc k) zero n lt less = absurd (omega arith)
  below_same (suc k) (suc j) n lt less =
      listed_same (stacks_below g k) (stacks_below g j) n (slice_get g n) refl
      (λ m small. below_same k j m (omega arith) (omega arith))

  -- the sums of the first nodes are those of what is below the next one
  pub sums_below : (sums : List Sum) → AreSumsOf sums (stacks_of g) → AreSumsOf sums (stacks_below g (length sums))
  unfolding stacks_of
  sums_below sums are m sum at =
      let lt = slice_get_within sums m sum at in
      subst (IsSumOf sum) (below_same (suc m) (length sums) m (omega arith) (omega arith)) (are m sum at)

  -- the sum of what the next node holds is that of its stacks
  pub sum_of_next : (n : ℕ) (c : Content) (sum : Sum) → slice_get g n ≡ Some c → IsSumOf sum (listed (stacks_below g n) (Some c))
      → IsSumOf sum (stacks_of g n)
  unfolding stacks_of
  sum_of_next n c sum at is = subst (λ o. IsSumOf sum (listed (stacks_below g n) o)) (sym at) is

-- lists of sums

split_push : (sums : List Sum) (sum x : Sum) (n : ℕ) → slice_get (sums ++ sum ∷ []) n ≡ Some x
    → (slice_get sums n ≡ Some x) ⊎ ((n ≡ length sums) × (sum ≡ x))
split_push [] sum x zero at = inr (refl, cc)
split_push [] sum x (suc n) at = absurd cc
split_push (y ∷ ys) sum x zero at = inl at
split_push (y ∷ ys) sum x (suc n) at = elim (split_push ys sum x n at) [ inl p ↦ inl p | inr p ↦ inr (ap suc p.0, p.1) ]

pub sums_push : (lists : ℕ → List Stack) (sums : List Sum) (sum : Sum) → AreSumsOf sums lists → IsSumOf sum (lists (length sums))
    → AreSumsOf (sums ++ sum ∷ []) lists
sums_push lists sums sum are is n x at = elim (split_push sums sum x n at) [
  | inl p ↦ are n x p
  | inr p ↦ subst (λ (y : Sum). IsSumOf y (lists n)) p.1 (subst (λ (m : ℕ). IsSumOf sum (lists m)) (sym p.0) is)
]

each_push : (sums : List Sum) (sum : Sum) (lists : List (List Stack)) (stacks : List Stack) → EachSum sums lists → IsSumOf sum stacks
    → EachSum (sums ++ sum ∷ []) (lists ++ stacks ∷ [])
each_push [] sum [] stacks each is = (is, tt)
each_push [] sum (l ∷ ls) stacks each is = absurd each
each_push (x ∷ xs) sum [] stacks each is = absurd each
each_push (x ∷ xs) sum (l ∷ ls) stacks each is = (each.0, each_push xs sum ls stacks each.1 is)

pub each_more : (lists : ℕ → List Stack) (places : List ℕ) (i : ℕ) (sums : List Sum) (sum : Sum) → i < length places
    → EachSum sums (map lists (take i places)) → IsSumOf sum (lists (get_or places i 0))
    → EachSum (sums ++ sum ∷ []) (map lists (take (i + 1) places))
each_more lists places i sums sum lt each is =
    let next : take (i + 1) places ≡ take i places ++ get_or places i 0 ∷ [] = rw add-one (take-suc places i 0 lt) in
    let parts : map lists (take (i + 1) places) ≡ map lists (take i places) ++ lists (get_or places i 0) ∷ [] =
    ap (map lists) next ∙ map-append lists (take i places) (get_or places i 0 ∷ []) in
    subst (EachSum (sums ++ sum ∷ [])) (sym parts) (each_push sums sum (map lists (take i places)) (lists (get_or places i 0)) each is)

-- nodes are places of their sums
pub sums_in : (n : ℕ) (nodes : List Content) (roots : List ℕ) → AreNodes nodes roots → n ≡ length nodes → All (λ place. place < n) roots
sums_in n nodes [] are many = All-nil (λ place. place < n)
sums_in n nodes (r ∷ rs) are many = let inside = are.0 in
    All-cons (λ place. place < n) r rs (omega arith) (sums_in n nodes rs are.1 many)
