-- A merge from its first step to its last, at places in the two lists of tops.
use Rattle.std.proofs.Common.{◌≡◌, ℕ, ◌+◌, ◌-◌, ◌<◌, ◌≤◌, ◌↔◌, ◌⊎◌, inl, inr, List, [], ◌∷◌, ◌++◌, Bool, true, false, Some, IsTrue, length, drop, slice_get, sym, ◌∙◌, ap, subst, arith}
use Rattle.std.proofs.lemmas.List.{length-drop}
use Rattle.g4_net.specs.Configurations.{Stack, wildcard}
use Rattle.g4_stacks.specs.Stack.{bottom, pushed}
use Rattle.g4_stacks.specs.Graph.{Content, Has, IsNode, Ascends}
use Rattle.g4_stacks.specs.Canonical.{LeadBelow, IsCanonical, Grows}
use Rattle.g4_stacks.specs.Merge.{ByTop, IsUnion, IsNext, tops_by, tops_of}
use Rattle.g4_stacks.specs.Joining.{Joins}
use Rattle.g4_stacks.specs.declared.joining.Joining.{Joining}
use Rattle.g4_stacks.specs.declared.next.Next.TheVariants.{Done, Left, Right, Both}
use Rattle.g4_stacks.proofs.Canonicity.{content_of, has_end, has_wild, has_pushed}
use Rattle.g4_stacks.proofs.Growing.{keeps, slice_get_left}
use Rattle.g4_stacks.proofs.Merging.{ByTop-grown, step_left, step_right}

-- a node's tops stay
pub tops_grown : (g h : List Content) (n : ℕ) → Grows g h → n < length g → tops_of h n ≡ tops_of g n
tops_grown g h n grows lt = ap tops_by (ap (λ (x : List Content). slice_get x n) grows.1 ∙ slice_get_left g grows.0 n lt)

-- the tops of a node lead to lower ones
pub tops_lead : (g : List Content) (n : ℕ) → IsCanonical g → n < length g → LeadBelow n (tops_of g n)
tops_lead g n canon lt = let c = content_of g n lt in subst (LeadBelow n) (sym (ap tops_by c.1)) (canon.plain n c.0 c.1).lower

tops_sorted : (g : List Content) (n : ℕ) → IsCanonical g → n < length g → Ascends 0 (tops_of g n)
tops_sorted g n canon lt = let c = content_of g n lt in subst (Ascends 0) (sym (ap tops_by c.1)) (canon.plain n c.0 c.1).sorted

-- the stacks of a node with a state on top, by its tops
through : (g : List Content) (n : ℕ) → n < length g → (t : ℕ) (s : Stack) → Has g n (pushed t s) ↔ ByTop g (tops_of g n) t s
through g n lt t s = let c = content_of g n lt in
    subst (λ v. Has g n (pushed t s) ↔ ByTop g v t s) (sym (ap tops_by c.1)) (has_pushed g n c.0 t s c.1)

-- a merge of the nodes a and b at the places i and j
abbrev pub At : List Content → ℕ → ℕ → ℕ → ℕ → List (ℕ × ℕ) → Type 0
At g a b i j tops = Joins g a b (drop i (tops_of g a)) (drop j (tops_of g b)) tops

pub begins : (g : List Content) (a b i j : ℕ) (tops : List (ℕ × ℕ)) → IsCanonical g → IsNode g a → IsNode g b → i ≡ 0 → j ≡ 0
    → tops ≡ [] → At g a b i j tops
begins g a b i j tops canon a_in b_in first first' none =
    subst (λ (n : ℕ). At g a b n j tops) (sym first)
    (subst (λ (n : ℕ). At g a b 0 n tops) (sym first') (subst (λ (es : List (ℕ × ℕ)). At g a b 0 0 es) (sym none) start))
  where
    start : Joins g a b (tops_of g a) (tops_of g b) []
    start = record {
      left_in = a_in;
      right_in = b_in;
      low = 0;
      past = λ t m i. absurd i;
      left = tops_sorted g a canon a_in;
      right = tops_sorted g b canon b_in;
      left_lead = tops_lead g a canon a_in;
      right_lead = tops_lead g b canon b_in;
      sorted = tt;
      lead = tt;
      means = λ t s. (
        (λ x. inr (elim x [ inl y ↦ inl ((through g a a_in t s).0 y) | inr y ↦ inr ((through g b b_in t s).0 y) ])),
        (λ x. elim x [
          | inl never ↦ absurd never.1
          | inr z ↦ elim z
              [ inl y ↦ inl ((through g a a_in t s).1 y) | inr y ↦ inr ((through g b b_in t s).1 y) ]
        ]),
      );
    }

some_left : (x : ℕ × ℕ) (xs rest : List (ℕ × ℕ)) (i : ℕ) → drop i xs ≡ x ∷ rest → i < length xs
some_left x xs rest i is = let l = length-drop i xs in let e = ap length is in omega arith

-- the merge went on from what it was
pub record IsAdvancing (g : List Content) (before now : Joining) : Type 0 where
  pub left : now.left ≡ before.left
  pub right : now.right ≡ before.right
  pub after : before.i ≤ now.i
  pub at : At g now.left now.right now.i now.j now.tops.items

-- how many steps are left at most
abbrev pub steps_left : List Content → ℕ → ℕ → ℕ → ℕ → ℕ
steps_left g a b i j = (length (tops_of g a) - i) + (length (tops_of g b) - j)

module _ (g : List Content) (a b i j : ℕ) (xs ys tops : List (ℕ × ℕ)) (at_a : xs ≡ tops_of g a) (at_b : ys ≡ tops_of g b) where
  -- what the next step sees, in the lists of the nodes
  moved : (P : List (ℕ × ℕ) → List (ℕ × ℕ) → Type 0) → P xs ys → P (tops_of g a) (tops_of g b)
  moved P p = subst (λ (v : List (ℕ × ℕ)). P v (tops_of g b)) at_a (subst (λ (v : List (ℕ × ℕ)). P xs v) at_b p)

  pub left_smaller : (t m : ℕ) → IsNext xs i ys j (Left t m) → steps_left g a b (i + 1) j < steps_left g a b i j
  left_smaller t m is = let n = moved (λ v w. IsNext v i w j (Left t m)) is in let lt = some_left (t, m) (tops_of g a) _ i n.0 in
      omega arith

  pub right_smaller : (t n : ℕ) → IsNext xs i ys j (Right t n) → steps_left g a b i (j + 1) < steps_left g a b i j
  right_smaller t n is = let n' = moved (λ v w. IsNext v i w j (Right t n)) is in let lt = some_left (t, n) (tops_of g b) _ j n'.0 in
      omega arith

  pub both_smaller : (t m n : ℕ) → IsNext xs i ys j (Both t m n) → steps_left g a b (i + 1) (j + 1) < steps_left g a b i j
  both_smaller t m n is =
      let n' = moved (λ v w. IsNext v i w j (Both t m n)) is in
      let lt = some_left (t, m) (tops_of g a) _ i n'.0 in
      let lt' = some_left (t, n) (tops_of g b) _ j n'.1 in
      omega arith

  pub left_at : At g a b i j tops → (t m : ℕ) → IsNext xs i ys j (Left t m) → At g a b (i + 1) j (tops ++ (t, m) ∷ [])
  left_at k t m is = let n = moved (λ v w. IsNext v i w j (Left t m)) is in
      step_left g a b (drop (i + 1) (tops_of g a)) (drop j (tops_of g b)) tops t m
      (subst (λ v. Joins g a b v (drop j (tops_of g b)) tops) n.0 k) n.1

  pub right_at : At g a b i j tops → (t n : ℕ) → IsNext xs i ys j (Right t n) → At g a b i (j + 1) (tops ++ (t, n) ∷ [])
  right_at k t n is = let n' = moved (λ v w. IsNext v i w j (Right t n)) is in
      step_right g a b (drop i (tops_of g a)) (drop (j + 1) (tops_of g b)) tops t n
      (subst (λ v. Joins g a b (drop i (tops_of g a)) v tops) n'.0 k) n'.1

  -- both lists have the state next
  pub both_now : At g a b i j tops → (t m n : ℕ) → IsNext xs i ys j (Both t m n)
      → Joins g a b ((t, m) ∷ drop (i + 1) (tops_of g a)) ((t, n) ∷ drop (j + 1) (tops_of g b)) tops
  both_now k t m n is = let n' = moved (λ v w. IsNext v i w j (Both t m n)) is in
      subst (λ v. Joins g a b v ((t, n) ∷ drop (j + 1) (tops_of g b)) tops) n'.0
      (subst (λ v. Joins g a b (drop i (tops_of g a)) v tops) n'.1 k)

  pub both_is : (t m n : ℕ) → IsNext xs i ys j (Both t m n) → drop i (tops_of g a) ≡ (t, m) ∷ drop (i + 1) (tops_of g a)
  both_is t m n is = (moved (λ v w. IsNext v i w j (Both t m n)) is).0

  pub done_at : At g a b i j tops → IsNext xs i ys j Done → Joins g a b [] [] tops
  done_at k is = let n = moved (λ v w. IsNext v i w j Done) is in
      subst (λ v. Joins g a b v [] tops) n.0 (subst (λ v. Joins g a b (drop i (tops_of g a)) v tops) n.1 k)

-- the nodes that are waited for are lower
pub wants_lower : (g : List Content) (a b t m n : ℕ) (xs ys tops : List (ℕ × ℕ)) → Joins g a b ((t, m) ∷ xs) ((t, n) ∷ ys) tops
    → (m < a) × IsNode g m × IsNode g n
wants_lower g a b t m n xs ys tops k = (
  k.left_lead.1,
  (let p = k.left_lead.1 in let q = k.left_in in omega arith),
  (let p = k.right_lead.1 in let q = k.right_in in omega arith),
)

-- what the merged node means
pub joined : (g h : List Content) (a b r : ℕ) (m : Content) → IsCanonical g → Joins g a b [] [] m.tops
    → (IsTrue m.end ↔ (Has g a bottom ⊎ Has g b bottom)) → (IsTrue m.wild ↔ (Has g a wildcard ⊎ Has g b wildcard))
    → Grows g h → slice_get h r ≡ Some m → IsUnion h a b h r
joined g h a b r m canon k ends wilds grows is s = by s.returns s.wild
  where
    both : (s : Stack) → (Has g a s ⊎ Has g b s) ↔ (Has h a s ⊎ Has h b s)
    both s = let at_a = (keeps g h canon grows a k.left_in).1 s in let at_b = (keeps g h canon grows b k.right_in).1 s in (
      (λ x. elim x [ inl y ↦ inl (at_a.0 y) | inr y ↦ inr (at_b.0 y) ]),
      (λ x. elim x [ inl y ↦ inl (at_a.1 y) | inr y ↦ inr (at_b.1 y) ]),
    )

    only : (t : ℕ) (s : Stack) → (ByTop g m.tops t s ⊎ (ByTop g [] t s ⊎ ByTop g [] t s)) → ByTop g m.tops t s
    only t s (inl x) = x
    only t s (inr (inl x)) = absurd x.1
    only t s (inr (inr x)) = absurd x.1

    by : (returns : List ℕ) (wild : Bool) → let s : Stack = record { returns = returns; wild = wild } in Has h r s ↔ (Has h a s ⊎ Has h b s)
    by [] true = (
      (λ x. (both wildcard).0 (wilds.0 ((has_wild h r m is).0 x))),
      (λ x. (has_wild h r m is).1 (wilds.1 ((both wildcard).1 x))),
    )
    by [] false = ((λ x. (both bottom).0 (ends.0 ((has_end h r m is).0 x))), (λ x. (has_end h r m is).1 (ends.1 ((both bottom).1 x))))
    by (t ∷ rest) wild = let s : Stack = record { returns = rest; wild = wild } in
        let grown = ByTop-grown g h m.tops t s canon grows k.lead in (
          (λ x. (both (pushed t s)).0 ((k.means t s).1 (inl (grown.1 ((has_pushed h r m t s is).0 x))))),
          (λ x. (has_pushed h r m t s is).1 (grown.0 (only t s ((k.means t s).0 ((both (pushed t s)).1 x))))),
        )
