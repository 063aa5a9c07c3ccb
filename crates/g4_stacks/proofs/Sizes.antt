-- How much of a walk down a graph is left: the nodes on all paths down are finitely many, since each node leads to lower ones.
use Rattle.std.proofs.Common.{◌≡◌, ℕ, zero, suc, ◌+◌, ◌<◌, List, [], ◌∷◌, ◌++◌, Option, Some, None, length, slice_get, drop, refl, sym, ◌∙◌, ap, subst, arith, length-append}
use Rattle.g4_stacks.specs.declared.copying.Frame.{Frame}
use Rattle.g4_stacks.specs.Graph.{Content}
use Rattle.g4_stacks.specs.Canonical.{LeadBelow, IsCanonical}
use Rattle.g4_stacks.specs.Merge.{tops_by, tops_of}

-- the sizes of the nodes that the pairs lead to
abbrev pub sizes : (ℕ → ℕ) → List (ℕ × ℕ) → ℕ
sizes size [] = 0
sizes size (e ∷ es) = size e.1 + sizes size es

size_below : List Content → ℕ → ℕ → ℕ
size_below other zero n = 1
size_below other (suc k) n = 2 + sizes (size_below other k) (tops_of other n)

-- the size of the tree below a node
size_of : List Content → ℕ → ℕ
size_of other n = size_below other (suc n) n

-- what is left to do at a node whose first tops are done
pub left_at : List Content → ℕ → ℕ → ℕ
left_at other node done = 1 + sizes (size_of other) (drop done (tops_of other node))

pub left_in : List Content → List Frame → ℕ
left_in other [] = 0
left_in other (f ∷ fs) = left_at other f.node (suc (length f.tops.items)) + left_in other fs

left_push : (other : List Content) (fs : List Frame) (f : Frame)
    → left_in other (fs ++ f ∷ []) ≡ left_in other fs + left_at other f.node (suc (length f.tops.items))
unfolding left_in
left_push other [] f = omega arith
left_push other (e ∷ fs) f = let h = left_push other fs f in omega arith

drop_at : (xs : List (ℕ × ℕ)) (i : ℕ) (x : ℕ × ℕ) → slice_get xs i ≡ Some x → drop i xs ≡ x ∷ drop (suc i) xs
drop_at [] i x is = absurd (cc)
drop_at (y ∷ xs) zero x is = let e : y ≡ x = cc in ap (λ (z : ℕ × ℕ). z ∷ xs) e
drop_at (y ∷ xs) (suc i) x is = drop_at xs i x is

-- nodes that have equal sizes
same_sizes : (f h : ℕ → ℕ) (n : ℕ) (es : List (ℕ × ℕ)) → LeadBelow n es → ((m : ℕ) → m < n → f m ≡ h m) → sizes f es ≡ sizes h es
same_sizes f h n [] b same = refl
same_sizes f h n (e ∷ es) b same = let p = same e.1 b.1 in let q = same_sizes f h n es b.2 same in omega arith

module _ (other : List Content) (canon : IsCanonical other) where
  leads : (n : ℕ) → LeadBelow n (tops_of other n)
  leads n = by (slice_get other n) refl
    where
      by : (o : Option Content) → slice_get other n ≡ o → LeadBelow n (tops_of other n)
      by None at = subst (λ o. LeadBelow n (tops_by o)) (sym at) tt
      by (Some c) at = subst (λ o. LeadBelow n (tops_by o)) (sym at) (canon.plain n c at).lower

  -- the bound does not matter
  steady : (k j n : ℕ) → n < k → n < j → size_below other k n ≡ size_below other j n
  unfolding size_below
  steady zero j n less less' = absurd (omega arith)
  steady (suc k) zero n less less' = absurd (omega arith)
  steady (suc k) (suc j) n less less' = ap (λ (s : ℕ). 2 + s)
      (same_sizes (size_below other k) (size_below other j) n (tops_of other n) (leads n)
      (λ m lower. steady k j m (omega arith) (omega arith)))

  size_is : (n : ℕ) → size_of other n ≡ suc (left_at other n 0)
  unfolding size_of size_below left_at
  size_is n = let e = same_sizes (size_below other n) (size_of other) n (tops_of other n) (leads n)
      (λ m lower. steady n (suc m) m lower (omega arith)) in omega arith

  -- one top is done, or waited for
  pub one_less : (node done t m : ℕ) → slice_get (tops_of other node) done ≡ Some (t, m)
      → left_at other node done ≡ left_at other node (suc done) + suc (left_at other m 0)
  unfolding left_at
  one_less node done t m is =
      let e = ap (sizes (size_of other)) (drop_at (tops_of other node) done (t, m) is) in
      let s = size_is m in
      omega arith

  pub some_left : (node done : ℕ) → 0 < left_at other node done
  unfolding left_at
  some_left node done = omega arith

  -- the sums that the loop counts down
  pub less_known : (waiting : List Frame) (node t m : ℕ) (tops tops' : List (ℕ × ℕ)) (r : ℕ)
      → slice_get (tops_of other node) (length tops) ≡ Some (t, m) → tops' ≡ tops ++ (t, r) ∷ []
      → left_in other waiting + left_at other node (length tops') < left_in other waiting + left_at other node (length tops)
  less_known waiting node t m tops tops' r is made =
      let long : length tops' ≡ suc (length tops) = (let l = length-append tops ((t, r) ∷ []) in let e = ap length made in omega arith) in
      let l = one_less node (length tops) t m is in
      let now = ap (left_at other node) long in
      omega arith

  pub less_down : (waiting waiting' : List Frame) (f : Frame) (m : ℕ) (tops : List (ℕ × ℕ))
      → slice_get (tops_of other f.node) (length f.tops.items) ≡ Some (f.state, m) → waiting' ≡ waiting ++ f ∷ [] → tops ≡ []
      → left_in other waiting' + left_at other m (length tops) < left_in other waiting + left_at other f.node (length f.tops.items)
  less_down waiting waiting' f m tops is made none =
      let l = one_less f.node (length f.tops.items) f.state m is in
      let p = ap (left_in other) made ∙ left_push other waiting f in
      let now = ap (λ (xs : List (ℕ × ℕ)). left_at other m (length xs)) none in
      omega arith

  pub less_up : (waiting waiting' : List Frame) (f : Frame) (node r : ℕ) (tops tops' : List (ℕ × ℕ)) → waiting ≡ waiting' ++ f ∷ []
      → tops' ≡ f.tops.items ++ (f.state, r) ∷ []
      → left_in other waiting' + left_at other f.node (length tops') < left_in other waiting + left_at other node (length tops)
  less_up waiting waiting' f node r tops tops' is made =
      let long : length tops' ≡ suc (length f.tops.items) =
      (let l = length-append f.tops.items ((f.state, r) ∷ []) in let e = ap length made in omega arith) in
      let p = ap (left_in other) is ∙ left_push other waiting' f in
      let now = ap (left_at other f.node) long in
      let pos = some_left node (length tops) in
      omega arith
