-- Stores of lists of return states.
use Rattle.std.proofs.Common.{◌≡◌, ℕ, zero, suc, ◌+◌, ◌-◌, ◌<◌, ◌≤◌, ◌⊎◌, inl, inr, List, [], ◌∷◌, ◌++◌, Some, length, get_or, slice_get, length-append, append_assoc, refl, sym, ◌∙◌, ap, subst, arith}
use Rattle.std.proofs.lemmas.List.{append-nil, get_or_append_left, get_or_push}
use Rattle.std.proofs.lemmas.Option.{slice_get-get_or, slice_get_within}
use Rattle.std.specs.BTreeMap.{BTreeMap}
use Rattle.g4_matching.specs.Returns.{pushed, lists_after, lists_of, IsDistinct, IsEmptyFirst, Grows, IsStore}
use Rattle.g4_matching.proofs.Lookups.{same_some, at_last}

-- the lists of two runs of nodes
after_append : (lists : List (List ℕ)) (xs ys : List (ℕ × ℕ)) → lists_after lists (xs ++ ys) ≡ lists_after (lists_after lists xs) ys
after_append lists [] ys = refl
after_append lists (x ∷ xs) ys = after_append (lists ++ pushed lists x.0 x.1 ∷ []) xs ys

-- the lists before stay
after_grows : (lists : List (List ℕ)) (xs : List (ℕ × ℕ)) → Grows lists (lists_after lists xs)
after_grows lists [] = ([], sym (append-nil lists))
after_grows lists (x ∷ xs) =
    let r = after_grows (lists ++ pushed lists x.0 x.1 ∷ []) xs in
    (pushed lists x.0 x.1 ∷ r.0, r.1 ∙ append_assoc lists (pushed lists x.0 x.1 ∷ []) r.0)

-- each node has a list
after_length : (lists : List (List ℕ)) (xs : List (ℕ × ℕ)) → length (lists_after lists xs) ≡ length lists + length xs
after_length lists [] = omega arith
after_length lists (x ∷ xs) =
    let r = after_length (lists ++ pushed lists x.0 x.1 ∷ []) xs in
    let n = length-append lists (pushed lists x.0 x.1 ∷ []) in
    omega arith

-- lists that grew have each old one at its number
pub grown_at : (old new : List (List ℕ)) (n : ℕ) → Grows old new → n < length old → get_or new n [] ≡ get_or old n []
grown_at old new n g lt = ap (λ (l : List (List ℕ)). get_or l n []) g.1 ∙ get_or_append_left old g.0 [] n lt

-- and are no fewer
pub grown_length : (old new : List (List ℕ)) → Grows old new → length old ≤ length new
grown_length old new g = let n = ap length g.1 ∙ length-append old g.0 in omega arith

-- a state on an old list is on the same list
pub grown_pushed : (old new : List (List ℕ)) (state below : ℕ) → Grows old new → below < length old
    → pushed new state below ≡ pushed old state below
grown_pushed old new state below g lt = ap (λ (l : List ℕ). state ∷ l) (grown_at old new below g lt)

-- they grow further
pub grows_on : (old mid new : List (List ℕ)) → Grows old mid → Grows mid new → Grows old new
grows_on old mid new f g = (f.0 ++ g.0, g.1 ∙ ap (λ (l : List (List ℕ)). l ++ g.0) f.1 ∙ append_assoc old f.0 g.0)

-- a node has its list
after_at : (lists : List (List ℕ)) (xs : List (ℕ × ℕ)) (k : ℕ) (p : ℕ × ℕ) → slice_get xs k ≡ Some p → p.1 < length lists + k
    → get_or (lists_after lists xs) (length lists + k) [] ≡ pushed (lists_after lists xs) p.0 p.1
after_at lists [] k p is lt = absurd (cc)
after_at lists (x ∷ xs) zero p is lt =
    let new : List (List ℕ) = lists ++ pushed lists x.0 x.1 ∷ [] in
    let same : x ≡ p = same_some x p is in
    let end : length lists ≡ length lists + 0 = omega arith in
    let n = length-append lists (pushed lists x.0 x.1 ∷ []) in
    let first : get_or (lists_after new xs) (length lists + 0) [] ≡ pushed lists x.0 x.1 =
    grown_at new (lists_after new xs) (length lists + 0) (after_grows new xs) (omega arith)
    ∙ get_or_push lists (pushed lists x.0 x.1) [] (length lists + 0) end in
    let grown : Grows lists (lists_after new xs) = after_grows lists (x ∷ xs) in
    first ∙ ap (λ (q : ℕ × ℕ). pushed lists q.0 q.1) same ∙ sym (grown_pushed lists (lists_after new xs) p.0 p.1 grown (omega arith))
after_at lists (x ∷ xs) (suc k) p is lt =
    let new : List (List ℕ) = lists ++ pushed lists x.0 x.1 ∷ [] in
    let n = length-append lists (pushed lists x.0 x.1 ∷ []) in
    let there : length new + k ≡ length lists + suc k = omega arith in
    subst (λ (m : ℕ). get_or (lists_after new xs) m [] ≡ pushed (lists_after new xs) p.0 p.1) there (after_at new xs k p is (omega arith))

-- how many lists there are
pub lists_length : (nodes : List (ℕ × ℕ)) → length (lists_of nodes) ≡ length nodes + 1
unfolding lists_of
lists_length nodes = let n = after_length ([] ∷ []) nodes in omega arith

-- the first is empty
pub first_list : (nodes : List (ℕ × ℕ)) → get_or (lists_of nodes) 0 [] ≡ []
unfolding lists_of
first_list nodes = grown_at ([] ∷ []) (lists_after ([] ∷ []) nodes) 0 (after_grows ([] ∷ []) nodes) (omega arith)

-- each other is that of its node
pub list_of_node : (nodes : List (ℕ × ℕ)) (k : ℕ) (p : ℕ × ℕ) → slice_get nodes k ≡ Some p → p.1 ≤ k
    → get_or (lists_of nodes) (k + 1) [] ≡ pushed (lists_of nodes) p.0 p.1
unfolding lists_of
list_of_node nodes k p is le =
    let n : 1 + k ≡ k + 1 = omega arith in
    subst (λ (m : ℕ). get_or (lists_after ([] ∷ []) nodes) m [] ≡ pushed (lists_after ([] ∷ []) nodes) p.0 p.1) n
    (after_at ([] ∷ []) nodes k p is (omega arith))

-- one node more is one list more
pub one_list_more : (nodes : List (ℕ × ℕ)) (state below : ℕ)
    → lists_of (nodes ++ (state, below) ∷ []) ≡ lists_of nodes ++ pushed (lists_of nodes) state below ∷ []
unfolding lists_of
one_list_more nodes state below = after_append ([] ∷ []) nodes ((state, below) ∷ [])

-- a list by its number: the empty one, or that of a node
pub record OfNode (nodes : List (ℕ × ℕ)) (n : ℕ) : Type 0 where
  pub place : ℕ
  pub node : ℕ × ℕ
  pub after : n ≡ place + 1
  pub there : slice_get nodes place ≡ Some node

-- each number is one of these
pub number_cases : (nodes : List (ℕ × ℕ)) (n : ℕ) → n < length (lists_of nodes) → (n ≡ 0) ⊎ OfNode nodes n
number_cases nodes zero lt = inl refl
number_cases nodes (suc k) lt =
    let l = lists_length nodes in
    inr (record { place = k; node = get_or nodes k (0, 0); after = omega arith; there = slice_get-get_or nodes k (0, 0) (omega arith) })

-- a node has one place
one_place : (nodes : List (ℕ × ℕ)) (numbers : BTreeMap (ℕ × ℕ) ℕ) (p : ℕ × ℕ) (j k : ℕ) → IsStore nodes numbers
    → slice_get nodes j ≡ Some p → slice_get nodes k ≡ Some p → j ≡ k
one_place nodes numbers p j k store at_j at_k =
    let m = (store.numbered p (j + 1)).1 (j, refl, at_j) in
    let n = (store.numbered p (k + 1)).1 (k, refl, at_k) in
    let e : j + 1 ≡ k + 1 = same_some (j + 1) (k + 1) (sym m ∙ n) in
    omega arith

-- what a node's list is
node_list : (nodes : List (ℕ × ℕ)) (numbers : BTreeMap (ℕ × ℕ) ℕ) (n : ℕ) → IsStore nodes numbers → (h : OfNode nodes n)
    → get_or (lists_of nodes) n [] ≡ pushed (lists_of nodes) h.node.0 h.node.1
node_list nodes numbers n store h =
    ap (λ (m : ℕ). get_or (lists_of nodes) m []) h.after ∙ list_of_node nodes h.place h.node h.there (store.below h.place h.node h.there)

-- and the list below it has a number
pub below_known : (nodes : List (ℕ × ℕ)) (numbers : BTreeMap (ℕ × ℕ) ℕ) (k : ℕ) (p : ℕ × ℕ) → IsStore nodes numbers
    → slice_get nodes k ≡ Some p → p.1 < length (lists_of nodes)
below_known nodes numbers k p store is =
    let le = store.below k p is in
    let lt = slice_get_within nodes k p is in
    let l = lists_length nodes in
    omega arith

-- equal lists have equal numbers
same_number : (nodes : List (ℕ × ℕ)) (numbers : BTreeMap (ℕ × ℕ) ℕ) → IsStore nodes numbers → (r : List ℕ) (m n : ℕ)
    → m < length (lists_of nodes) → n < length (lists_of nodes) → get_or (lists_of nodes) m [] ≡ r → get_or (lists_of nodes) n [] ≡ r
    → m ≡ n
same_number nodes numbers store [] m n lm ln em en = go (number_cases nodes m lm) (number_cases nodes n ln)
  where
    no_node : (k : ℕ) → get_or (lists_of nodes) k [] ≡ [] → OfNode nodes k → ⊥
    no_node k e h = let is = node_list nodes numbers k store h in cc

    go : (m ≡ 0) ⊎ OfNode nodes m → (n ≡ 0) ⊎ OfNode nodes n → m ≡ n
    go (inl zm) (inl zn) = omega arith
    go (inl zm) (inr h) = absurd (no_node n en h)
    go (inr h) o = absurd (no_node m em h)
same_number nodes numbers store (t ∷ rest) m n lm ln em en =
    go (λ i j li lj ei ej. same_number nodes numbers store rest i j li lj ei ej) (number_cases nodes m lm) (number_cases nodes n ln)
  where
    not_first : (k : ℕ) → get_or (lists_of nodes) k [] ≡ t ∷ rest → k ≡ 0 → ⊥
    not_first k e z = let f = first_list nodes in let g = ap (λ (j : ℕ). get_or (lists_of nodes) j []) z in cc

    heads : (x y : ℕ) (xs ys : List ℕ) → x ∷ xs ≡ y ∷ ys → x ≡ y
    heads x y xs ys e = cc

    tails : (x y : ℕ) (xs ys : List ℕ) → x ∷ xs ≡ y ∷ ys → xs ≡ ys
    tails x y xs ys e = cc

    parts : (k : ℕ) → get_or (lists_of nodes) k [] ≡ t ∷ rest → (h : OfNode nodes k)
        → (h.node.0 ≡ t) × (get_or (lists_of nodes) h.node.1 [] ≡ rest)
    parts k e h = let both : h.node.0 ∷ get_or (lists_of nodes) h.node.1 [] ≡ t ∷ rest =
        sym (node_list nodes numbers k store h) ∙ e in (heads _ _ _ _ both, tails _ _ _ _ both)

    make : ℕ → ℕ → ℕ × ℕ
    make a b = (a, b)

    go : ((i j : ℕ) → i < length (lists_of nodes) → j < length (lists_of nodes) → get_or (lists_of nodes) i [] ≡ rest
        → get_or (lists_of nodes) j [] ≡ rest → i ≡ j) → (m ≡ 0) ⊎ OfNode nodes m → (n ≡ 0) ⊎ OfNode nodes n → m ≡ n
    go lower (inl zm) o = absurd (not_first m em zm)
    go lower (inr h) (inl zn) = absurd (not_first n en zn)
    go lower (inr h) (inr k) =
        let p = parts m em h in
        let q = parts n en k in
        let low = lower h.node.1 k.node.1 (below_known nodes numbers h.place h.node store h.there)
        (below_known nodes numbers k.place k.node store k.there) p.1 q.1 in
        let top : h.node.0 ≡ k.node.0 = p.0 ∙ sym q.0 in
        let node : h.node ≡ k.node = ap (λ (x : ℕ). make x h.node.1) top ∙ ap (make k.node.0) low in
        let place = one_place nodes numbers h.node h.place k.place store h.there (k.there ∙ ap Some (sym node)) in
        let a = h.after in let b = k.after in omega arith

-- so the lists are distinct
pub distinct : (nodes : List (ℕ × ℕ)) (numbers : BTreeMap (ℕ × ℕ) ℕ) → IsStore nodes numbers → IsDistinct (lists_of nodes)
distinct nodes numbers store m n lm ln e = same_number nodes numbers store (get_or (lists_of nodes) n []) m n lm ln e refl

-- a node of the store is a list of it
pub list_at : (nodes : List (ℕ × ℕ)) (numbers : BTreeMap (ℕ × ℕ) ℕ) (lists : List (List ℕ)) (p : ℕ × ℕ) (k n : ℕ)
    → lists_of nodes ≡ lists → IsStore nodes numbers → n ≡ k + 1 → slice_get nodes k ≡ Some p
    → slice_get lists n ≡ Some (pushed lists p.0 p.1)
list_at nodes numbers lists p k n view store is there =
    let l = lists_length nodes in
    let lt = slice_get_within nodes k p there in
    let in_range : n < length (lists_of nodes) = omega arith in
    let list : get_or (lists_of nodes) n [] ≡ pushed (lists_of nodes) p.0 p.1 =
    node_list nodes numbers n store (record { place = k; node = p; after = is; there = there }) in
    subst (λ (ls : List (List ℕ)). slice_get ls n ≡ Some (pushed ls p.0 p.1)) view
    (slice_get-get_or (lists_of nodes) n [] in_range ∙ ap Some list)

-- with one node more the lists grow
pub grown_more : (nodes new : List (ℕ × ℕ)) (lists : List (List ℕ)) (state below : ℕ) → lists_of nodes ≡ lists
    → new ≡ nodes ++ (state, below) ∷ [] → Grows lists (lists_of new)
grown_more nodes new lists state below view grown = (
  pushed (lists_of nodes) state below ∷ [],
  ap lists_of grown ∙ one_list_more nodes state below
      ∙ ap (λ (ls : List (List ℕ)). ls ++ pushed (lists_of nodes) state below ∷ []) view,
)

-- by its list
pub new_list : (nodes new : List (ℕ × ℕ)) (lists : List (List ℕ)) (state below n : ℕ) → lists_of nodes ≡ lists → n ≡ length nodes + 1
    → new ≡ nodes ++ (state, below) ∷ [] → slice_get (lists_of new) n ≡ Some (pushed lists state below)
new_list nodes new lists state below n view is grown =
    let all : lists_of new ≡ lists_of nodes ++ pushed (lists_of nodes) state below ∷ [] =
    ap lists_of grown ∙ one_list_more nodes state below in
    let number : n ≡ length (lists_of nodes) = is ∙ sym (lists_length nodes) in
    ap (λ (ls : List (List ℕ)). slice_get ls n) all
    ∙ ap (λ (m : ℕ). slice_get (lists_of nodes ++ pushed (lists_of nodes) state below ∷ []) m) number
    ∙ at_last (lists_of nodes) (pushed (lists_of nodes) state below) ∙ ap (λ (ls : List (List ℕ)). Some (pushed ls state below)) view

-- a number other than 0 is past a node's place
pub node_place : (nodes : List (ℕ × ℕ)) (lists : List (List ℕ)) (n : ℕ) → lists_of nodes ≡ lists → n < length lists → (n ≡ 0 → ⊥)
    → n - 1 < length nodes
node_place nodes lists n view lt some = let l = lists_length nodes in let e = ap length view in omega arith

-- where its list is found
pub list_of_place : (nodes : List (ℕ × ℕ)) (numbers : BTreeMap (ℕ × ℕ) ℕ) (lists : List (List ℕ)) (p : ℕ × ℕ) (n : ℕ)
    → lists_of nodes ≡ lists → IsStore nodes numbers → (n ≡ 0 → ⊥) → n < length lists → p ≡ get_or nodes (n - 1) (0, 0)
    → (p.1 < length lists) × (get_or lists n [] ≡ pushed lists p.0 p.1)
list_of_place nodes numbers lists p n view store some lt is =
    let in_range = node_place nodes lists n view lt some in
    let there : slice_get nodes (n - 1) ≡ Some p = slice_get-get_or nodes (n - 1) (0, 0) in_range ∙ ap Some (sym is) in
    let after : n ≡ n - 1 + 1 = omega arith in
    subst (λ (ls : List (List ℕ)). (p.1 < length ls) × (get_or ls n [] ≡ pushed ls p.0 p.1)) view (
      below_known nodes numbers (n - 1) p store there,
      node_list nodes numbers n store (record { place = n - 1; node = p; after = after; there = there }),
    )

-- the list with number 0
pub list_zero : (nodes : List (ℕ × ℕ)) (lists : List (List ℕ)) (n : ℕ) → lists_of nodes ≡ lists → n ≡ 0 → get_or lists n [] ≡ []
list_zero nodes lists n view is = ap (λ (m : ℕ). get_or lists m []) is ∙ ap (λ (ls : List (List ℕ)). get_or ls 0 []) (sym view)
    ∙ first_list nodes

-- a number of a list is past no more places than there are nodes
pub number_low : (nodes : List (ℕ × ℕ)) (lists : List (List ℕ)) (n : ℕ) → lists_of nodes ≡ lists → n < length lists → n < length nodes + 1
number_low nodes lists n view lt = let l = lists_length nodes in let e = ap length view in omega arith

-- the empty list is there, and first
pub empty_first : (nodes : List (ℕ × ℕ)) → IsEmptyFirst (lists_of nodes)
empty_first nodes = (let n = lists_length nodes in omega arith, first_list nodes)
