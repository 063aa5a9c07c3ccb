-- The parts of nodes that are noted.
use Rattle.std.proofs.Common.{◌≡◌, ◌≤◌, ◌+◌, ◌-◌, ℕ, zero, suc, inl, inr, ◌⊎◌, List, [], ◌∷◌, ◌++◌, Bool, true, false, Some, slice_get, length, take, replicate, refl, sym, ◌∙◌, ap, subst, arith, append_assoc, length-append}
use Rattle.std.proofs.lemmas.List.{append-nil}
use Rattle.g4_net.specs.Configurations.{Stack}
use Rattle.g4_stacks.specs.Graph.{Content, Has, In, IsNode}
use Rattle.g4_stacks.specs.Canonical.{IsCanonical, Grows}
use Rattle.g4_stacks.specs.Merge.{AreParts, IsPart, IsUnion}
use Rattle.g4_stacks.specs.Table.{one_of}
use Rattle.g4_stacks.proofs.Canonicity.{has_end, has_pushed, has_wild}
use Rattle.g4_stacks.proofs.Growing.{keeps}
use Rattle.g4_stacks.proofs.Marks.{none_in}
use Rattle.g4_stacks.proofs.Walking.{In-at}

-- each node has the empty set as a part
pub nothing_part : (g : List Content) (n : ℕ) → IsCanonical g → IsPart g n 0
nothing_part g n canon s h = absurd (none_in g canon s h)

pub part_itself : (g : List Content) (n : ℕ) → IsPart g n n
part_itself g n s h = h

-- a part of a part is a part
pub part_then : (g : List Content) (n m k : ℕ) → IsPart g n m → IsPart g m k → IsPart g n k
part_then g n m k p q s h = p s (q s h)

pub part_union : (g : List Content) (a b : ℕ) → IsPart g a b → IsUnion g a b g a
part_union g a b p s = ((λ h. inl h), (λ h. elim h [ inl x ↦ x | inr y ↦ p s y ]))

pub union_part : (g : List Content) (a b : ℕ) → IsPart g b a → IsUnion g a b g b
union_part g a b p s = ((λ h. inr h), (λ h. elim h [ inl x ↦ p s x | inr y ↦ y ]))

-- a node has the stacks of another that has one top and no mark, if it has that top
pub one_part : (g : List Content) (node part i t m : ℕ) (c : Content) → slice_get g node ≡ Some c → slice_get g part ≡ Some (one_of t m)
    → slice_get c.tops i ≡ Some (t, m) → IsPart g node part
one_part g node part i t m c node_is part_is top s h = by s.returns s.wild h
  where
    top_in : (u n : ℕ) → In {X = ℕ × ℕ} (u, n) ((t, m) ∷ []) → In {X = ℕ × ℕ} (u, n) c.tops
    top_in u n (inl e) = subst (λ (x : ℕ × ℕ). In x c.tops) (sym e) (In-at c.tops i (t, m) top)
    top_in u n (inr none) = absurd none

    by : (returns : List ℕ) (wild : Bool) → Has g part (record { returns = returns; wild = wild })
        → Has g node (record { returns = returns; wild = wild })
    by [] true k = let e : false ≡ true = (has_wild g part (one_of t m) part_is).0 k in absurd (cc)
    by [] false k = let e : false ≡ true = (has_end g part (one_of t m) part_is).0 k in absurd (cc)
    by (u ∷ rest) wild k =
        let z : Stack = record { returns = rest; wild = wild } in
        let r = (has_pushed g part (one_of t m) u z part_is).0 k in
        (has_pushed g node c u z node_is).1 (r.0, top_in u r.0 r.1, r.2)

pub no_parts : (g : List Content) → AreParts g []
no_parts g n part is = absurd (cc)

-- parts stay parts
pub parts_grown : (g h : List Content) (parts : List ℕ) → IsCanonical g → Grows g h → AreParts g parts → AreParts h parts
parts_grown g h parts canon grows are n part is =
    let k = are n part is in
    let at_n = keeps g h canon grows n k.0 in
    let at_part = keeps g h canon grows part k.1 in
    (at_n.0, at_part.0, λ s x. (at_n.1 s).0 (k.2 s ((at_part.1 s).1 x)))

-- with one item more, an item is an old one or the last
split_last : (xs : List ℕ) (x y n : ℕ) → slice_get (xs ++ x ∷ []) n ≡ Some y → (slice_get xs n ≡ Some y) ⊎ ((n ≡ length xs) × (x ≡ y))
split_last [] x y zero is = inr (refl, cc)
split_last [] x y (suc n) is = absurd (cc)
split_last (z ∷ xs) x y zero is = inl is
split_last (z ∷ xs) x y (suc n) is = elim (split_last xs x y n is) [ inl old ↦ inl old | inr new ↦ inr (ap suc new.0, new.1) ]

-- one part more
parts_more : (g : List Content) (parts : List ℕ) (part : ℕ) → AreParts g parts → IsNode g (length parts) → IsNode g part
    → IsPart g (length parts) part → AreParts g (parts ++ part ∷ [])
parts_more g parts part are node_in part_in has n m is = elim (split_last parts part m n is) [
  | inl old ↦ are n m old
  | inr new ↦ subst (λ (k : ℕ). IsNode g k × IsNode g m × IsPart g k m) (sym new.0)
      (subst (λ (p : ℕ). IsNode g (length parts) × IsNode g p × IsPart g (length parts) p) new.1 (node_in, part_in, has))
]

-- the empty set, as many times
abbrev pub zeros : ℕ → List ℕ
zeros k = replicate k 0

-- the empty set as the part of as many nodes more
parts_filled : (g : List Content) (parts : List ℕ) (k : ℕ) → IsCanonical g → length parts + k ≤ length g → AreParts g parts
    → AreParts g (parts ++ zeros k)
parts_filled g parts zero canon le are = subst (AreParts g) (sym (append-nil parts)) are
parts_filled g parts (suc k) canon le are =
    let l = length-append parts (0 ∷ []) in
    let at : IsNode g (length parts) = omega arith in
    let first : IsNode g 0 = omega arith in
    let more : AreParts g (parts ++ 0 ∷ []) = parts_more g parts 0 are at first (nothing_part g (length parts) canon) in
    subst (AreParts g) (append_assoc parts (0 ∷ []) (zeros k)) (parts_filled g (parts ++ 0 ∷ []) k canon (omega arith) more)

take_all : (xs : List ℕ) (n : ℕ) → length xs ≤ n → take n xs ≡ xs
take_all [] zero le = refl
take_all [] (suc n) le = refl
take_all (x ∷ xs) zero le = absurd (omega arith)
take_all (x ∷ xs) (suc n) le = ap (λ (ys : List ℕ). x ∷ ys) (take_all xs n (omega arith))

length_zeros : (k : ℕ) → length (zeros k) ≡ k
length_zeros zero = refl
length_zeros (suc k) = ap suc (length_zeros k)

-- the empty set as the part of the nodes before one of which no part is noted
pub parts_before : (g : List Content) (parts filled : List ℕ) (node : ℕ) → IsCanonical g → length parts ≤ node → IsNode g node
    → filled ≡ take node parts ++ zeros (node - length parts) → AreParts g parts → AreParts g filled × (length filled ≡ node)
parts_before g parts filled node canon le node_in is are =
    let whole : filled ≡ parts ++ zeros (node - length parts) =
    is ∙ ap (λ (xs : List ℕ). xs ++ zeros (node - length parts)) (take_all parts node le) in
    let added = length-append parts (zeros (node - length parts)) in
    let count : length (zeros (node - length parts)) ≡ node - length parts = length_zeros (node - length parts) in
    let same = ap length whole in
    (subst (AreParts g) (sym whole) (parts_filled g parts (node - length parts) canon (omega arith) are), omega arith)

-- and then its own part
pub parts_noted : (g : List Content) (filled parts' : List ℕ) (node part : ℕ) → IsNode g node → IsNode g part → IsPart g node part
    → AreParts g filled × (length filled ≡ node) → parts' ≡ filled ++ part ∷ [] → AreParts g parts'
parts_noted g filled parts' node part node_in part_in has before more =
    subst (AreParts g) (sym more)
    (parts_more g filled part before.0 (subst (IsNode g) (sym before.1) node_in) part_in
    (subst (λ (n : ℕ). IsPart g n part) (sym before.1) has))
