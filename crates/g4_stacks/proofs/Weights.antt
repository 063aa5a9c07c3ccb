-- How much work a merge can take: the weight of a node is the size of the tree of its tops.
use Rattle.std.proofs.Common.{◌≡◌, ℕ, zero, suc, ◌+◌, ◌<◌, ◌≤◌, List, [], ◌∷◌, length, drop, refl, ap, arith}
use Rattle.g4_stacks.specs.Graph.{Content}
use Rattle.g4_stacks.specs.Canonical.{LeadBelow, IsCanonical}
use Rattle.g4_stacks.specs.Merge.{tops_of}
use Rattle.g4_stacks.proofs.Steps.{tops_lead}

-- the weights of the nodes that the tops lead to
abbrev pub total : (ℕ → ℕ) → List (ℕ × ℕ) → ℕ
total w [] = 0
total w (e ∷ es) = w e.1 + total w es

-- the size of a node's tree down to k nodes below it
abbrev pub size : List Content → ℕ → ℕ → ℕ
size g zero n = 0
size g (suc k) n = suc (suc (total (size g k) (tops_of g n)))

total_same : (v w : ℕ → ℕ) (n : ℕ) (es : List (ℕ × ℕ)) → LeadBelow n es → ((m : ℕ) → m < n → v m ≡ w m) → total v es ≡ total w es
total_same v w n [] lead same = refl
total_same v w n (e ∷ es) lead same = let h = same e.1 lead.1 in let r = total_same v w n es lead.2 same in omega arith

-- a bound above the node gives the whole tree
size_same : (g : List Content) → IsCanonical g → (k l n : ℕ) → n < k → n < l → n < length g → size g k n ≡ size g l n
size_same g canon zero l n lt lt' n_in = absurd (omega arith)
size_same g canon (suc k) zero n lt lt' n_in = absurd (omega arith)
size_same g canon (suc k) (suc l) n lt lt' n_in =
    ap (λ (x : ℕ). suc (suc x)) (total_same (size g k) (size g l) n (tops_of g n) (tops_lead g n canon n_in)
    (λ m below. size_same g canon k l m (omega arith) (omega arith) (omega arith)))

unfoldable pub weight : List Content → ℕ → ℕ
weight g n = size g (suc n) n

-- the weight of a list of tops
unfoldable pub weight_of : List Content → List (ℕ × ℕ) → ℕ
weight_of g es = total (weight g) es

-- a node weighs two more than its tops
weight_is : (g : List Content) (n : ℕ) → IsCanonical g → n < length g → weight g n ≡ suc (suc (weight_of g (tops_of g n)))
unfolding weight weight_of
weight_is g n canon n_in =
    ap (λ (x : ℕ). suc (suc x)) (total_same (size g n) (λ m. size g (suc m) m) n (tops_of g n) (tops_lead g n canon n_in)
    (λ m below. size_same g canon n (suc m) m (omega arith) (omega arith) (omega arith)))

pub weight_cons : (g : List Content) (t m : ℕ) (es : List (ℕ × ℕ)) → IsCanonical g → m < length g
    → weight_of g ((t, m) ∷ es) ≡ suc (suc (weight_of g (tops_of g m))) + weight_of g es
unfolding weight_of
weight_cons g t m es canon m_in = ap (λ (x : ℕ). x + weight_of g es) (weight_is g m canon m_in)

total_drop : (w : ℕ → ℕ) (i k : ℕ) (es : List (ℕ × ℕ)) → i ≤ k → total w (drop k es) ≤ total w (drop i es)
total_drop w zero zero es le = omega arith
total_drop w zero (suc k) [] le = omega arith
total_drop w zero (suc k) (e ∷ es) le = let h = total_drop w zero k es (omega arith) in omega arith
total_drop w (suc i) zero es le = absurd (omega arith)
total_drop w (suc i) (suc k) [] le = omega arith
total_drop w (suc i) (suc k) (e ∷ es) le = total_drop w i k es (omega arith)

-- further down the list there is less
pub weight_drop : (g : List Content) (i k : ℕ) (es : List (ℕ × ℕ)) → i ≤ k → weight_of g (drop k es) ≤ weight_of g (drop i es)
unfolding weight_of
weight_drop g i k es le = total_drop (weight g) i k es le
