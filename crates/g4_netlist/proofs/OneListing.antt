-- Lists of numbers that rise and have the same members are equal.
use Rattle.std.proofs.Common.{◌≡◌, ℕ, suc, ◌<◌, inl, inr, List, [], ◌∷◌, refl, sym, ap, subst, arith}
use Rattle.std.specs.List.{AllPairs, Contains}
use Rattle.std.proofs.lemmas.List.Kept.{AllPairs-from_increasing}
use Rattle.g4_netlist.specs.Listing.{IsListing, lines_of}
use Rattle.g4_netlist.specs.OfRule.{AreStatesOf}
use Rattle.g4_net.specs.Network.{ParserNetwork}
use Rattle.g4_netlist.proofs.Contained.{Contains-cons_cases, Contains-first, Contains-nil, Contains-rest}

-- each number is less than those after it
abbrev Rises : List ℕ → Type 0
Rises xs = AllPairs (λ x y. x < y) xs

-- and so are the rest
rest_rises : (x : ℕ) (xs : List ℕ) → Rises (x ∷ xs) → Rises xs
rest_rises x xs rises i j d less within = rises (suc i) (suc j) d (omega (arith, less)) (omega (arith, within))

-- the first is less than the rest
first_below : (x : ℕ) (xs : List ℕ) (y : ℕ) → Rises (x ∷ xs) → Contains xs y → x < y
first_below x xs y rises (k, within, is) = subst (λ (z : ℕ). x < z) is (rises 0 (suc k) y (omega arith) (omega (arith, within)))

-- lists that rise begin alike, where each has the first of the other
same_first : (x y : ℕ) (xs ys : List ℕ) → Rises (x ∷ xs) → Rises (y ∷ ys) → Contains (y ∷ ys) x → Contains (x ∷ xs) y → x ≡ y
same_first x y xs ys up up' has has' = elim (Contains-cons_cases y ys x has) [
  | inl same ↦ sym same
  | inr later ↦ elim (Contains-cons_cases x xs y has') [
    | inl same ↦ same
    | inr later' ↦ (
        let less : y < x = first_below y ys x up' later in
        let more : x < y = first_below x xs y up later' in
        absurd (omega (arith, less, more))
        )
  ]
]

-- what comes after the first is not the first of the other list
after_first : (x y z : ℕ) (xs ys : List ℕ) → Rises (x ∷ xs) → x ≡ y → Contains xs z → Contains (y ∷ ys) z → Contains ys z
after_first x y z xs ys up same has has' = elim (Contains-cons_cases y ys z has') [
  | inl is ↦ (let less : x < z = first_below x xs z up has in absurd (omega (arith, less, same, is)))
  | inr later ↦ later
]

same_members : (xs ys : List ℕ) → Rises xs → Rises ys → ((z : ℕ) → Contains xs z → Contains ys z)
    → ((z : ℕ) → Contains ys z → Contains xs z) → xs ≡ ys
same_members [] [] up up' to from = refl
same_members [] (y ∷ ys) up up' to from = absurd (Contains-nil y (from y (Contains-first y ys y refl)))
same_members (x ∷ xs) [] up up' to from = absurd (Contains-nil x (to x (Contains-first x xs x refl)))
same_members (x ∷ xs) (y ∷ ys) up up' to from =
    let same : x ≡ y = same_first x y xs ys up up' (to x (Contains-first x xs x refl)) (from y (Contains-first y ys y refl)) in
    let rest : xs ≡ ys = same_members xs ys (rest_rises x xs up) (rest_rises y ys up')
    (λ z has. after_first x y z xs ys up same has (to z (Contains-rest x xs z has)))
    (λ z has. after_first y x z ys xs up' (sym same) has (from z (Contains-rest y ys z has))) in
    cc

-- a rule has one list of states
pub same_states : (net : ParserNetwork) (rule : ℕ) (xs ys : List ℕ) → AreStatesOf net rule xs → AreStatesOf net rule ys → xs ≡ ys
same_states net rule xs ys a b = same_members xs ys (AllPairs-from_increasing xs a.rising) (AllPairs-from_increasing ys b.rising)
    (λ z has. (b.exactly z).1 ((a.exactly z).0 has)) (λ z has. (a.exactly z).1 ((b.exactly z).0 has))

-- and so one listing
pub one_listing : (names shown : List (List ℕ)) (net : ParserNetwork) (rule : ℕ) (one other : List ℕ)
    → IsListing names shown net rule one → IsListing names shown net rule other → one ≡ other
one_listing names shown net rule one other a b =
    let same : a.states ≡ b.states = same_states net rule a.states b.states a.are_states b.are_states in
    let alike : lines_of names shown net a.states ≡ lines_of names shown net b.states = ap (lines_of names shown net) same in
    cc (a.has_lines, b.has_lines, alike)
