-- Sizes of sets: a set has one, and equal sets have the same; so it is where some things count as one.
use Rattle.std.proofs.Common.{◌≡◌, ◌↔◌, ℕ, zero, suc, ◌≤◌, inl, inr, List, [], ◌∷◌, ◌++◌, length, ap, arith, refl, subst, sym, ◌∙◌}
use mathlib.Core.Option.{some}
use lib.ListN.{get_elem?}
use Rattle.g4_net.proofs.Pigeons.{Apart as NoneTwice, In, at_most}
use Rattle.g4_store.specs.Numbers.{Among}
use Rattle.g4_store.proofs.Lists.{among_either}
use Rattle.g4_tally.specs.Sizes.{HasClasses, HasMore, HasSize, IsOnce}

module _ {X : Type 0} where
  -- no item is there twice
  abbrev pub Apart : List X → Type 0
  Apart [] = Unit {0}
  Apart (x ∷ xs) = (Among x xs → ⊥) × Apart xs

  -- what is at a place is among the items, and what is among them is at a place
  pub at_is_among : (xs : List X) (i : ℕ) (x : X) → get_elem? xs i ≡ some x → Among x xs
  at_is_among [] i x at = cc
  at_is_among (y ∷ ys) zero x at = inl cc
  at_is_among (y ∷ ys) (suc i) x at = inr (at_is_among ys i x at)

  pub among_is_at : (xs : List X) (x : X) → Among x xs → (i : ℕ) × (get_elem? xs i ≡ some x)
  among_is_at [] x among = absurd among
  among_is_at (y ∷ ys) x (inl is) = (zero, ap some (sym is))
  among_is_at (y ∷ ys) x (inr among) = let at = among_is_at ys x among in (suc at.0, at.1)

  pub once_from : (xs : List X) → Apart xs → (i j : ℕ) (x : X) → get_elem? xs i ≡ some x → get_elem? xs j ≡ some x → i ≡ j
  once_from [] apart i j x here there = cc
  once_from (y ∷ ys) apart zero zero x here there = refl
  once_from (y ∷ ys) apart zero (suc j) x here there =
      absurd (apart.0 (at_is_among ys j y (there ∙ sym here)))
  once_from (y ∷ ys) apart (suc i) zero x here there =
      absurd (apart.0 (at_is_among ys i y (here ∙ sym there)))
  once_from (y ∷ ys) apart (suc i) (suc j) x here there = ap suc (once_from ys apart.1 i j x here there)

  pub apart_from : (xs : List X) → ((i j : ℕ) (x : X) → get_elem? xs i ≡ some x → get_elem? xs j ≡ some x → i ≡ j) → Apart xs
  apart_from [] once = tt
  apart_from (y ∷ ys) once = (twice, apart_from ys (λ i j x here there. let same = once (suc i) (suc j) x here there in omega arith))
    where
      twice : Among y ys → ⊥
      twice among = let at = among_is_at ys y among in let same = once zero (suc at.0) y refl at.1 in omega arith

  pub apart_append : (xs ys : List X) → Apart xs → Apart ys → ((x : X) → Among x xs → Among x ys → ⊥) → Apart (xs ++ ys)
  apart_append [] ys one other none = other
  apart_append (x ∷ xs) ys one other none = (twice, apart_append xs ys one.1 other (λ z h. none z (inr h)))
    where
      twice : Among x (xs ++ ys) → ⊥
      twice among = elim (among_either x xs ys among) [ inl h ↦ one.0 h | inr h ↦ none x (inl refl) h ]

  -- a list whose items, none of them twice, are all in another is no longer
  into : (xs : List X) (x : X) → Among x xs → In x xs
  into [] x h = absurd h
  into (y ∷ ys) x (inl is) = inl is
  into (y ∷ ys) x (inr h) = inr (into ys x h)

  back : (xs : List X) (x : X) → In x xs → Among x xs
  back [] x h = absurd h
  back (y ∷ ys) x (inl is) = inl is
  back (y ∷ ys) x (inr h) = inr (back ys x h)

  none_twice : (xs : List X) → Apart xs → NoneTwice xs
  none_twice [] apart = tt
  none_twice (x ∷ xs) apart = (λ h. apart.0 (back xs x h), none_twice xs apart.1)

  no_longer : (xs ys : List X) → Apart xs → ((x : X) → Among x xs → Among x ys) → length xs ≤ length ys
  no_longer xs ys apart all = at_most xs ys (none_twice xs apart) (λ x h. into ys x (all x (back xs x h)))

  -- a part of a set is no greater
  no_greater : (Is Has : X → Type 0) (a b : ℕ) → ((x : X) → Is x → Has x) → HasSize Is a → HasSize Has b → a ≤ b
  no_greater Is Has a b part one other =
      let less = no_longer one.items other.items (apart_from one.items one.once)
      (λ x h. (other.all x).0 (part x ((one.all x).1 h))) in
      omega (arith, less, one.count, other.count)

  -- a set has one size
  pub one_size : (Is : X → Type 0) (a b : ℕ) → HasSize Is a → HasSize Is b → a ≡ b
  one_size Is a b one other =
      omega (arith, no_greater Is Is a b (λ x h. h) one other, no_greater Is Is b a (λ x h. h) other one)

  -- equal sets have one size
  pub same_size : (Is Has : X → Type 0) (size : ℕ) → ((x : X) → Is x ↔ Has x) → HasSize Is size → HasSize Has size
  same_size Is Has size same of = record {
    items = of.items;
    all = λ x. (λ has. (of.all x).0 ((same x).1 has), λ h. (same x).0 ((of.all x).1 h));
    once = of.once;
    count = of.count;
  }

  -- a part of a set of this size has no more things than that
  pub never_more : (Is Has : X → Type 0) (n size : ℕ) → ((x : X) → Is x → Has x) → HasMore Is n → HasSize Has size → size ≤ n → ⊥
  never_more Is Has n size part more of le =
      let less = no_longer more.items of.items (apart_from more.items more.once)
      (λ x h. (of.all x).0 (part x (more.only x h))) in
      let m = more.more in
      omega (arith, less, m, of.count, le)

module _ {X Y : Type 0} (Good : X → Y → Type 0) where
  -- for each item of the one list the other has a good one, in order
  abbrev pub ArePicks : List X → List Y → Type 0
  ArePicks [] [] = Unit {0}
  ArePicks [] (y ∷ ys) = ⊥
  ArePicks (x ∷ xs) [] = ⊥
  ArePicks (x ∷ xs) (y ∷ ys) = Good x y × ArePicks xs ys

  pub pick : (xs : List X) → ((x : X) → Among x xs → (y : Y) × Good x y) → (ys : List Y) × ArePicks xs ys
  pick [] each = ([], tt)
  pick (x ∷ xs) each =
      let first = each x (inl refl) in
      let rest = pick xs (λ z among. each z (inr among)) in
      (first.0 ∷ rest.0, (first.1, rest.1))

  pub picks_length : (xs : List X) (ys : List Y) → ArePicks xs ys → length ys ≡ length xs
  picks_length [] [] are = refl
  picks_length [] (y ∷ ys) are = absurd are
  picks_length (x ∷ xs) [] are = absurd are
  picks_length (x ∷ xs) (y ∷ ys) are = ap suc (picks_length xs ys are.1)

  pub pick_from : (xs : List X) (ys : List Y) (y : Y) → ArePicks xs ys → Among y ys → (x : X) × Among x xs × Good x y
  pick_from [] [] y are among = absurd among
  pick_from [] (z ∷ ys) y are among = absurd are
  pick_from (x ∷ xs) [] y are among = absurd are
  pick_from (x ∷ xs) (z ∷ ys) y are (inl is) = (x, inl refl, subst (Good x) (sym is) are.0)
  pick_from (x ∷ xs) (z ∷ ys) y are (inr among) =
      let rest = pick_from xs ys y are.1 among in (rest.0, inr rest.1, rest.2)

  pub pick_to : (xs : List X) (ys : List Y) (x : X) → ArePicks xs ys → Among x xs → (y : Y) × Among y ys × Good x y
  pick_to [] ys x are among = absurd among
  pick_to (z ∷ xs) [] x are among = absurd are
  pick_to (z ∷ xs) (y ∷ ys) x are (inl is) = (y, inl refl, subst (λ (w : X). Good w y) (sym is) are.0)
  pick_to (z ∷ xs) (y ∷ ys) x are (inr among) =
      let rest = pick_to xs ys x are.1 among in (rest.0, inr rest.1, rest.2)

  pub pick_at : (xs : List X) (ys : List Y) (i : ℕ) (y : Y) → ArePicks xs ys → get_elem? ys i ≡ some y
      → (x : X) × (get_elem? xs i ≡ some x) × Good x y
  pick_at xs [] i y are at = cc
  pick_at [] (z ∷ ys) i y are at = absurd are
  pick_at (x ∷ xs) (z ∷ ys) zero y are at = let same : z ≡ y = cc in (x, refl, subst (Good x) same are.0)
  pick_at (x ∷ xs) (z ∷ ys) (suc i) y are at = pick_at xs ys i y are.1 at

module _ {X : Type 0} (Is Has : X → Type 0) (AreOne : X → X → Type 0) (back : (x y : X) → AreOne x y → AreOne y x)
    (on : (x y z : X) → AreOne x y → AreOne y z → AreOne x z) where
  -- y is one of these items, and counts as one with x
  abbrev IsSame : List X → X → X → Type 0
  IsSame items x y = Among y items × AreOne x y

  -- of things that do not count as one a part of a set has no more
  no_more : (a b : ℕ) → ((x : X) → Is x → Has x) → HasClasses Is AreOne a → HasClasses Has AreOne b → a ≤ b
  no_more a b part one other =
      let less = no_longer picks.0 other.items (apart_from picks.0 once) there in
      omega (arith, less, picks_length (IsSame other.items) one.items picks.0 picks.1, one.count, other.count)
    where
      each : (x : X) → Among x one.items → (y : X) × IsSame other.items x y
      each x among = let found = other.each x (part x (one.only x among)) in (found.0, (found.1, found.2))

      picks : (ys : List X) × ArePicks (IsSame other.items) one.items ys
      picks = pick (IsSame other.items) one.items each

      once : IsOnce picks.0
      once i j y here there =
          let p = pick_at (IsSame other.items) one.items picks.0 i y picks.1 here in
          let q = pick_at (IsSame other.items) one.items picks.0 j y picks.1 there in
          one.once i j p.0 q.0 p.1 q.1 (on p.0 y q.0 p.2.1 (back q.0 y q.2.1))

      there : (y : X) → Among y picks.0 → Among y other.items
      there y among = (pick_from (IsSame other.items) one.items picks.0 y picks.1 among).2.0

module _ {X : Type 0} (Is Has : X → Type 0) (AreOne : X → X → Type 0) (back : (x y : X) → AreOne x y → AreOne y x)
    (on : (x y z : X) → AreOne x y → AreOne y z → AreOne x z) where
  -- equal sets have as many things that do not count as one
  pub one_classes : (a b : ℕ) → ((x : X) → Is x ↔ Has x) → HasClasses Is AreOne a → HasClasses Has AreOne b → a ≡ b
  one_classes a b same one other =
      omega (
        arith,
        no_more Is Has AreOne back on a b (λ x. (same x).0) one other,
        no_more Has Is AreOne back on b a (λ x. (same x).1) other one,
      )
