-- Each group is like the first one exactly where all groups are alike.
use Rattle.std.proofs.Common.{◌≡◌, ◌<◌, ℕ, ◌↔◌, inl, inr, cond, Bool, true, false, true≢false, IsTrue, List, [], ◌∷◌, Some, All, Contains, filter, nat_eq, length, get_or, slice_get, refl, sym, ◌∙◌, ap, arith}
use Rattle.std.proofs.lemmas.Bool.{MatchBool-at_true, eq-eqb}
use Rattle.std.proofs.lemmas.List.Elements.{All-contains, All-contains_itself, All-filter}
use Rattle.std.proofs.lemmas.Iterator.Search.{true_from_All}
use Rattle.std.specs.Bool.{MatchBool}
use Rattle.std.specs.List.{AllWithin, HoldsAt}
use Rattle.g4_net.proofs.Pigeons.{In, In-from, In-to}
use Rattle.g4_configs.specs.declared.group.Group.{Group}
use Rattle.g4_configs.specs.Groups.{Entries, node_at}
use Rattle.g4_configs.proofs.Listing.{place_in}
use Rattle.g4_configs.specs.Verdicts.{AreAlike, HasAlternative, IsLike}

-- what `all` answers of a test of P
pub all_answer : {X : Type 0} (P : X → Type 0) (r : Bool) (xs : List X)
    → MatchBool r (AllWithin P xs 0 (length xs)) ((k : ℕ) × (k < length xs) × HoldsAt (λ (x : X). P x → ⊥) xs k) → IsTrue r ↔ All P xs
all_answer P r xs cases = (
  (λ t k d lt. (MatchBool-at_true _ _ t cases) k d (omega arith) lt),
  (λ all. true_from_All P (λ x. P x → ⊥) r xs (λ x p n. n p) cases all),
)

-- an item at a place is a member
pub member_at : {X : Type 0} (xs : List X) (i : ℕ) (x : X) → slice_get xs i ≡ Some x → Contains xs x
member_at xs i x at = In-to xs x (place_in x xs i at)

-- the groups of the first one's state
abbrev pub first_block : Group → List Group → List Group
first_block first xs = filter (λ (x : Group). nat_eq x.state first.state) xs

module _ {X : Type 0} (test : X → Bool) where
  -- an item that passes stays
  stays : (x : X) (xs : List X) → In x xs → test x ≡ true → In x (filter test xs)
  stays x [] h t = absurd h
  stays x (y ∷ ys) h t = by (test y) refl h (λ i. stays x ys i t)
    where
      by : (b : Bool) → test y ≡ b → In x (y ∷ ys) → (In x ys → In x (filter test ys)) → In x (cond b (y ∷ filter test ys) (filter test ys))
      by true e (inl is) more = inl is
      by true e (inr i) more = inr (more i)
      by false e (inl is) more = absurd (true≢false (sym t ∙ ap test is ∙ e))
      by false e (inr i) more = more i

-- what holds of each member holds of all
pub each_all : {X : Type 0} (P : X → Type 0) (xs : List X) → ((x : X) → Contains xs x → P x) → All P xs
each_all P xs each k d lt = each (get_or xs k d) (All-contains_itself xs k d lt)

module _ (m : Entries) (xs : List Group) (entries : (x : Group)
    → Contains xs x ↔ (node_at m (x.state, x.alternative) ≡ Some x.stacks)) (first : Group) (there : Contains xs first) where
  abbrev made : ℕ → ℕ → ℕ → Group
  made p i n = record { state = p; alternative = i; stacks = n }

  in_block : (x : Group) → Contains xs x → x.state ≡ first.state → Contains (first_block first xs) x
  in_block x (k, lt, e) same = In-to (first_block first xs) x
      (stays (λ (y : Group). nat_eq y.state first.state) x xs (In-from xs x k lt e) (eq-eqb x.state first.state same))

  from_like : All (IsLike m first (first_block first xs)) xs → AreAlike m xs
  from_like like x y in_x in_y =
      let a = (All-contains (IsLike m first (first_block first xs)) xs x like in_x).there in
      let b = (All-contains (IsLike m first (first_block first xs)) xs y like in_y).here in
      let head = made y.state first.alternative y.stacks in
      let l = All-contains (IsLike m first (first_block first xs)) xs head like ((entries head).1 b) in
      let other = made first.state x.alternative first.stacks in
      All-contains (HasAlternative m y.state y.stacks) (first_block first xs) other (l.each refl)
      (in_block other ((entries other).1 a) refl)

  to_like : AreAlike m xs → All (IsLike m first (first_block first xs)) xs
  to_like alike = each_all (IsLike m first (first_block first xs)) xs (λ x in_x. record {
    here = alike first x there in_x;
    there = alike x first in_x there;
    each = λ e. All-filter (λ (y : Group). nat_eq y.state first.state) (HasAlternative m x.state x.stacks) xs
        (each_all (HasAlternative m x.state x.stacks) xs (λ y in_y. alike y x in_y in_x));
  })

  pub like_exact : All (IsLike m first (first_block first xs)) xs ↔ AreAlike m xs
  like_exact = (from_like, to_like)
