-- The states of workers at their beginning.
use Rattle.std.proofs.Common.{◌≡◌, ◌⊎◌, inl, inr, ℕ, zero, suc, ◌+◌, List, [], ◌∷◌, ◌++◌, Some, length, map, slice_get, refl, sym, ◌∙◌, ap, subst, arith, length-append}
use Rattle.g4_decide.specs.Asked.{Told}
use Rattle.g4_learned.specs.Tables.{Tables}
use Rattle.g4_store.specs.declared.automaton.Plan.{Plan}
use Rattle.g4_pool.specs.Done.{HasDone}
use Rattle.g4_pool.specs.Files.{Files, copy_of, first_copies, first_pass}
use Rattle.g4_pool.proofs.Done.{none_done}

-- what is read among items and one more
read_more : {X : Type 0} (xs : List X) (x y : X) (i : ℕ) → slice_get (xs ++ x ∷ []) i ≡ Some y
    → (slice_get xs i ≡ Some y) ⊎ ((i ≡ length xs) × (x ≡ y))
read_more [] x y zero at = inr (refl, cc)
read_more [] x y (suc i) at = cc
read_more (z ∷ zs) x y zero at = inl at
read_more (z ∷ zs) x y (suc i) at = elim (read_more zs x y i at) [ inl h ↦ inl h | inr h ↦ inr (ap suc h.0, h.1) ]

read_map : {X Y : Type 0} (f : X → Y) (xs : List X) (i : ℕ) (x : X) → slice_get xs i ≡ Some x → slice_get (map f xs) i ≡ Some (f x)
read_map f [] i x at = cc
read_map f (z ∷ zs) zero x at = let same : z ≡ x = cc in ap (λ y. Some (f y)) same
read_map f (z ∷ zs) (suc i) x at = read_map f zs i x at

-- the copies have the numbers from 1 on
length_copies : (n : ℕ) → length (first_copies n) ≡ n
length_copies zero = refl
length_copies (suc n) = omega (arith, length-append (first_copies n) (copy_of (suc n) ∷ []), length_copies n)

copy_at : (n i : ℕ) (t : Told) → slice_get (first_copies n) i ≡ Some t → t ≡ copy_of (suc i)
copy_at zero i t at = cc
copy_at (suc n) i t at = elim (read_more (first_copies n) (copy_of (suc n)) t i at) [
  | inl before ↦ copy_at n i t before
  | inr last ↦ sym last.1 ∙ ap (λ (k : ℕ). copy_of (suc k)) (sym (last.0 ∙ length_copies n))
]

module _ (p : Plan Tables) (files : Files) (jobs : ℕ) where
  pub own_begun : (pass : Told) → pass ≡ first_pass (jobs + 1) → HasDone p files jobs (0 ∷ []) [] pass
  own_begun pass is = subst (HasDone p files jobs (0 ∷ []) []) (sym is) (none_done p files jobs 0 (jobs + 1) (λ _. refl))

  pub each_begun : {X : Type 0} (pass_of : X → Told) (states : List X) → map pass_of states ≡ first_copies jobs
      → (i : ℕ) (state : X) → slice_get states i ≡ Some state → HasDone p files jobs (suc i ∷ []) [] (pass_of state)
  each_begun pass_of states copies i state at =
      let there = subst (λ (ts : List Told). slice_get ts i ≡ Some (pass_of state)) copies (read_map pass_of states i state at) in
      subst (HasDone p files jobs (suc i ∷ []) []) (sym (copy_at jobs i (pass_of state) there))
      (none_done p files jobs (suc i) 0 (λ none. absurd (omega (arith, none))))
