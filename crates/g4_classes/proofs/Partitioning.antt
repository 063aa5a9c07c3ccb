-- A partition by the states so far.
use Rattle.std.proofs.Common.{◌≡◌, ℕ, ◌+◌, ◌<◌, ◌≤◌, inl, inr, List, [], ◌∷◌, ◌++◌, length, get_or, replicate, take, sym, ◌∙◌, ap, subst, arith}
use Rattle.std.specs.List.{All}
use Rattle.std.proofs.lemmas.List.{take_all, take_more}
use Rattle.std.proofs.lemmas.List.Elements.{All-replicate, All-same, Contains-append_left, Contains-push, Contains-push_cases}
use Rattle.g4_net.specs.declared.network.State.{State}
use Rattle.g4_classes.specs.Partitions.{AreAlikeIn, AreTogether, Divides, IsPartition, read_by}

-- zeros are less than any number past 0
pub zeros_within : (n m : ℕ) (xs : List ℕ) → xs ≡ replicate n 0 → 0 < m → All (λ x. x < m) xs
zeros_within n m xs is some = All-same (λ x. x < m) xs (replicate n 0) is (All-replicate (λ x. x < m) n 0 some)

module _ (states : List (State (List ℕ))) (state : State (List ℕ)) (i j : ℕ) where
  alike_more : AreAlikeIn states i j → AreTogether (read_by state) i j → AreAlikeIn (states ++ state ∷ []) i j
  alike_more alike together other has = elim (Contains-push_cases states state other has) [
    | inl before ↦ alike other before
    | inr same ↦ subst (λ (s : State (List ℕ)). AreTogether (read_by s) i j) same together
  ]

  alike_before : AreAlikeIn (states ++ state ∷ []) i j → AreAlikeIn states i j
  alike_before alike other has = alike other (Contains-append_left states (state ∷ []) other has)

  together_last : AreAlikeIn (states ++ state ∷ []) i j → AreTogether (read_by state) i j
  together_last alike = alike state (Contains-push states state)

one_more_after : (states : List (State (List ℕ))) (state : State (List ℕ)) (old new : List ℕ) → IsPartition states old
    → Divides (read_by state) old new → IsPartition (states ++ state ∷ []) new
one_more_after states state old new p d i j i_within j_within =
    let count = d.count in
    let i_old : i < length old = omega (arith, i_within, count) in
    let j_old : j < length old = omega (arith, j_within, count) in (
      λ same. (let h = (d.exactly i j i_old j_old).0 same in alike_more states state i j ((p i j i_old j_old).0 h.0) h.1),
      λ alike. (d.exactly i j i_old j_old).1 (
        (p i j i_old j_old).1 (alike_before states state i j alike),
        together_last states state i j alike,
      ),
    )

-- one more of the states
pub one_more_state : (states : List (State (List ℕ))) (k : ℕ) (state : State (List ℕ)) (old new : List ℕ) → k < length states
    → state ≡ get_or states k state → IsPartition (take k states) old → Divides (read_by state) old new
    → IsPartition (take (k + 1) states) new
one_more_state states k state old new within is p d =
    let next : take (k + 1) states ≡ take k states ++ state ∷ [] =
    take_more states k state within ∙ ap (λ (s : State (List ℕ)). take k states ++ s ∷ []) (sym is) in
    subst (λ (xs : List (State (List ℕ))). IsPartition xs new) (sym next) (one_more_after (take k states) state old new p d)

-- all states
pub all_states : (states : List (State (List ℕ))) (n : ℕ) (blocks : List ℕ) → length states ≤ n → IsPartition (take n states) blocks
    → IsPartition states blocks
all_states states n blocks past p = subst (λ (xs : List (State (List ℕ))). IsPartition xs blocks) (take_all n states past) p
