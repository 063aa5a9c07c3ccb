-- Marks of states, as they are set one after another.
use Rattle.std.proofs.Common.{◌≡◌, ℕ, zero, suc, ◌+◌, ◌<◌, ◌⊎◌, inl, inr, List, [], ◌∷◌, ◌++◌, length, get_or, set, Bool, true, false, not, cond, true≢false, Some, None, Option, refl, sym, ◌∙◌, ap, subst, arith, length-set, get_or-set_same, get_or-set_other}
use Rattle.std.specs.List.{Contains, count_by}
use Rattle.std.proofs.lemmas.Bool.{cases_eq}
use Rattle.std.proofs.lemmas.List.Elements.{Contains-append_left, Contains-push, Contains-push_cases}
use Rattle.std.proofs.lemmas.List.Sums.{sum_by-set}
use Rattle.g4_net.specs.declared.network.State.{State}
use Rattle.g4_net.specs.declared.network.State.TheVariants.{Decision, End, Edge, Call, Predicate, Level, Action, Empty}
use Rattle.g4_net.specs.Leads.{IsTarget}
use Rattle.g4_net.specs.Network.{ParserNetwork, state_at, start_of, end_of}
use Rattle.g4_netlist.specs.OfRule.{Follows, IsOfRule, further}
use Rattle.g4_netlist.specs.Searching.{IsFound, IsNew, targets_of, targets_by, IsCovered, Known}
use Rattle.g4_netlist.proofs.Contained.{Contains-cons_cases, Contains-first, Contains-nil, Contains-rest}

-- a state that is marked is one of those that have marks
pub found_within : (found : List Bool) (p : ℕ) → IsFound found p → p < length found
found_within [] p is = absurd (true≢false (sym is))
found_within (b ∷ found) zero is = omega arith
found_within (b ∷ found) (suc p) is = let less : p < length found = found_within found p is in omega (arith, less)

-- a mark is set or not
pub mark_cases : (b : Bool) → (b ≡ true) ⊎ (b ≡ false)
mark_cases true = inl refl
mark_cases false = inr refl

-- a state that is not new is marked
pub found_if_not_new : (found : List Bool) (p : ℕ) → (IsNew found p → ⊥) → p < length found → IsFound found p
found_if_not_new found p not_new within = elim (mark_cases (get_or found p false))
    [ inl is ↦ is | inr unset ↦ absurd (not_new (within, unset)) ]

-- one more mark
pub marks_more : (found : List Bool) (x : ℕ) → IsNew found x → count_by not (set found x true) + 1 ≡ count_by not found
marks_more found x (within, unset) =
    let sums : count_by not (set found x true) + cond (not (get_or found x false)) 1 0 ≡ count_by not found + 0 =
    sum_by-set (λ (b : Bool). cond (not b) 1 0) found x true false within in
    let was : ◌≡◌ {A = ℕ} (cond (not (get_or found x false)) 1 0) 1 = ap (λ (b : Bool). cond (not b) 1 0) unset in
    omega (arith, sums, was)

-- what is marked stays marked
pub found_still : (found : List Bool) (x p : ℕ) → x < length found → IsFound found p → IsFound (set found x true) p
found_still found x p within is = elim (cases_eq p x) [
  | inl same ↦ subst (λ (y : ℕ). IsFound (set found x true) y) (sym same) (get_or-set_same found x true false within)
  | inr other ↦ get_or-set_other found x p true false other ∙ is
]

-- what is marked then is the new state or was marked before
pub found_then : (found : List Bool) (x p : ℕ) → IsFound (set found x true) p → (p ≡ x) ⊎ IsFound found p
found_then found x p is = elim (cases_eq p x) [
  | inl same ↦ inl same
  | inr other ↦ inr (sym (get_or-set_other found x p true false other) ∙ is)
]

-- the edges of a state lead to its targets
target_in : (s : State (List ℕ)) (q : ℕ) → IsTarget s q → Contains (targets_of s) q
target_in (Decision targets) q t = t
target_in (End rule) q t = absurd t
target_in (Edge set u) q t = Contains-first u [] q (sym t)
target_in (Call rule level back) q t = Contains-first back [] q (sym t)
target_in (Predicate k u) q t = Contains-first u [] q (sym t)
target_in (Level k u) q t = Contains-first u [] q (sym t)
target_in (Action u) q t = Contains-first u [] q (sym t)
target_in (Empty u) q t = Contains-first u [] q (sym t)

only_one : (u q : ℕ) → Contains (u ∷ []) q → q ≡ u
only_one u q has = elim (Contains-cons_cases u [] q has) [ inl is ↦ sym is | inr none ↦ absurd (Contains-nil q none) ]

target_from : (s : State (List ℕ)) (q : ℕ) → Contains (targets_of s) q → IsTarget s q
target_from (Decision targets) q has = has
target_from (End rule) q has = absurd (Contains-nil q has)
target_from (Edge set u) q has = only_one u q has
target_from (Call rule level back) q has = only_one back q has
target_from (Predicate k u) q has = only_one u q has
target_from (Level k u) q has = only_one u q has
target_from (Action u) q has = only_one u q has
target_from (Empty u) q has = only_one u q has

-- what follows from a state is among its targets
follows_in : (net : ParserNetwork) (p q : ℕ) → Follows net p q → Contains (targets_by (state_at net p)) q
follows_in net p q (s, at, t) = subst (λ (o : Option (State (List ℕ))). Contains (targets_by o) q) (sym at) (target_in s q t)

-- and the targets follow from it
follows_from : (net : ParserNetwork) (p q : ℕ) → Contains (targets_by (state_at net p)) q → Follows net p q
follows_from net p q has = by_state (state_at net p) refl has
  where
    by_state : (o : Option (State (List ℕ))) → state_at net p ≡ o → Contains (targets_by o) q → Follows net p q
    by_state None is has' = absurd (Contains-nil q has')
    by_state (Some s) is has' = (s, is, target_from s q has')

module _ (net : ParserNetwork) (rule : ℕ) where
  -- a state that is marked already, or past the last one, is passed over
  covered_passed : (x : ℕ) (left : List ℕ) (found : List Bool) (q : ℕ) → (IsNew found x → ⊥) → q < length found
      → IsCovered (x ∷ left) found q → IsCovered left found q
  covered_passed x left found q not_new within (inl is) = inl is
  covered_passed x left found q not_new within (inr has) = elim (Contains-cons_cases x left q has) [
    | inl same ↦ inl (found_if_not_new found q (λ new. not_new (subst (IsNew found) (sym same) new)) within)
    | inr later ↦ inr later
  ]

  pub passed_over : (x : ℕ) (left : List ℕ) (found : List Bool) (waiting : List ℕ) → (IsNew found x → ⊥)
      → Known net rule (x ∷ left) found waiting → Known net rule left found waiting
  passed_over x left found waiting not_new k = record {
    count = k.count;
    sound = k.sound;
    left_sound = λ p has. k.left_sound p (Contains-rest x left p has);
    are_found = k.are_found;
    start = λ within. covered_passed x left found (start_of rule) not_new within (k.start within);
    end = λ within. covered_passed x left found (end_of rule) not_new within (k.end within);
    followed = λ p q is follows within. elim (k.followed p q is follows within) [
      | inl waits ↦ inl waits
      | inr covered ↦ inr (covered_passed x left found q not_new within covered)
    ];
  }

  -- a new state is marked and waits
  pub newly_marked : (x : ℕ) (left : List ℕ) (found : List Bool) (waiting : List ℕ) → IsNew found x
      → Known net rule (x ∷ left) found waiting → Known net rule left (set found x true) (waiting ++ x ∷ [])
  newly_marked x left found waiting (inside, unset) k = record {
    count = length-set found x true ∙ k.count;
    sound = λ p is. elim (found_then found x p is) [
      | inl same ↦ subst (IsOfRule net rule) (sym same) (k.left_sound x (Contains-first x left x refl))
      | inr before ↦ k.sound p before
    ];
    left_sound = λ p has. k.left_sound p (Contains-rest x left p has);
    are_found = λ p has. elim (Contains-push_cases waiting x p has) [
      | inl before ↦ found_still found x p inside (k.are_found p before)
      | inr same ↦ subst (IsFound (set found x true)) same (get_or-set_same found x true false inside)
    ];
    start = λ within. covered_then (start_of rule) (k.start (omega (arith, within, long)));
    end = λ within. covered_then (end_of rule) (k.end (omega (arith, within, long)));
    followed = λ p q is follows within. elim (found_then found x p is) [
      | inl same ↦ inl (subst (Contains (waiting ++ x ∷ [])) (sym same) (Contains-push waiting x))
      | inr before ↦ elim (k.followed p q before follows (omega (arith, within, long))) [
        | inl waits ↦ inl (Contains-append_left waiting (x ∷ []) p waits)
        | inr covered ↦ inr (covered_then q covered)
      ]
    ];
  }
    where
      long : length (set found x true) ≡ length found
      long = length-set found x true

      covered_then : (q : ℕ) → IsCovered (x ∷ left) found q → IsCovered left (set found x true) q
      covered_then q (inl is) = inl (found_still found x q inside is)
      covered_then q (inr has) = elim (Contains-cons_cases x left q has) [
        | inl same ↦ inl (subst (IsFound (set found x true)) same (get_or-set_same found x true false inside))
        | inr later ↦ inr later
      ]

  -- a state no longer waits: the states that follow from it are left to be marked
  pub taken_up : (x : ℕ) (found : List Bool) (waiting : List ℕ) → Known net rule [] found (waiting ++ x ∷ [])
      → Known net rule (targets_by (state_at net x)) found waiting
  taken_up x found waiting k = record {
    count = k.count;
    sound = k.sound;
    left_sound = λ p has. further x p (k.sound x (k.are_found x (Contains-push waiting x))) (follows_from net x p has);
    are_found = λ p has. k.are_found p (Contains-append_left waiting (x ∷ []) p has);
    start = λ within. covered_more (start_of rule) (k.start within);
    end = λ within. covered_more (end_of rule) (k.end within);
    followed = λ p q is follows within. elim (k.followed p q is follows within) [
      | inl waits ↦ elim (Contains-push_cases waiting x p waits) [
        | inl still ↦ inl still
        | inr same ↦ inr (inr (subst (λ (y : ℕ). Contains (targets_by (state_at net y)) q) (sym same) (follows_in net p q follows)))
      ]
      | inr covered ↦ inr (covered_more q covered)
    ];
  }
    where
      covered_more : (q : ℕ) → IsCovered [] found q → IsCovered (targets_by (state_at net x)) found q
      covered_more q (inl is) = inl is
      covered_more q (inr none) = absurd (Contains-nil q none)
