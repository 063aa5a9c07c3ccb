-- The callers of states, as the states are gone through.
use Rattle.std.proofs.Common.{◌≡◌, ℕ, zero, suc, ◌+◌, ◌<◌, ◌≤◌, List, [], ◌∷◌, ◌++◌, length, replicate, take, Bool, true, false, cond, ◌==◌, Option, Some, None, refl, sym, ◌∙◌, ap, arith, get_or}
use Rattle.std.proofs.Math.ListN.{set}
use Rattle.std.specs.List.{cons_option}
use Rattle.std.proofs.lemmas.Bool.Decides.{nat_tests}
use Rattle.std.proofs.lemmas.List.{same_lists, append-nil, length-replicate, take_more, set-set}
use Rattle.std.proofs.lemmas.List.Elements.{filter_map-append}
use Rattle.std.proofs.lemmas.List.FromFn.{length-map-range_with_len, get_or-map-range_with_len}
use Rattle.g4_net.specs.declared.network.State.{State}
use Rattle.g4_net.specs.declared.network.State.TheVariants.{Decision, End, Edge, Call, Predicate, Level, Action, Empty}
use Rattle.g4_layout.specs.Callers.{return_of, returns_of, callers_of}
use Rattle.g4_states.specs.Rules.{with_return}

-- a list more keeps how many there are
length_with_return : (rule back : ℕ) (lists : List (List ℕ)) → length (with_return rule back lists) ≡ length lists
length_with_return rule back [] = refl
length_with_return zero back (l ∷ lists) = refl
length_with_return (suc rule) back (l ∷ lists) = ap suc (length_with_return rule back lists)

-- what the lists are then
get_with_return : (rule back : ℕ) (lists : List (List ℕ)) (k : ℕ) (d : List ℕ) → k < length lists
    → get_or (with_return rule back lists) k d ≡ cond (rule == k) (get_or lists k d ++ back ∷ []) (get_or lists k d)
get_with_return rule back [] k d less = absurd (omega arith)
get_with_return zero back (l ∷ lists) zero d less = refl
get_with_return zero back (l ∷ lists) (suc k) d less = grind (arith, nat_tests)
get_with_return (suc rule) back (l ∷ lists) zero d less = grind (arith, nat_tests)
get_with_return (suc rule) back (l ∷ lists) (suc k) d less = get_with_return rule back lists k d (omega arith) ∙ same
  where
    same : cond (rule == k) (get_or lists k d ++ back ∷ []) (get_or lists k d)
        ≡ cond (suc rule == suc k) (get_or lists k d ++ back ∷ []) (get_or lists k d)
    same = grind (arith, nat_tests)

-- the list of a rule past the last is not there
pub no_return_past : (rule back : ℕ) (lists : List (List ℕ)) → length lists ≤ rule → lists ≡ with_return rule back lists
no_return_past rule back [] low = refl
no_return_past zero back (l ∷ lists) low = absurd (omega arith)
no_return_past (suc rule) back (l ∷ lists) low = ap (λ (more : List (List ℕ)). l ∷ more) (no_return_past rule back lists (omega arith))

-- the list of a rule that is there is written
return_set : (rule back : ℕ) (lists : List (List ℕ)) (d : List ℕ) → rule < length lists
    → set lists rule (get_or lists rule d ++ back ∷ []) ≡ with_return rule back lists
return_set rule back [] d less = absurd (omega arith)
return_set zero back (l ∷ lists) d less = refl
return_set (suc rule) back (l ∷ lists) d less = ap (λ (more : List (List ℕ)). l ∷ more) (return_set rule back lists d (omega arith))

-- no state, no callers
no_callers : (L : Type 0) (count : ℕ) → replicate count [] ≡ callers_of {L = L} [] count
no_callers L count =
    let size : length (replicate count []) ≡ count = length-replicate {A = List ℕ} count [] in
    same_lists (replicate count []) (callers_of {L = L} [] count) (size ∙ sym (length-map-range_with_len (returns_of {L = L} []) 0 count))
    (λ k d less. nothing count k d (omega arith)
    ∙ sym (get_or-map-range_with_len (returns_of {L = L} []) 0 count k k d (omega arith) (omega arith)))
  where
    nothing : (count k : ℕ) (d : List ℕ) → k < count → get_or (replicate count []) k d ≡ []
    nothing zero k d less = absurd (omega arith)
    nothing (suc count) zero d less = refl
    nothing (suc count) (suc k) d less = nothing count k d (omega arith)

-- no state yet, no callers
pub none_yet : {L : Type 0} (states : List (State L)) (count : ℕ) → replicate count [] ≡ callers_of (take 0 states) count
none_yet {L} states count = no_callers L count

module _ {L : Type 0} where
  -- the return states of one state more
  returns_more : (states : List (State L)) (s : State L) (k : ℕ)
      → returns_of (states ++ s ∷ []) k ≡ returns_of states k ++ cons_option (return_of k s) []
  returns_more states s k = filter_map-append (return_of k) states (s ∷ [])

  -- a state that is no call adds nothing
  plain_state : (states : List (State L)) (s : State L) (count : ℕ) → ((k : ℕ) → return_of k s ≡ None)
      → callers_of states count ≡ callers_of (states ++ s ∷ []) count
  plain_state states s count plain =
      same_lists (callers_of states count) (callers_of (states ++ s ∷ []) count)
      (length-map-range_with_len (returns_of states) 0 count ∙ sym (length-map-range_with_len (returns_of (states ++ s ∷ [])) 0 count))
      (λ k d less.
      let below : k < count = omega (arith, length-map-range_with_len (returns_of states) 0 count) in
      get_or-map-range_with_len (returns_of states) 0 count k k d below (omega arith)
      ∙ (same k ∙ sym (get_or-map-range_with_len (returns_of (states ++ s ∷ [])) 0 count k k d below (omega arith))))
    where
      same : (k : ℕ) → returns_of states k ≡ returns_of (states ++ s ∷ []) k
      same k = sym (returns_more states s k ∙ (ap (λ (o : Option ℕ). returns_of states k ++ cons_option o []) (plain k)
          ∙ append-nil (returns_of states k)))

  -- a call adds its return state to those of its rule
  call_state : (states : List (State L)) (rule level back count : ℕ)
      → with_return rule back (callers_of states count) ≡ callers_of (states ++ Call rule level back ∷ []) count
  call_state states rule level back count =
      same_lists (with_return rule back (callers_of states count)) (callers_of all count)
      (length_with_return rule back (callers_of states count)
      ∙ (length-map-range_with_len (returns_of states) 0 count ∙ sym (length-map-range_with_len (returns_of all) 0 count)))
      (λ k d less.
      let size : length (callers_of states count) ≡ count = length-map-range_with_len (returns_of states) 0 count in
      let below : k < count = omega (arith, length_with_return rule back (callers_of states count)) in
      let here : get_or (callers_of states count) k d ≡ returns_of states k =
      get_or-map-range_with_len (returns_of states) 0 count k k d below (omega arith) in
      get_with_return rule back (callers_of states count) k d (omega arith) ∙
      (ap (λ (l : List ℕ). cond (rule == k) (l ++ back ∷ []) l) here
      ∙ (same k ∙ sym (get_or-map-range_with_len (returns_of all) 0 count k k d below (omega arith)))))
    where
      all : List (State L)
      all = states ++ Call rule level back ∷ []

      choose : (b : Bool) (l : List ℕ) → cond b (l ++ back ∷ []) l ≡ l ++ cons_option (cond b (Some back) None) []
      choose true l = refl
      choose false l = sym (append-nil l)

      same : (k : ℕ) → cond (rule == k) (returns_of states k ++ back ∷ []) (returns_of states k) ≡ returns_of all k
      same k = choose (rule == k) (returns_of states k) ∙ sym (returns_more states (Call rule level back) k)

  -- the next state is no call
  pub next_plain : (states : List (State L)) (i : ℕ) (d : State L) (lists : List (List ℕ)) (count : ℕ) → i < length states
      → d ≡ get_or states i d → ((rule level back : ℕ) → d ≡ Call rule level back → ⊥) →
      lists ≡ callers_of (take i states) count → lists ≡ callers_of (take (i + 1) states) count
  next_plain states i d lists count less at plain so_far =
      so_far ∙ (plain_state (take i states) d count (λ k. nowhere k d plain) ∙
      ap (λ (xs : List (State L)). callers_of xs count)
      (ap (λ (x : State L). take i states ++ x ∷ []) at ∙ sym (take_more states i d less)))
    where
      nowhere : (k : ℕ) (s : State L) → ((rule level back : ℕ) → s ≡ Call rule level back → ⊥) → return_of k s ≡ None
      nowhere k (Decision targets) plain = refl
      nowhere k (End ended) plain = refl
      nowhere k (Edge label t) plain = refl
      nowhere k (Call rule level back) plain = absurd (plain rule level back refl)
      nowhere k (Predicate n t) plain = refl
      nowhere k (Level q t) plain = refl
      nowhere k (Action t) plain = refl
      nowhere k (Empty t) plain = refl

  -- the next state is a call
  pub next_call : (states : List (State L)) (i : ℕ) (d : State L) (rule level back : ℕ) (lists new : List (List ℕ)) (count : ℕ)
      → i < length states → d ≡ get_or states i d → d ≡ Call rule level back →
      lists ≡ callers_of (take i states) count → new ≡ with_return rule back lists → new ≡ callers_of (take (i + 1) states) count
  next_call states i d rule level back lists new count less at is so_far added =
      added ∙ (ap (with_return rule back) so_far ∙ (call_state (take i states) rule level back count ∙
      ap (λ (xs : List (State L)). callers_of xs count)
      (ap (λ (x : State L). take i states ++ x ∷ []) (sym is ∙ at) ∙ sym (take_more states i d less))))

-- the list of a rule is taken out and put back with one return state more
pub return_put : (lists : List (List ℕ)) (rule back : ℕ) (taken empty new pushed : List ℕ) → rule < length lists
    → taken ≡ get_or lists rule taken → pushed ≡ taken ++ back ∷ [] → new ≡ pushed →
    set (set lists rule empty) rule new ≡ with_return rule back lists
return_put lists rule back taken empty new pushed less at more is =
    set-set lists rule empty new ∙ (ap (set lists rule) (is ∙ (more ∙ ap (λ (l : List ℕ). l ++ back ∷ []) at))
    ∙ return_set rule back lists taken less)
