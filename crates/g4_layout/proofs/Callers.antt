-- The callers of a network are the return states of its calls.
use Rattle.std.proofs.Common.{◌≡◌, ◌↔◌, ℕ, zero, suc, ◌⊎◌, inl, inr, List, [], ◌∷◌, length, Bool, true, false, cond, ◌==◌, Option, Some, None, refl, sym, ◌∙◌, ap, subst, arith, slice_get, Contains}
use Rattle.std.specs.List.{cons_option}
use Rattle.std.proofs.lemmas.Bool.Decides.{nat_tests}
use Rattle.std.proofs.lemmas.List.FromFn.{length-map-range_with_len, get_or-map-range_with_len}
use Rattle.std.proofs.lemmas.Option.{get_or_from_slice_get, slice_get_within}
use Rattle.g4_net.specs.declared.network.Network.{Network}
use Rattle.g4_net.specs.declared.network.State.{State}
use Rattle.g4_net.specs.declared.network.State.TheVariants.{Decision, End, Edge, Call, Predicate, Level, Action, Empty}
use Rattle.g4_net.specs.Network.{IsReturn}
use Rattle.g4_layout.specs.Callers.{return_of, returns_of, callers_of}
use Rattle.g4_layout.proofs.Spans.{member_cases}

-- a member of a list is one of it with what may come first
after_first : (o : Option ℕ) (more : List ℕ) (t : ℕ) → Contains more t → Contains (cons_option o more) t
after_first None more t h = h
after_first (Some back) more t h = (suc h.0, omega (arith, h.1), h.2)

-- a rule's number is its own
own_test : (b : Bool) (rule t : ℕ) (more : List ℕ) → (rule == rule) ≡ b → Contains (cons_option (cond b (Some t) None) more) t
own_test true rule t more e = (0, omega arith, refl)
own_test false rule t more e = absurd (grind (arith, nat_tests))

-- what one test leaves
tested : (b : Bool) (called back rule t : ℕ) (more : List ℕ) → (called == rule) ≡ b
    → Contains (cons_option (cond b (Some back) None) more) t →
    ((called ≡ rule) × (back ≡ t)) ⊎ Contains more t
tested true called back rule t more e h = elim (member_cases back more t h)
    [ inl same ↦ inl (grind (arith, nat_tests), sym same) | inr old ↦ inr old ]
tested false called back rule t more e h = inr h

module _ {L : Type 0} where
  -- a call of the rule
  same_call : (s : State L) (called level back rule t : ℕ) → s ≡ Call called level back → called ≡ rule → back ≡ t → s ≡ Call rule level t
  same_call s called level back rule t is e f = cc

  -- a return state is that of the state, or of those after it
  first_or_more : (s : State L) (rule t : ℕ) (more : List ℕ) → Contains (cons_option (return_of rule s) more) t
      → ((k : ℕ) × (s ≡ Call rule k t)) ⊎ Contains more t
  first_or_more (Decision targets) rule t more h = inr h
  first_or_more (End ended) rule t more h = inr h
  first_or_more (Edge label u) rule t more h = inr h
  first_or_more (Call called level back) rule t more h = elim (tested (called == rule) called back rule t more refl h) [
    | inl same ↦ inl (level, same_call (Call called level back) called level back rule t refl same.0 same.1)
    | inr old ↦ inr old
  ]
  first_or_more (Predicate k u) rule t more h = inr h
  first_or_more (Level q u) rule t more h = inr h
  first_or_more (Action u) rule t more h = inr h
  first_or_more (Empty u) rule t more h = inr h

  -- each return state is that of a call
  pub calls_of_returns : (states : List (State L)) (rule t : ℕ) → Contains (returns_of states rule) t
      → (q level : ℕ) × (slice_get states q ≡ Some (Call rule level t))
  calls_of_returns [] rule t h = absurd (omega (arith, h.1))
  calls_of_returns (s ∷ states) rule t h = elim (first_or_more s rule t (returns_of states rule) h) [
    | inl is ↦ (0, is.0, ap Some is.1)
    | inr old ↦ (let r = calls_of_returns states rule t old in (suc r.0, r.1, r.2))
  ]

  -- and each call's is one
  pub returns_of_calls : (states : List (State L)) (rule t q level : ℕ) → slice_get states q ≡ Some (Call rule level t)
      → Contains (returns_of states rule) t
  returns_of_calls [] rule t q level is = absurd (let n : ⊥ = cc in n)
  returns_of_calls (s ∷ states) rule t zero level is =
      let same : Call rule level t ≡ s = cc in
      subst (λ (x : State L). Contains (cons_option (return_of rule x) (returns_of states rule)) t) same
      (own_test (rule == rule) rule t (returns_of states rule) refl)
  returns_of_calls (s ∷ states) rule t (suc q) level is =
      after_first (return_of rule s) (returns_of states rule) t (returns_of_calls states rule t q level is)

  -- there is a list of callers for each rule
  pub callers_length : (states : List (State L)) (count : ℕ) → length (callers_of states count) ≡ count
  callers_length states count = length-map-range_with_len (returns_of states) 0 count

  -- the list of a rule
  pub callers_at : (states : List (State L)) (count rule : ℕ) (listed : List ℕ)
      → slice_get (callers_of states count) rule ≡ Some listed → listed ≡ returns_of states rule
  callers_at states count rule listed is =
      let size = callers_length states count in
      let within = slice_get_within (callers_of states count) rule listed is in
      sym (get_or_from_slice_get (callers_of states count) rule listed [] is)
      ∙ get_or-map-range_with_len (returns_of states) 0 count rule rule [] (omega arith) (omega arith)

  -- the callers listed of a rule are the return states of its calls
  pub callers_are_returns : (net : Network L) (count rule t : ℕ) (listed : List ℕ)
      → slice_get (callers_of net.states count) rule ≡ Some listed → Contains listed t ↔ IsReturn net rule t
  callers_are_returns net count rule t listed is =
      let same = callers_at net.states count rule listed is in (
        λ h. calls_of_returns net.states rule t (subst (λ (xs : List ℕ). Contains xs t) same h),
        λ h. subst (λ (xs : List ℕ). Contains xs t) (sym same) (returns_of_calls net.states rule t h.0 h.1 h.2),
      )
