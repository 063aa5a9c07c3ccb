-- What is known at first, and what is known when no number is ready any more.
use Rattle.std.proofs.Common.{◌≡◌, ℕ, ◌<◌, inl, inr, List, [], length, Bool, true, Some, Vec, refl, sym, subst, arith}
use Rattle.std.specs.Global.{Global}
use Rattle.std.specs.List.{slice_get, All, Contains}
use Rattle.std.proofs.lemmas.List.Elements.{All-nil, All-contains}
use Rattle.std.proofs.lemmas.Option.{slice_get_within, slice_get_read}
use Rattle.g4_horn.specs.declared.clause.Clause.{Clause}
use Rattle.g4_horn.specs.declared.chaining.Wait.{Wait}
use Rattle.g4_horn.specs.Follows.{Follows, AllFollow, by_clause, nothing, one_more, Tells}
use Rattle.g4_horn.specs.Chaining.{Says, IsWait, IsAmong, NoneWaitsFor, HasCome, in_hand, concluded, blocked, waits, Known}
use Rattle.g4_horn.proofs.Lists.{Contains-cons_cases, Contains-nil, Contains-from_slice_get}

-- at first no number is known to follow, and all clauses are to be looked at
pub at_first : (clauses : List Clause) (count : ℕ) (left : List Wait) (follows : List Bool) (waiting : List (Vec Wait Global))
    (ready : List ℕ) → length follows ≡ count → ((number : ℕ) → Says follows number → ⊥) → length waiting ≡ count
    → All (λ ws. ws.items ≡ []) waiting → ready ≡ [] →
    All (IsWait clauses) left → ((k : ℕ) → k < length clauses → IsAmong left k) → Known clauses count left follows waiting ready
at_first clauses count left follows waiting ready follows_count none_said waiting_count none_waits none_ready are_waits each = record {
  follows_count = follows_count;
  waiting_count = waiting_count;
  sound = λ number said. absurd (none_said number said);
  are_ready = subst (All (Says follows)) (sym none_ready) (All-nil (Says follows));
  left_waits = are_waits;
  other_waits = λ number ws at. subst (All (IsWait clauses))
      (sym (All-contains (λ (v : Vec Wait Global). v.items ≡ []) waiting ws none_waits
      (Contains-from_slice_get waiting number ws at))) (All-nil (IsWait clauses));
  empty = λ number said. absurd (none_said number said);
  come = λ index clause at. in_hand (each index (slice_get_within clauses index clause at));
}

module _ (clauses : List Clause) (count : ℕ) (follows : List Bool) (waiting : List (Vec Wait Global))
    (known : Known clauses count [] follows waiting []) where
  -- no clause waits for a number that is known to follow
  none_waits : (number : ℕ) → Says follows number → NoneWaitsFor waiting number
  none_waits number said = elim (known.empty number said) [ inl ready ↦ absurd (Contains-nil number ready) | inr none ↦ none ]

  -- where all needs of a clause are known to follow, its head is
  head_said : (index : ℕ) (clause : Clause) → ((need : ℕ) → Contains clause.needs.items need → Says follows need)
      → HasCome count [] follows waiting index clause → Says follows clause.head
  head_said index clause needs (in_hand (w, among, is)) = absurd (Contains-nil w among)
  head_said index clause needs (concluded said) = said
  head_said index clause needs (blocked need has past) =
      absurd (omega (arith, past, slice_get_within follows need true (needs need has), known.follows_count))
  head_said index clause needs (waits need has (ws, at, (w, among, is))) =
      absurd (Contains-nil w (subst (λ (v : List Wait). Contains v w) (none_waits need (needs need has) ws at) among))

  mutual
    -- a number that follows is known to
    said : {number : ℕ} → Follows clauses number → Says follows number
    said (by_clause number clause (k, within, is) head needs) =
        let at : slice_get clauses k ≡ Some clause = slice_get_read clauses (length clauses) k clause refl within (sym is) in
        subst (Says follows) head (head_said k clause (λ need has. all_said needs need has) (known.come k clause at))

    all_said : {numbers : List ℕ} → AllFollow clauses numbers → (need : ℕ) → Contains numbers need → Says follows need
    all_said nothing need has = absurd (Contains-nil need has)
    all_said (one_more number numbers this rest) need has = elim (Contains-cons_cases number numbers need has) [
      | inl same ↦ subst (Says follows) same (said this)
      | inr other ↦ all_said rest need other
    ]

  -- at last exactly the numbers that follow are known to
  pub at_last : Tells follows (Follows clauses)
  at_last number = (known.sound number, λ h. said h)
