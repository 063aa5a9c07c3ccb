-- Each step keeps what is known.
use Rattle.std.proofs.Common.{◌≡◌, ℕ, zero, suc, ◌+◌, ◌<◌, ◌≤◌, ◌⊎◌, inl, inr, List, [], ◌∷◌, ◌++◌, length, take, get_or, set, Bool, true, Some, Vec, refl, sym, ap, ◌∙◌, subst, arith}
use Rattle.std.specs.Global.{Global}
use Rattle.std.specs.List.{slice_get, All, Contains}
use Rattle.std.proofs.lemmas.List.{length-set, take_all}
use Rattle.std.proofs.lemmas.List.Elements.{All-nil, All-tail, All-push, All-pop, All-weaker, Contains-push, Contains-append_left, Contains-push_cases}
use Rattle.std.proofs.lemmas.Option.{same_Some, slice_get_within, slice_get-get_or, slice_get_cases}
use Rattle.g4_horn.specs.declared.clause.Clause.{Clause}
use Rattle.g4_horn.specs.declared.chaining.Wait.{Wait}
use Rattle.g4_horn.specs.declared.chaining.Chaining.{Chaining}
use Rattle.g4_horn.specs.Follows.{Follows, AllFollow, by_clause, nothing, one_more}
use Rattle.g4_horn.specs.Chaining.{Says, IsFirstOpen, IsWait, IsAmong, WaitsFor, NoneWaitsFor, HasCome, in_hand, concluded, blocked, waits, Known, IsUnderWay, IsReadied, IsAdded}
use Rattle.g4_horn.proofs.Lists.{Contains-cons_cases, Contains-nil, Contains-from_slice_get, slice_get-set_same, slice_get-set_cases, slice_get-set_old, says_or_not, said_still}

-- each of the first numbers follows if all do
pub each_of_first : (clauses : List Clause) (numbers : List ℕ) (n k number : ℕ) → AllFollow clauses (take n numbers) → k < n
    → slice_get numbers k ≡ Some number → Follows clauses number
each_of_first clauses [] n k number all less at = absurd (cc)
each_of_first clauses (x ∷ numbers) zero k number all less at = absurd (omega (arith, less))
each_of_first clauses (x ∷ numbers) (suc n) zero number (one_more y ys this rest) less at =
    subst (Follows clauses) (same_Some x number at) this
each_of_first clauses (x ∷ numbers) (suc n) (suc k) number (one_more y ys this rest) less at =
    each_of_first clauses numbers n k number rest (omega (arith, less)) at

-- and all do if each does
pub first_of_each : (clauses : List Clause) (numbers : List ℕ) (n : ℕ)
    → ((k number : ℕ) → k < n → slice_get numbers k ≡ Some number → Follows clauses number) → AllFollow clauses (take n numbers)
first_of_each clauses [] zero each = nothing
first_of_each clauses [] (suc n) each = nothing
first_of_each clauses (x ∷ numbers) zero each = nothing
first_of_each clauses (x ∷ numbers) (suc n) each =
    one_more x (take n numbers) (each zero x (omega arith) refl)
    (first_of_each clauses numbers n (λ k number less at. each (suc k) number (omega (arith, less)) at))

-- the clause that is looked at first is this one, or the clause is among the others
first_or_other : (first : Wait) (left : List Wait) (index : ℕ) → IsAmong (first ∷ left) index → (first.clause ≡ index) ⊎ IsAmong left index
first_or_other first left index (wait, among, is) = elim (Contains-cons_cases first left wait among) [
  | inl same ↦ inl (ap (λ (w : Wait). w.clause) same ∙ is)
  | inr other ↦ inr (wait, other, is)
]

module _ (clauses : List Clause) (count : ℕ) (first : Wait) (left : List Wait) (follows : List Bool)
    (waiting : List (Vec Wait Global)) (ready : List ℕ) (clause : Clause) (at : slice_get clauses first.clause ≡ Some clause)
    (known : Known clauses count (first ∷ left) follows waiting ready) where
  -- the needs that are passed follow
  pub passed_more : (from next : ℕ) → AllFollow clauses (take from clause.needs.items)
      → IsFirstOpen follows clause.needs.items from next → AllFollow clauses (take next clause.needs.items)
  passed_more from next passed is = first_of_each clauses clause.needs.items next (λ k number less need.
      let cases : (k < from) ⊎ (from ≤ k) = grind arith in elim cases [
        | inl early ↦ each_of_first clauses clause.needs.items from k number passed early need
        | inr late ↦ known.sound number (is.before k late less number need)
      ])

  -- what a clause has come to, when the first wait is done with
  come_on : (follows' : List Bool) (waiting' : List (Vec Wait Global)) → ((k : ℕ) → Says follows k → Says follows' k)
      → ((index need : ℕ) → WaitsFor waiting index need → WaitsFor waiting' index need)
      → HasCome count left follows' waiting' first.clause clause →
      (index : ℕ) (other : Clause) → slice_get clauses index ≡ Some other → HasCome count left follows' waiting' index other
  come_on follows' waiting' said_on wait_on this index other is = by_cases (known.come index other is)
    where
      by_cases : HasCome count (first ∷ left) follows waiting index other → HasCome count left follows' waiting' index other
      by_cases (in_hand among) = elim (first_or_other first left index among) [
        | inl same ↦
            let one : clause ≡ other = same_Some clause other (sym at ∙ (ap (slice_get clauses) same ∙ is)) in
            subst (λ (i : ℕ). HasCome count left follows' waiting' i other) same
            (subst (HasCome count left follows' waiting' first.clause) one this)
        | inr later ↦ in_hand later
      ]
      by_cases (concluded said) = concluded (said_on other.head said)
      by_cases (blocked need has past) = blocked need has past
      by_cases (waits need has there) = waits need has (wait_on index need there)

  -- the head of the clause is known to follow
  pub head_known : Says follows clause.head → Known clauses count left follows waiting ready
  head_known said = record {
    follows_count = known.follows_count;
    waiting_count = known.waiting_count;
    sound = known.sound;
    are_ready = known.are_ready;
    left_waits = All-tail (IsWait clauses) first left known.left_waits;
    other_waits = known.other_waits;
    empty = known.empty;
    come = come_on follows waiting (λ k h. h) (λ index need h. h) (concluded said);
  }

  -- a need of the clause is past all numbers
  pub need_past : (need : ℕ) → Contains clause.needs.items need → count ≤ need → Known clauses count left follows waiting ready
  need_past need has past = record {
    follows_count = known.follows_count;
    waiting_count = known.waiting_count;
    sound = known.sound;
    are_ready = known.are_ready;
    left_waits = All-tail (IsWait clauses) first left known.left_waits;
    other_waits = known.other_waits;
    empty = known.empty;
    come = come_on follows waiting (λ k h. h) (λ index need h. h) (blocked need has past);
  }

  -- the head of the clause is new among those that follow
  pub head_new : clause.head < count → AllFollow clauses clause.needs.items
      → Known clauses count left (set follows clause.head true) waiting (ready ++ clause.head ∷ [])
  head_new within needs = record {
    follows_count = length-set follows clause.head true ∙ known.follows_count;
    waiting_count = known.waiting_count;
    sound = λ number said. elim (slice_get-set_cases follows clause.head true number true said) [
      | inl new ↦ by_clause number clause (Contains-from_slice_get clauses first.clause clause at) (sym new.0) needs
      | inr old ↦ known.sound number old.1
    ];
    are_ready = All-push (Says (set follows clause.head true)) ready clause.head
        (All-weaker (Says follows) (Says (set follows clause.head true)) (λ k h. said_still follows clause.head k h) ready
        known.are_ready) head_said;
    left_waits = All-tail (IsWait clauses) first left known.left_waits;
    other_waits = known.other_waits;
    empty = λ number said. elim (slice_get-set_cases follows clause.head true number true said) [
      | inl new ↦ inl (subst (Contains (ready ++ clause.head ∷ [])) (sym new.0) (Contains-push ready clause.head))
      | inr old ↦ elim (known.empty number old.1)
          [ inl still ↦ inl (Contains-append_left ready (clause.head ∷ []) number still) | inr none ↦ inr none ]
    ];
    come = come_on (set follows clause.head true) waiting (λ k h. said_still follows clause.head k h) (λ index need h. h)
        (concluded head_said);
  }
    where
      head_said : Says (set follows clause.head true) clause.head
      head_said = slice_get-set_same follows clause.head true (omega (arith, within, known.follows_count))

  -- the clause waits for a need
  pub need_waited : (need : ℕ) (wait : Wait) (old new : Vec Wait Global) → Contains clause.needs.items need → (Says follows need → ⊥)
      → IsWait clauses wait → wait.clause ≡ first.clause → slice_get waiting need ≡ Some old → new.items ≡ old.items ++ wait ∷ [] →
      Known clauses count left follows (set waiting need new) ready
  need_waited need wait old new has open_there is same was more = record {
    follows_count = known.follows_count;
    waiting_count = length-set waiting need new ∙ known.waiting_count;
    sound = known.sound;
    are_ready = known.are_ready;
    left_waits = All-tail (IsWait clauses) first left known.left_waits;
    other_waits = λ number some there. elim (slice_get-set_cases waiting need new number some there) [
      | inl one ↦ subst (λ (ws : Vec Wait Global). All (IsWait clauses) ws.items) one.1
          (subst (All (IsWait clauses)) (sym more) (All-push (IsWait clauses) old.items wait (known.other_waits need old was) is))
      | inr other ↦ known.other_waits number some other.1
    ];
    empty = λ number said. elim (known.empty number said) [
      | inl still ↦ inl still
      | inr none ↦ inr (λ some there. elim (slice_get-set_cases waiting need new number some there) [
        | inl one ↦ absurd (open_there (subst (Says follows) one.0 said))
        | inr other ↦ none some other.1
      ])
    ];
    come = come_on follows (set waiting need new) (λ k h. h) wait_on
        (waits need has (
          new,
          slice_get-set_same waiting need new (slice_get_within waiting need old was),
          (wait, subst (λ (ws : List Wait). Contains ws wait) (sym more) (Contains-push old.items wait), same),
        ));
  }
    where
      wait_on : (index other : ℕ) → WaitsFor waiting index other → WaitsFor (set waiting need new) index other
      wait_on index other (some, there, (w, among, at_index)) = elim (slice_get-set_old waiting need new other some there) [
        | inl one ↦
            let equal : old ≡ some = same_Some old some (sym was ∙ (ap (slice_get waiting) (sym one.0) ∙ there)) in (
              new,
              one.1,
              (
                w,
                subst (λ (ws : List Wait). Contains ws w) (sym more)
                    (Contains-append_left old.items (wait ∷ []) w
                    (subst (λ (ws : Vec Wait Global). Contains ws.items w) (sym equal) among)),
                at_index,
              ),
            )
        | inr still ↦ (some, still, (w, among, at_index))
      ]

-- the clauses that wait for a number that follows are looked at
pub waits_taken : (clauses : List Clause) (count : ℕ) (follows : List Bool) (waiting : List (Vec Wait Global)) (rest : List ℕ)
    (number : ℕ) (some none : Vec Wait Global) → Known clauses count [] follows waiting (rest ++ number ∷ [])
    → slice_get waiting number ≡ Some some → none.items ≡ [] →
    Known clauses count some.items follows (set waiting number none) rest
waits_taken clauses count follows waiting rest number some none known there no_items = record {
  follows_count = known.follows_count;
  waiting_count = length-set waiting number none ∙ known.waiting_count;
  sound = known.sound;
  are_ready = (All-pop (Says follows) (rest ++ number ∷ []) rest (Some number) refl known.are_ready).0;
  left_waits = known.other_waits number some there;
  other_waits = λ other ws at. elim (slice_get-set_cases waiting number none other ws at) [
    | inl one ↦ subst (λ (v : Vec Wait Global). All (IsWait clauses) v.items) one.1
        (subst (All (IsWait clauses)) (sym no_items) (All-nil (IsWait clauses)))
    | inr old ↦ known.other_waits other ws old.1
  ];
  empty = λ other said. elim (known.empty other said) [
    | inl ready ↦ elim (Contains-push_cases rest number other ready) [ inl still ↦ inl still | inr same ↦ inr (none_there other same) ]
    | inr nobody ↦ inr (none_kept other nobody)
  ];
  come = λ index clause is. by_cases index clause (known.come index clause is);
}
  where
    none_there : (other : ℕ) → number ≡ other → NoneWaitsFor (set waiting number none) other
    none_there other same ws at = elim (slice_get-set_cases waiting number none other ws at) [
      | inl one ↦ ap (λ (v : Vec Wait Global). v.items) (sym one.1) ∙ no_items
      | inr old ↦ absurd (old.0 (sym same))
    ]

    none_kept : (other : ℕ) → NoneWaitsFor waiting other → NoneWaitsFor (set waiting number none) other
    none_kept other nobody ws at = elim (slice_get-set_cases waiting number none other ws at) [
      | inl one ↦ ap (λ (v : Vec Wait Global). v.items) (sym one.1) ∙ no_items
      | inr old ↦ nobody ws old.1
    ]

    by_cases : (index : ℕ) (clause : Clause) → HasCome count [] follows waiting index clause
        → HasCome count some.items follows (set waiting number none) index clause
    by_cases index clause (in_hand (w, among, at)) = absurd (Contains-nil w among)
    by_cases index clause (concluded said) = concluded said
    by_cases index clause (blocked need has past) = blocked need has past
    by_cases index clause (waits need has (ws, at, among)) = elim (slice_get-set_old waiting number none need ws at) [
      | inl one ↦
          let equal : ws ≡ some = same_Some ws some (sym at ∙ (ap (slice_get waiting) one.0 ∙ there)) in
          in_hand (subst (λ (v : Vec Wait Global). IsAmong v.items index) equal among)
      | inr still ↦ waits need has (ws, still, among)
    ]

module _ (clauses : List Clause) (count : ℕ) (first : Wait) (left : List Wait) (clause : Clause) (needs : List ℕ)
    (is_wait : IsWait clauses first) (found : slice_get clauses first.clause ≡ Some clause) (whole : needs ≡ clause.needs.items) where
  -- the needs before the index where the search stopped follow
  passed_on : (follows : List Bool) (waiting : List (Vec Wait Global)) (ready : List ℕ) (next : ℕ)
      → Known clauses count (first ∷ left) follows waiting ready → IsFirstOpen follows needs first.next next
      → AllFollow clauses (take next clause.needs.items)
  passed_on follows waiting ready next known is =
      let same : is_wait.clause ≡ clause = same_Some is_wait.clause clause (sym is_wait.at ∙ found) in
      passed_more clauses count first left follows waiting ready clause found known first.next next
      (subst (λ (c : Clause). AllFollow clauses (take first.next c.needs.items)) same is_wait.passed)
      (subst (λ (ns : List ℕ). IsFirstOpen follows ns first.next next) whole is)

  -- the clause has a need that does not follow yet
  pub open_need : (before after : Chaining) (next : ℕ) → IsFirstOpen before.follows.items needs first.next next → next < length needs →
      (length before.waiting.items ≤ get_or needs next 0 → after ≡ before)
      → (get_or needs next 0 < length before.waiting.items
      → IsAdded before (get_or needs next 0) (record { clause = first.clause; next = next }) after) →
      IsUnderWay clauses count (first ∷ left) before → IsUnderWay clauses count left after
  open_need before after next is less past added known =
      elim (let cases : (length before.waiting.items ≤ need) ⊎ (need < length before.waiting.items) = grind arith in cases) [
        | inl out ↦ subst (λ (c : Chaining). IsUnderWay clauses count left c) (sym (past out))
            (need_past clauses count first left before.follows.items before.waiting.items before.ready.items clause found known need has
            (omega (arith, out, known.waiting_count)))
        | inr inside ↦ waited (added inside)
      ]
    where
      need : ℕ
      need = get_or needs next 0

      at : slice_get needs next ≡ Some need
      at = slice_get-get_or needs next 0 less

      has : Contains clause.needs.items need
      has = subst (λ (ns : List ℕ). Contains ns need) whole (Contains-from_slice_get needs next need at)

      wait : Wait
      wait = record { clause = first.clause; next = next }

      is_next : IsWait clauses wait
      is_next = record {
        clause = clause;
        at = found;
        within = subst (λ (ns : List ℕ). next ≤ length ns) whole (omega (arith, less));
        passed = passed_on before.follows.items before.waiting.items before.ready.items next known is;
      }

      waited : IsAdded before need wait after → IsUnderWay clauses count left after
      waited a =
          let made : Known clauses count left before.follows.items (set before.waiting.items need a.new) before.ready.items =
          need_waited clauses count first left before.follows.items before.waiting.items before.ready.items clause found known need
          wait a.old a.new has (is.open_there need at) is_next refl a.was a.more in
          subst (λ (fs : List Bool). Known clauses count left fs after.waiting.items after.ready.items) (sym a.follows)
          (subst (λ (ws : List (Vec Wait Global)). Known clauses count left before.follows.items ws after.ready.items) (sym a.waiting)
          (subst (λ (rs : List ℕ). Known clauses count left before.follows.items (set before.waiting.items need a.new) rs)
          (sym a.ready) made))

  -- all needs of the clause follow
  pub no_need : (before after : Chaining) (next : ℕ) → IsFirstOpen before.follows.items needs first.next next → length needs ≤ next
      → clause.head < length before.follows.items →
      (Says before.follows.items clause.head → after ≡ before)
      → ((Says before.follows.items clause.head → ⊥) → IsReadied before clause.head after) →
      IsUnderWay clauses count (first ∷ left) before → IsUnderWay clauses count left after
  no_need before after next is past within known_before readied known = elim (says_or_not before.follows.items clause.head) [
    | inl said ↦ subst (λ (c : Chaining). IsUnderWay clauses count left c) (sym (known_before said))
        (head_known clauses count first left before.follows.items before.waiting.items before.ready.items clause found known said)
    | inr new ↦ concluded_now (readied new)
  ]
    where
      all_follow : AllFollow clauses clause.needs.items
      all_follow = subst (AllFollow clauses) (take_all next clause.needs.items (subst (λ (ns : List ℕ). length ns ≤ next) whole past))
          (passed_on before.follows.items before.waiting.items before.ready.items next known is)

      concluded_now : IsReadied before clause.head after → IsUnderWay clauses count left after
      concluded_now r =
          let made : Known clauses count left (set before.follows.items clause.head true) before.waiting.items
          (before.ready.items ++ clause.head ∷ []) =
          head_new clauses count first left before.follows.items before.waiting.items before.ready.items clause found known
          (omega (arith, within, known.follows_count)) all_follow in
          subst (λ (fs : List Bool). Known clauses count left fs after.waiting.items after.ready.items) (sym r.follows)
          (subst (λ (ws : List (Vec Wait Global)). Known clauses count left (set before.follows.items clause.head true) ws
          after.ready.items) (sym r.waiting)
          (subst (λ (rs : List ℕ). Known clauses count left (set before.follows.items clause.head true) before.waiting.items rs)
          (sym r.ready) made))

-- one more clause is looked at from its first need on
pub first_more : (clauses : List Clause) (i : ℕ) (old new : List Wait) → i < length clauses
    → new ≡ old ++ record { clause = i; next = 0 } ∷ [] → All (IsWait clauses) old → ((k : ℕ) → k < i → IsAmong old k)
    → All (IsWait clauses) new × ((k : ℕ) → k < i + 1 → IsAmong new k)
first_more clauses i old new within pushed are_waits each = (
  subst (All (IsWait clauses)) (sym pushed) (All-push (IsWait clauses) old wait are_waits is_wait),
  λ k less. subst (λ (ws : List Wait). IsAmong ws k) (sym pushed) (among k less),
)
  where
    wait : Wait
    wait = record { clause = i; next = 0 }

    is_wait : IsWait clauses wait
    is_wait = elim (slice_get_cases clauses i).1 [
      | inl some ↦ record {
        clause = some.0;
        at = some.2;
        within = omega arith;
        passed = first_of_each clauses some.0.needs.items 0 (λ k number less at. absurd (omega (arith, less)));
      }
      | inr none ↦ absurd (omega (arith, none.0, within))
    ]

    among : (k : ℕ) → k < i + 1 → IsAmong (old ++ wait ∷ []) k
    among k less = elim (let cases : (k < i) ⊎ (i ≡ k) = grind arith in cases) [
      | inl early ↦ let (w, has, is) = each k early in (w, Contains-append_left old (wait ∷ []) w has, is)
      | inr this ↦ (wait, Contains-push old wait, this)
    ]
