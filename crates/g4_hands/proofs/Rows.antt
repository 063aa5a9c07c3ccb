-- The seats of hands, while they are given out.
use Rattle.std.proofs.Common.{◌≡◌, ◌≢◌, ◌<◌, ◌≤◌, ◌+◌, ◌-◌, ◌==◌, inl, inr, ⊎_elim, ℕ, Bool, true, false, List, [], ◌∷◌, ◌++◌, Some, if◌then◌else◌, length, get_or, replicate, set, slice_get, refl, sym, ◌∙◌, ap, arith, length-set}
use Rattle.std.proofs.lemmas.List.{length-replicate}
use Rattle.std.proofs.lemmas.Bool.Decides.{nat_tests}
use Rattle.std.proofs.lemmas.Option.{slice_get_within, slice_get-get_or}
use native.Mathlib.Decide.{dec_lt, ℕ_discrete}
use Rattle.g4_hands.specs.Dealing.{dealt}
use Rattle.g4_hands.specs.Shares.{share}
use Rattle.g4_hands.specs.Reaches.{DequeId, Reach, reach}
use Rattle.g4_hands.specs.Hands.{seat_at}
use Rattle.g4_hands.specs.Rows.{AreRows, AreSeated, HaveOneMore, fresh_row}
use Rattle.g4_hands.proofs.Lists.{get_set, get_other, get_replicate}

abbrev Rows : Type 0
Rows = List (List Reach)

-- at the beginning no row has one more
pub none_more : (from : ℕ) (r : Reach) (rows : Rows) → HaveOneMore from from r rows rows
none_more from r rows = record { long = refl; inside = λ i row ge lt at. absurd (omega (arith, ge, lt)); outside = λ i out. refl }

-- the next row has one more
pub one_more : (from n : ℕ) (r : Reach) (before rows : Rows) (row : List Reach) → from ≤ n → HaveOneMore from n r before rows
    → slice_get rows n ≡ Some row → HaveOneMore from (n + 1) r before (set rows n (row ++ r ∷ []))
one_more from n r before rows row ge h at =
    let now : Rows = set rows n (row ++ r ∷ []) in
    let was : slice_get before n ≡ Some row = sym (h.outside n (inr (omega arith))) ∙ at in
    record {
      long = length-set rows n (row ++ r ∷ []) ∙ h.long;
      inside = λ i old le lt e. elim (ℕ_discrete i n) [
        | yes same ↦ (
            let old_is : old ≡ row = (let f : Some old ≡ Some row = sym e ∙ (ap (λ (k : ℕ). slice_get before k) same ∙ was) in cc) in
            ap (λ (k : ℕ). slice_get now k) same
            ∙ (get_set rows n (row ++ r ∷ []) row at ∙ ap (λ (l : List Reach). Some (l ++ r ∷ [])) (sym old_is)))
        | no other ↦ get_other rows n i (row ++ r ∷ []) other ∙ h.inside i old le (omega (arith, lt, other)) e
      ];
      outside = λ i out. (
          let other : i ≢ n = λ same. ⊎_elim (λ (x : i < from). omega (arith, x, same, ge))
          (λ (x : n + 1 ≤ i). omega (arith, x, same)) out in
          get_other rows n i (row ++ r ∷ []) other
          ∙ h.outside i (⊎_elim (λ (x : i < from). inl x) (λ (x : n + 1 ≤ i). inr (omega (arith, x))) out));
    }

own_if : (jobs number deque : ℕ) → number ≡ deque → (deque == number) ≡ true
own_if jobs number deque same = grind (arith, nat_tests)

other_if : (jobs number deque : ℕ) → number ≢ deque → (deque == number) ≡ false
other_if jobs number deque other = grind (arith, nat_tests)

seat_by : (files jobs deque : ℕ) (name : DequeId) → Bool → Reach
seat_by files jobs deque name b = reach b name (share (if b then 1025 - jobs else 1) (dealt jobs deque files) [])

pub own_seat : (files jobs number deque : ℕ) (name : DequeId) → number ≡ deque
    → seat_at files jobs number deque name [] ≡ reach true name (share (1025 - jobs) (dealt jobs deque files) [])
unfolding seat_by
own_seat files jobs number deque name same = ap (seat_by files jobs deque name) (own_if jobs number deque same)

pub other_seat : (files jobs number deque : ℕ) (name : DequeId) → number ≢ deque
    → seat_at files jobs number deque name [] ≡ reach false name (share 1 (dealt jobs deque files) [])
unfolding seat_by
other_seat files jobs number deque name other = ap (seat_by files jobs deque name) (other_if jobs number deque other)

-- the rows before the deque's own, those after it, and then that one
pub seated : (files jobs deque : ℕ) (name : DequeId) (before mid late : Rows) (row : List Reach) → length before ≡ jobs
    → HaveOneMore 0 deque (reach false name (share 1 (dealt jobs deque files) [])) before mid
    → HaveOneMore (deque + 1) jobs (reach false name (share 1 (dealt jobs deque files) [])) mid late
    → slice_get late deque ≡ Some row
    → AreSeated files jobs deque name before
    (set late deque (row ++ reach true name (share (1025 - jobs) (dealt jobs deque files) []) ∷ []))
seated files jobs deque name before mid late row long first second at =
    let own : Reach = reach true name (share (1025 - jobs) (dealt jobs deque files) []) in
    let r : Reach = reach false name (share 1 (dealt jobs deque files) []) in
    let now : Rows = set late deque (row ++ own ∷ []) in
    record {
      long = length-set late deque (row ++ own ∷ []) ∙ (second.long ∙ first.long);
      seats = λ i old e. (
          let within : i < jobs = omega (arith, slice_get_within before i old e, long) in
          elim (ℕ_discrete i deque) [
            | yes same ↦ (
                let there : slice_get late i ≡ slice_get before i = second.outside i (inl (omega (arith, same)))
                ∙ first.outside i (inr (omega (arith, same))) in
                let old_is : old ≡ row =
                (let f : Some old ≡ Some row = sym e ∙ (sym there ∙ (ap (λ (k : ℕ). slice_get late k) same ∙ at)) in cc) in
                ap (λ (k : ℕ). slice_get now k) same ∙ (get_set late deque (row ++ own ∷ []) row at
                ∙ (ap (λ (l : List Reach). Some (l ++ own ∷ [])) (sym old_is)
                ∙ ap (λ (x : Reach). Some (old ++ x ∷ [])) (sym (own_seat files jobs i deque name same)))))
            | no other ↦ (
                let got : slice_get late i ≡ Some (old ++ r ∷ []) =
                elim (dec_lt i deque) [
                  | yes lt ↦ second.outside i (inl (omega (arith, lt))) ∙ first.inside i old (omega arith) lt e
                  | no ge ↦ second.inside i old (omega (arith, ge, other)) within (first.outside i (inr (omega (arith, ge))) ∙ e)
                ] in
                get_other late deque i (row ++ own ∷ []) other
                ∙ (got ∙ ap (λ (x : Reach). Some (old ++ x ∷ [])) (sym (other_seat files jobs i deque name other))))
          ]);
    }

fresh_snoc : (files jobs number n : ℕ) (names : List DequeId) (name : DequeId)
    → fresh_row files jobs number n (names ++ name ∷ []) ≡ fresh_row files jobs number n names ++ seat_at files jobs number
    (n + length names) name [] ∷ []
fresh_snoc files jobs number n [] name = ap (λ (d : ℕ). seat_at files jobs number d name [] ∷ []) (omega arith)
fresh_snoc files jobs number n (x ∷ xs) name =
    ap (λ (l : List Reach). seat_at files jobs number n x [] ∷ l) (fresh_snoc files jobs number (n + 1) xs name
    ∙ ap (λ (d : ℕ). fresh_row files jobs number (n + 1) xs ++ seat_at files jobs number d name [] ∷ []) (omega arith))

-- no seat yet
pub no_seats : (files jobs : ℕ) → AreRows files jobs [] (replicate jobs [])
no_seats files jobs = record { long = length-replicate jobs []; each = λ number row at. get_replicate jobs [] row number at }

-- one more seat in each row
pub more_seats : (files jobs : ℕ) (names : List DequeId) (name : DequeId) (before now : Rows) → AreRows files jobs names before
    → AreSeated files jobs (length names) name before now → AreRows files jobs (names ++ name ∷ []) now
more_seats files jobs names name before now rows seats =
    record {
      long = seats.long ∙ rows.long;
      each = λ number row at. (
          let within : number < length before = omega (arith, slice_get_within now number row at, seats.long) in
          let old : List Reach = get_or before number [] in
          let was : slice_get before number ≡ Some old = slice_get-get_or before number [] within in
          let is : row ≡ old ++ seat_at files jobs number (length names) name [] ∷ [] = (let f = sym at ∙ seats.seats number old was in
          cc) in
          is ∙ (ap (λ (l : List Reach). l ++ seat_at files jobs number (length names) name [] ∷ []) (rows.each number old was)
          ∙ (ap (λ (d : ℕ). fresh_row files jobs number 0 names ++ seat_at files jobs number d name [] ∷ []) (omega arith)
          ∙ sym (fresh_snoc files jobs number 0 names name))));
    }
