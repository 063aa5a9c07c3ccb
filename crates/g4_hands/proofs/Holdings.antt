-- What a hand is by its seats, and after it has taken a file.
use Rattle.std.proofs.Common.{◌≡◌, ◌<◌, ◌≤◌, ◌+◌, ◌%◌, ℕ, zero, suc, List, [], ◌∷◌, ◌++◌, Option, Some, None, MatchOption, length, get_or, map, replicate, set, slice_get, refl, sym, ◌∙◌, ap, subst, arith, length-set}
use Rattle.std.proofs.lemmas.Option.{slice_get_within, get_or_from_slice_get}
use Rattle.std.proofs.lemmas.List.{get_or-map, map-set}
use native.Mathlib.Decide.{ℕ_discrete}
use Rattle.g4_hands.specs.declared.share.Share.{Share}
use Rattle.g4_hands.specs.Shares.{IsFirst, WasEmpty, share}
use Rattle.g4_hands.specs.Reaches.{DequeId, Reach, having, reach}
use Rattle.g4_hands.specs.Hands.{AllWereEmpty, Holding, IsHand, Took, TookOne, WereEmpty, holding, known_of, seat_at, taken_from}
use Rattle.g4_hands.specs.Rows.{fresh_row}
use Rattle.g4_hands.proofs.Lists.{get_set, get_other}
use Rattle.g4_hands.proofs.Dealings.{next_is}

abbrev taken_of : Reach → List ℕ
taken_of r = r.share.taken

abbrev deque_of : Reach → DequeId
deque_of r = r.deque

-- an answer of a call that takes, by each of its cases
pub each_case : {A B : Type 0} {P Q : ℕ → Type 0} → (o : Option ℕ) → (A → B) → ((k : ℕ) → P k → Q k) → MatchOption o A P
    → MatchOption o B Q
each_case None f g h = f h
each_case (Some k) f g h = g k h

map_same : {X Y : Type 0} (f : X → Y) (xs : List X) (i : ℕ) (x y : X) → slice_get xs i ≡ Some x → f y ≡ f x
    → map f (set xs i y) ≡ map f xs
map_same f [] i x y e same = refl
map_same f (z ∷ zs) zero x y e same = (let h : z ≡ x = cc in ap (λ w. w ∷ map f zs) (same ∙ ap f (sym h)))
map_same f (z ∷ zs) (suc i) x y e same = ap (λ l. f z ∷ l) (map_same f zs i x y e same)

map_back : {X Y : Type 0} (f : X → Y) (xs : List X) (i : ℕ) (y : Y) → slice_get (map f xs) i ≡ Some y
    → (x : X) × (slice_get xs i ≡ Some x) × (f x ≡ y)
map_back f [] i y e = cc
map_back f (z ∷ zs) zero y e = (z, refl, cc)
map_back f (z ∷ zs) (suc i) y e = map_back f zs i y e

at_map : {X Y : Type 0} (f : X → Y) (xs : List X) (i : ℕ) (x : X) (d : Y) → slice_get xs i ≡ Some x → get_or (map f xs) i d ≡ f x
at_map f xs i x d e = get_or-map f xs i x d (slice_get_within xs i x e) ∙ ap f (get_or_from_slice_get xs i x x e)

-- a hand that has taken a file is a hand
pub kept_hand : (files number : ℕ) (before now : List Reach) (k : ℕ) → IsHand files number before → TookOne before now k
    → IsHand files number now
kept_hand files number before now k h t =
    let y : Reach = having t.seat k in
    let later : List Reach = set before t.deque y in
    let long : length later ≡ length before = length-set before t.deque y in
    let was : t.seat ≡ seat_at files (length before) number t.deque t.seat.deque t.seat.share.taken = h.each t.deque t.seat t.at in
    let IsAt : ℕ → ℕ → Reach → Type 0 = λ n d r. r ≡ seat_at files n number d r.deque r.share.taken in
    let each : (d : ℕ) (r : Reach) → slice_get later d ≡ Some r → IsAt (length before) d r = λ d r e. elim (ℕ_discrete d t.deque) [
      | yes same ↦ (
          let is : r ≡ y =
          (let f : Some r ≡ Some y = sym e ∙ (ap (λ (i : ℕ). slice_get later i) same ∙ get_set before t.deque y t.seat t.at) in cc) in
          let mine : IsAt (length before) t.deque y =
          λ i. reach (was i).own t.seat.deque (share (was i).share.parts (was i).share.dealt (t.seat.share.taken ++ k ∷ [])) in
          subst (IsAt (length before) d) (sym is) (subst (λ (n : ℕ). IsAt (length before) n y) (sym same) mine))
      | no other ↦ h.each d r (sym (get_other before t.deque d y other) ∙ e)
    ] in
    subst (IsHand files number) (sym t.is)
    (record {
      within = omega (arith, h.within, long);
      few = omega (arith, h.few, long);
      each = λ d r e. subst (λ (n : ℕ). IsAt n d r) (sym long) (each d r e);
    })

-- and this is what it has taken
pub took : (files number : ℕ) (before now : List Reach) (k : ℕ) → IsHand files number before → TookOne before now k
    → Took (holding files number before) (holding files number now) k
took files number before now k h t =
    let jobs : ℕ = length before in
    let y : Reach = having t.seat k in
    let later : List Reach = set before t.deque y in
    let was : t.seat ≡ seat_at files jobs number t.deque t.seat.deque t.seat.share.taken = h.each t.deque t.seat t.at in
    let h0 : Holding = holding files number before in
    let next : IsFirst (known_of h0 t.deque t.seat.share.taken) (k ∷ []) = subst (λ (v : Share). IsFirst v (k ∷ []))
    (ap (λ (r : Reach). r.share) was) t.next in
    let file : (k < files) × (k % jobs ≡ t.deque) = next_is jobs t.deque files k next.before next.after next.are in
    let had : taken_from (holding files number before) t.deque ≡ t.seat.share.taken = at_map taken_of before t.deque t.seat [] t.at in
    let names : map deque_of later ≡ map deque_of before = map_same deque_of before t.deque t.seat y t.at refl in
    let long : length later ≡ length before = length-set before t.deque y in
    let lists : map taken_of later ≡ set (map taken_of before) t.deque (t.seat.share.taken ++ k ∷ []) =
    map-set taken_of before t.deque y in
    let all : Took (holding files number before) (holding files number later) k =
    record {
      file = file.0;
      next = subst (λ (d : ℕ). IsFirst (known_of h0 d (taken_from h0 d)) (k ∷ [])) (sym file.1)
          (subst (λ (l : List ℕ). IsFirst (known_of h0 t.deque l) (k ∷ [])) (sym had) next);
      deal = λ i. record { files = files; jobs = long i; deques = names i };
      number = refl;
      taken = lists ∙ (ap (λ (l : List ℕ). set (map taken_of before) t.deque (l ++ k ∷ [])) (sym had)
          ∙ ap (λ (d : ℕ). set (map taken_of before) d (taken_from (holding files number before) d ++ k ∷ [])) (sym file.1));
    } in
    subst (λ (l : List Reach). Took (holding files number before) (holding files number l) k) (sym t.is) all

-- the deques that were empty, as the hand's
pub were_empty : (files number : ℕ) (seats : List Reach) → IsHand files number seats → WereEmpty 0 (length seats) seats
    → AllWereEmpty (holding files number seats)
were_empty files number seats h empty deque taken e =
    let got = map_back taken_of seats deque taken e in
    let r : Reach = got.0 in
    let is : r ≡ seat_at files (length seats) number deque r.deque r.share.taken = h.each deque r got.1 in
    let same : r.share ≡ known_of (holding files number seats) deque taken =
    ap (λ (x : Reach). x.share) is ∙ ap (λ (l : List ℕ). known_of (holding files number seats) deque l) got.2 in
    subst WasEmpty same (empty deque r (omega arith) (slice_get_within seats deque r got.1) got.1)

fresh_length : (files jobs number n : ℕ) (names : List DequeId) → length (fresh_row files jobs number n names) ≡ length names
fresh_length files jobs number n [] = refl
fresh_length files jobs number n (x ∷ xs) = ap suc (fresh_length files jobs number (n + 1) xs)

fresh_names : (files jobs number n : ℕ) (names : List DequeId) → map deque_of (fresh_row files jobs number n names) ≡ names
fresh_names files jobs number n [] = refl
fresh_names files jobs number n (x ∷ xs) = ap (λ l. x ∷ l) (fresh_names files jobs number (n + 1) xs)

fresh_taken : (files jobs number n : ℕ) (names : List DequeId)
    → map taken_of (fresh_row files jobs number n names) ≡ replicate (length names) []
fresh_taken files jobs number n [] = refl
fresh_taken files jobs number n (x ∷ xs) = ap (λ l. [] ∷ l) (fresh_taken files jobs number (n + 1) xs)

fresh_each : (files jobs number n : ℕ) (names : List DequeId) (d : ℕ) (r : Reach)
    → slice_get (fresh_row files jobs number n names) d ≡ Some r → r ≡ seat_at files jobs number (n + d) r.deque r.share.taken
fresh_each files jobs number n [] d r e = cc
fresh_each files jobs number n (x ∷ xs) zero r e =
    let is : r ≡ seat_at files jobs number n x [] = cc in
    subst (λ (y : Reach). y ≡ seat_at files jobs number (n + 0) y.deque y.share.taken) (sym is)
    (ap (λ (i : ℕ). seat_at files jobs number i x []) (omega arith))
fresh_each files jobs number n (x ∷ xs) (suc d) r e =
    fresh_each files jobs number (n + 1) xs d r e ∙ ap (λ (i : ℕ). seat_at files jobs number i r.deque r.share.taken) (omega arith)

-- a row with a seat at each deque makes a hand
pub fresh_hand : (files jobs number : ℕ) (names : List DequeId) (row : List Reach) → length names ≡ jobs → jobs ≤ 64 → number < jobs
    → row ≡ fresh_row files jobs number 0 names → IsHand files number row
fresh_hand files jobs number names row long few within is =
    let full : List Reach = fresh_row files jobs number 0 names in
    let n : length full ≡ jobs = fresh_length files jobs number 0 names ∙ long in
    subst (IsHand files number) (sym is)
    (record {
      within = omega (arith, n, within);
      few = omega (arith, n, few);
      each = λ d r e. subst (λ (m : ℕ). r ≡ seat_at files m number d r.deque r.share.taken) (sym n)
          (fresh_each files jobs number 0 names d r e ∙ ap (λ (i : ℕ). seat_at files jobs number i r.deque r.share.taken) (omega arith));
    })

-- which has taken nothing
pub fresh_holding : (files jobs number : ℕ) (names : List DequeId) (row : List Reach) → length names ≡ jobs
    → row ≡ fresh_row files jobs number 0 names
    → holding files number row ≡ record {
      deal = record { files = files; jobs = jobs; deques = names };
      number = number;
      taken =
          replicate jobs [];
    }
fresh_holding files jobs number names row long is =
    let full : List Reach = fresh_row files jobs number 0 names in
    let n : length full ≡ jobs = fresh_length files jobs number 0 names ∙ long in
    let ds : map deque_of full ≡ names = fresh_names files jobs number 0 names in
    let ts : map taken_of full ≡ replicate jobs [] = fresh_taken files jobs number 0 names ∙ ap (λ (m : ℕ). replicate m []) long in
    let whole : holding files number full ≡ record {
      deal = record { files = files; jobs = jobs; deques = names };
      number =
          number;
      taken = replicate jobs [];
    } =
    λ i. record { deal = record { files = files; jobs = n i; deques = ds i }; number = number; taken = ts i } in
    ap (holding files number) is ∙ whole

-- whether or not it has taken a file, a hand is a hand, with as many seats
pub still_hand : (files number : ℕ) (before now : List Reach) (E : Type 0) (o : Option ℕ) → IsHand files number before
    → MatchOption o ((now ≡ before) × E) (TookOne before now) → IsHand files number now
still_hand files number before now E None h t = subst (IsHand files number) (sym t.0) h
still_hand files number before now E (Some k) h t = kept_hand files number before now k h t

pub still_long : (before now : List Reach) (E : Type 0) (o : Option ℕ) → MatchOption o ((now ≡ before) × E) (TookOne before now)
    → length now ≡ length before
still_long before now E None t = ap length t.0
still_long before now E (Some k) t = ap length t.is ∙ length-set before t.deque (having t.seat k)

-- what a hand answers, by what it did to its seats
pub answer : (files number : ℕ) (before now : List Reach) (old : Holding) (o : Option ℕ) → holding files number before ≡ old
    → IsHand files number before
    → MatchOption o ((now ≡ before) × WereEmpty 0 (length before) before) (TookOne before now)
    → MatchOption o ((holding files number now ≡ old) × AllWereEmpty old) (Took old (holding files number now))
answer files number before now old None is h t =
    (ap (holding files number) t.0 ∙ is, subst AllWereEmpty is (were_empty files number before h t.1))
answer files number before now old (Some k) is h t =
    subst (λ (v : Holding). Took v (holding files number now) k) is (took files number before now k h t)
