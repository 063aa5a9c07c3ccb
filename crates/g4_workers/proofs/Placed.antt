-- Outcomes and their places.
use Rattle.std.proofs.Common.{◌≡◌, ◌<◌, ◌≤◌, ◌+◌, ◌⊎◌, inl, inr, ⊎_elim, ℕ, zero, suc, List, [], ◌∷◌, ◌++◌, Option, Some, None, All, IfSome, length, get_or, replicate, set, slice_get, refl, sym, ◌∙◌, ap, subst, arith, length-set, length-append, true, true≢false, Contains, drop, take}
use Rattle.std.proofs.lemmas.List.{length-replicate, map-append}
use Rattle.std.proofs.Math.Seq.{take-append_seam}
use Rattle.std.proofs.lemmas.Option.{slice_get-get_or, slice_get_within}
use Rattle.std.proofs.lemmas.List.Elements.{All-append, All-cons, All-head, All-nil, All-pop, All-tail, Contains-append_left, Contains-append_right}
use native.Mathlib.Decide.{ℕ_discrete}
use Rattle.g4_hands.specs.Hands.{AreDealt, Holding}
use Rattle.g4_workers.specs.declared.worker.Numbered.{Numbered}
use Rattle.g4_workers.specs.declared.worker.Worker.{Worker}
use Rattle.g4_workers.specs.Placing.{AreInPlace, AreOutcomesOf, AreSlots, IsOutcomeOf, IsPlaced, files_in, numbers_of}
use Rattle.std.specs.Option.{is_some}

pub get_set : {X : Type 0} (xs : List X) (i : ℕ) (v : X) → i < length xs → slice_get (set xs i v) i ≡ Some v
get_set [] i v h = absurd (omega (arith, h))
get_set (x ∷ xs) zero v h = refl
get_set (x ∷ xs) (suc i) v h = get_set xs i v (omega (arith, h))

pub get_other : {X : Type 0} (xs : List X) (i k : ℕ) (v : X) → (k ≡ i → ⊥) → slice_get (set xs i v) k ≡ slice_get xs k
get_other [] i k v n = refl
get_other (x ∷ xs) zero zero v n = absurd (n refl)
get_other (x ∷ xs) zero (suc k) v n = refl
get_other (x ∷ xs) (suc i) zero v n = refl
get_other (x ∷ xs) (suc i) (suc k) v n = get_other xs i k v (λ e. n (ap suc e))

get_snoc : {X : Type 0} (xs : List X) (x y : X) (i : ℕ) → slice_get (xs ++ x ∷ []) i ≡ Some y
    → (slice_get xs i ≡ Some y) ⊎ ((i ≡ length xs) × (x ≡ y))
get_snoc [] x y zero e = inr (refl, cc)
get_snoc [] x y (suc i) e = cc
get_snoc (z ∷ zs) x y zero e = inl e
get_snoc (z ∷ zs) x y (suc i) e = elim (get_snoc zs x y i e) [ inl h ↦ inl h | inr h ↦ inr (ap suc h.0, h.1) ]

get_replicate : {X : Type 0} (n : ℕ) (x y : X) (i : ℕ) → slice_get (replicate n x) i ≡ Some y → x ≡ y
get_replicate zero x y i e = cc
get_replicate (suc n) x y zero e = cc
get_replicate (suc n) x y (suc i) e = get_replicate n x y i e

module _ {O : Type 0} (IsOutcome : ℕ → O → Type 0) where
  -- no outcome yet
  pub no_slots : (files : ℕ) (slots : List (Option O)) → slots ≡ replicate files None → AreSlots files IsOutcome slots
  no_slots files slots is =
      subst (AreSlots files IsOutcome) (sym is)
      (record {
        long = length-replicate files None;
        each =
            λ k o e. absurd (let same : ◌≡◌ {A = Option O} None (Some o) = get_replicate files None (Some o) k e in let no_way : ⊥ = cc in
            no_way);
      })

  -- one more outcome in its place
  pub set_slot : (files : ℕ) (slots : List (Option O)) (file : ℕ) (outcome : O) → AreSlots files IsOutcome slots → IsOutcome file outcome
      → AreSlots files IsOutcome (set slots file (Some outcome))
  set_slot files slots file outcome h is =
      let now : List (Option O) = set slots file (Some outcome) in
      let long : length now ≡ length slots = length-set slots file (Some outcome) in
      record {
        long = long ∙ h.long;
        each = λ k o e. elim (ℕ_discrete k file) [
          | yes same ↦ (
              let within : file < length slots = omega (arith, slice_get_within now k (Some o) e, same, long) in
              let f : Some (Some outcome) ≡ Some (Some o) = sym (get_set slots file (Some outcome) within)
              ∙ (ap (λ (i : ℕ). slice_get now i) (sym same) ∙ e) in
              let one : outcome ≡ o = cc in
              subst (λ (i : ℕ). IsOutcome i o) (sym same) (subst (IsOutcome file) one is))
          | no other ↦ h.each k o (sym (get_other slots file k (Some outcome) other) ∙ e)
        ];
      }

  -- an outcome was taken from its place
  pub clear_slot : (files : ℕ) (slots : List (Option O)) (file : ℕ) → AreSlots files IsOutcome slots
      → AreSlots files IsOutcome (set slots file None)
  clear_slot files slots file h =
      let now : List (Option O) = set slots file None in
      let long : length now ≡ length slots = length-set slots file None in
      record {
        long = long ∙ h.long;
        each = λ k o e. elim (ℕ_discrete k file) [
          | yes same ↦ absurd (
              let within : file < length slots = omega (arith, slice_get_within now k (Some o) e, same, long) in
              let f : ◌≡◌ {A = Option (Option O)} (Some None) (Some (Some o)) = sym (get_set slots file None within)
              ∙ (ap (λ (i : ℕ). slice_get now i) (sym same) ∙ e) in
              let no_way : ⊥ = cc in no_way)
          | no other ↦ h.each k o (sym (get_other slots file k None other) ∙ e)
        ];
      }

  -- what is in a place is an outcome of its file
  pub slot_is : (files : ℕ) (slots : List (Option O)) (file : ℕ) (slot d : Option O) → AreSlots files IsOutcome slots → file < files
      → slot ≡ get_or slots file d → IfSome slot (IsOutcome file)
  slot_is files slots file None d h within at = tt
  slot_is files slots file (Some o) d h within at =
      h.each file o (slice_get-get_or slots file d (omega (arith, within, h.long)) ∙ ap (λ (s : Option O). Some s) (sym at))

  -- no outcome in order yet
  pub none_in_place : (outcomes : List O) → outcomes ≡ [] → AreInPlace 0 IsOutcome outcomes
  none_in_place outcomes is = subst (AreInPlace 0 IsOutcome) (sym is)
      (record { long = refl; each = λ k o e. absurd (let no_way : ⊥ = cc in no_way) })

  -- one more
  pub more_in_place : (n : ℕ) (outcomes now : List O) (outcome : O) → AreInPlace n IsOutcome outcomes → IsOutcome n outcome
      → now ≡ outcomes ++ outcome ∷ [] → AreInPlace (n + 1) IsOutcome now
  more_in_place n outcomes now outcome h is same =
      subst (AreInPlace (n + 1) IsOutcome) (sym same)
      (record {
        long = omega (arith, length-append outcomes (outcome ∷ []), h.long);
        each = λ k o e. ⊎_elim (λ (old : slice_get outcomes k ≡ Some o). h.each k o old)
            (λ (new : (k ≡ length outcomes) × (outcome ≡ o)). subst (λ (i : ℕ). IsOutcome i o) (sym (new.0 ∙ h.long))
            (subst (IsOutcome n) new.1 is))
            (get_snoc outcomes outcome o k e);
      })

-- ---- which files have an outcome in a place

-- none, where there is no outcome
pub none_placed : {O : Type 0} (files : ℕ) (slots : List (Option O)) → slots ≡ replicate files None → (file : ℕ) → IsPlaced slots file → ⊥
none_placed {O} files slots is file (o, at) =
    let at' : slice_get (replicate files None) file ≡ Some (Some o) =
    subst (λ (ss : List (Option O)). slice_get ss file ≡ Some (Some o)) is at in
    let same : ◌≡◌ {A = Option O} None (Some o) = get_replicate files None (Some o) file at' in
    let no_way : ⊥ = cc in no_way

-- those that had one, and the one whose place got it
pub placed_set : {O : Type 0} (slots : List (Option O)) (i file : ℕ) (outcome : O) → IsPlaced (set slots i (Some outcome)) file
    → IsPlaced slots file ⊎ (file ≡ i)
placed_set slots i file outcome (o, at) = elim (ℕ_discrete file i) [
  | yes same ↦ inr same
  | no other ↦ inl (o, sym (get_other slots i file (Some outcome) other) ∙ at)
]

-- those that had one, but for the one whose place was cleared
pub placed_clear : {O : Type 0} (slots : List (Option O)) (i file : ℕ) → IsPlaced (set slots i None) file → IsPlaced slots file
placed_clear {O} slots i file (o, at) = elim (ℕ_discrete file i) [
  | yes same ↦ absurd (
      let now : List (Option O) = set slots i None in
      let within : i < length slots = omega (arith, slice_get_within now file (Some o) at, same, length-set slots i None) in
      let f : ◌≡◌ {A = Option (Option O)} (Some None) (Some (Some o)) = sym (get_set slots i None within)
      ∙ (ap (λ (k : ℕ). slice_get now k) (sym same) ∙ at) in
      let no_way : ⊥ = cc in no_way)
  | no other ↦ (o, sym (get_other slots i file None other) ∙ at)
]

-- what was read at a place
pub placed_read : {O : Type 0} (slots : List (Option O)) (file : ℕ) (slot d : Option O) → file < length slots → slot ≡ get_or slots file d
    → is_some slot ≡ true → IsPlaced slots file
placed_read slots file None d less at is = absurd (true≢false (sym is))
placed_read slots file (Some o) d less at is = (o, slice_get-get_or slots file d less ∙ ap Some (sym at))

-- ---- numbers in lists

pub none_in : {X : Type 0} (x : X) → Contains [] x → ⊥
none_in x (k, less, is) = omega (arith, less)

pub one_in : {X : Type 0} (x : X) → Contains (x ∷ []) x
one_in x = (0, omega arith, refl)

pub is_one : {X : Type 0} (x y : X) → Contains (x ∷ []) y → y ≡ x
is_one x y (zero, less, is) = sym is
is_one x y (suc k, less, is) = absurd (omega (arith, less))

-- ---- the files of outcomes

module _ {O : Type 0} where
  files_more : (ns now : List (Numbered O)) (x : Numbered O) → now ≡ ns ++ x ∷ [] → files_in now ≡ files_in ns ++ x.file ∷ []
  files_more ns now x same = ap files_in same ∙ map-append (λ (n : Numbered O). n.file) ns (x ∷ [])

  pub files_last : (now ns : List (Numbered O)) (x : Numbered O) → now ≡ ns ++ x ∷ [] → Contains (files_in now) x.file
  files_last now ns x same = subst (λ (fs : List ℕ). Contains fs x.file) (sym (files_more ns now x same))
      (Contains-append_right (files_in ns) (x.file ∷ []) x.file (one_in x.file))

  pub files_front : (now ns : List (Numbered O)) (x : Numbered O) → now ≡ ns ++ x ∷ [] → (file : ℕ) → Contains (files_in ns) file
      → Contains (files_in now) file
  files_front now ns x same file among = subst (λ (fs : List ℕ). Contains fs file) (sym (files_more ns now x same))
      (Contains-append_left (files_in ns) (x.file ∷ []) file among)

  pub files_pushed : (ns now : List (Numbered O)) (x : Numbered O) → now ≡ ns ++ x ∷ [] → files_in now ≡ files_in ns ++ x.file ∷ []
  files_pushed ns now x same = files_more ns now x same

  -- each is below the number of files
  pub in_files : (files : ℕ) (IsOutcome : ℕ → O → Type 0) (ns : List (Numbered O)) → AreOutcomesOf files IsOutcome ns → (k : ℕ)
      → Contains (files_in ns) k → k < files
  in_files files IsOutcome ns outcomes k (i, less, is) = from_map ns outcomes i less is
    where
      from_map : (ns : List (Numbered O)) → AreOutcomesOf files IsOutcome ns → (i : ℕ) → i < length (files_in ns)
          → get_or (files_in ns) i k ≡ k → k < files
      from_map [] all i less is = absurd (omega (arith, less))
      from_map (n ∷ ns) all zero less is = let one = All-head (IsOutcomeOf files IsOutcome) n ns all in omega (arith, one.0, is)
      from_map (n ∷ ns) all (suc i) less is = from_map ns (All-tail (IsOutcomeOf files IsOutcome) n ns all) i (omega (arith, less)) is

-- the hands of a deal have its files
pub dealt_files : (files jobs : ℕ) (hands : List Holding) → AreDealt files jobs hands → All (λ (h : Holding). h.deal.files ≡ files) hands
dealt_files files jobs hands dealt i d within = ap (λ (h : Holding). h.deal.files)
    (dealt.2 i (get_or hands i d) (slice_get-get_or hands i d within))

-- one more at the end
pub all_more : {X : Type 0} (P : X → Type 0) (xs ys : List X) (x : X) → All P xs → P x → ys ≡ xs ++ x ∷ [] → All P ys
all_more P xs ys x all one same = subst (All P) (sym same) (All-append P xs (x ∷ []) all (All-cons P x [] one (All-nil P)))

-- and one less
pub all_less : {X : Type 0} (P : X → Type 0) (xs ys : List X) (x : X) → All P xs → xs ≡ ys ++ x ∷ [] → All P ys × P x
all_less P xs ys x all same = All-pop P xs ys (Some x) same all

-- none
pub all_none : {X : Type 0} (P : X → Type 0) (xs : List X) → xs ≡ [] → All P xs
all_none P xs same = subst (All P) (sym same) (All-nil P)

-- ---- the states and the numbers of workers

-- what is before the last item
pub get_before : {X : Type 0} (xs ys : List X) (x y : X) (i : ℕ) → xs ≡ ys ++ x ∷ [] → slice_get ys i ≡ Some y → slice_get xs i ≡ Some y
get_before {X} xs ys x y i same at = subst (λ (zs : List X). slice_get zs i ≡ Some y) (sym same) (front ys i at)
  where
    front : (ys : List X) (i : ℕ) → slice_get ys i ≡ Some y → slice_get (ys ++ x ∷ []) i ≡ Some y
    front [] i at = cc
    front (z ∷ zs) zero at = at
    front (z ∷ zs) (suc i) at = front zs i at

pub get_last : {X : Type 0} (xs ys : List X) (x : X) → xs ≡ ys ++ x ∷ [] → slice_get xs (length ys) ≡ Some x
get_last {X} xs ys x same = subst (λ (zs : List X). slice_get zs (length ys) ≡ Some x) (sym same) (last ys)
  where
    last : (ys : List X) → slice_get (ys ++ x ∷ []) (length ys) ≡ Some x
    last [] = refl
    last (z ∷ zs) = last zs

-- one worker more
pub numbers_pushed : {S O : Type 0} (workers now : List (Worker S O)) (w : Worker S O) → now ≡ workers ++ w ∷ []
    → numbers_of now ≡ numbers_of workers ++ suc w.number ∷ []
numbers_pushed {S} {O} workers now w same = ap numbers_of same ∙ map-append (λ (v : Worker S O). suc v.number) workers (w ∷ [])

-- workers at the same places with the same numbers
pub same_numbers : {S O : Type 0} (xs ys : List (Worker S O)) → length ys ≡ length xs
    → ((i : ℕ) (d : Worker S O) → i < length xs → (get_or ys i d).number ≡ (get_or xs i d).number) → numbers_of ys ≡ numbers_of xs
same_numbers [] [] long each = refl
same_numbers [] (y ∷ ys) long each = absurd (omega (arith, long))
same_numbers (x ∷ xs) [] long each = absurd (omega (arith, long))
same_numbers (x ∷ xs) (y ∷ ys) long each = λ i. suc (each 0 x (omega arith) i)
    ∷ same_numbers xs ys (omega (arith, long)) (λ k d less. each (suc k) d (omega (arith, less))) i

-- the numbers that were left, once the last of them has a worker
pub numbered : {S O : Type 0} (workers now : List (Worker S O)) (left old number n : ℕ) → (n ≤ old) ⊎ Contains (numbers_of workers) n
    → suc left ≡ old → number ≡ left → numbers_of now ≡ numbers_of workers ++ suc number ∷ []
    → (n ≤ left) ⊎ Contains (numbers_of now) n
numbered workers now left old number n (inl low) shorter is pushed =
    let c : (n ≤ left) ⊎ (n ≡ suc number) = grind (arith, low, shorter, is) in
    elim c [
      | inl lower ↦ inl lower
      | inr last ↦ inr (subst (λ (ns : List ℕ). Contains ns n) (sym pushed)
          (Contains-append_right (numbers_of workers) (suc number ∷ []) n
          (subst (Contains (suc number ∷ [])) (sym last) (one_in (suc number)))))
    ]
numbered workers now left old number n (inr among) shorter is pushed =
    inr (subst (λ (ns : List ℕ). Contains ns n) (sym pushed) (Contains-append_left (numbers_of workers) (suc number ∷ []) n among))

-- with no outcome yet
pub begun_with : {S O : Type 0} (HasDone : List ℕ → List ℕ → S → Type 0) (numbers : List ℕ) (outcomes : List (Numbered O)) (state : S)
    → outcomes ≡ [] → HasDone numbers [] state → HasDone numbers (files_in outcomes) state
begun_with {S} {O} HasDone numbers outcomes state none begun =
    subst (λ (ns : List (Numbered O)). HasDone numbers (files_in ns) state) (sym none) begun

pub no_items : {X : Type 0} (xs : List X) → length xs ≡ 0 → xs ≡ []
no_items [] none = refl
no_items (x ∷ xs) none = absurd (omega (arith, none))

-- a vector whose items were lent as a slice has those of the slice
pub written_back : {X : Type 0} (items : List X) (len : ℕ) (now : List X) → len ≡ length items → length now ≡ length items
    → take len (now ++ drop (length now) items) ≡ now
written_back items len now is same =
    ap (λ (n : ℕ). take n (now ++ drop (length now) items)) (is ∙ sym same) ∙ take-append_seam now (drop (length now) items)
