-- What the caller's state has while the states of workers are joined in it, and while the files that are left are worked on.
use Rattle.std.proofs.Common.{◌≡◌, ◌<◌, ◌≤◌, ◌⊎◌, inl, inr, ℕ, suc, ◌+◌, List, [], ◌∷◌, ◌++◌, Option, true, Contains, sym, ◌∙◌, ap, subst, arith}
use Rattle.std.proofs.lemmas.List.{map-append}
use Rattle.std.proofs.lemmas.List.Elements.{Contains-append_cases, Contains-append_left, Contains-append_right}
use Rattle.std.specs.Option.{is_some}
use Rattle.g4_workers.specs.declared.worker.Worker.{Worker}
use Rattle.g4_workers.specs.Placing.{AreOutcomesOf, HasAll, HasJoined, IsPlaced, files_in, numbers_of}
use Rattle.g4_workers.proofs.Placed.{in_files, is_one, none_in, one_in}

-- Exactly some files were worked on, all that have an outcome in a place among them. The states of the workers that are not left are
-- joined.
pub record IsJoining {S O : Type 0} (HasDone : List ℕ → List ℕ → S → Type 0) (files : ℕ) (first left : List (Worker S O))
    (slots : List (Option O)) (state : S) : Type 0 where
  pub numbers : List ℕ
  pub done : List ℕ
  pub has : HasDone numbers done state
  pub all : (n : ℕ) → (n ≡ 0) ⊎ Contains (numbers_of first) n → Contains numbers n ⊎ Contains (numbers_of left) n
  pub each : (k : ℕ) → IsPlaced slots k → Contains done k
  pub within : (k : ℕ) → Contains done k → k < files

module _ {S O : Type 0} (HasDone : List ℕ → List ℕ → S → Type 0) (files : ℕ) (IsOutcome : ℕ → O → Type 0) where
  -- at first no state is joined
  pub none_joined : (workers : List (Worker S O)) (slots : List (Option O)) (state : S) → HasDone (0 ∷ []) [] state
      → ((k : ℕ) → IsPlaced slots k → ⊥) → IsJoining HasDone files workers workers slots state
  none_joined workers slots state begun none = record {
    numbers = 0 ∷ [];
    done = [];
    has = begun;
    all = λ n is. elim is [ inl zero_is ↦ inl (subst (Contains (0 ∷ [])) (sym zero_is) (one_in 0)) | inr among ↦ inr among ];
    each = λ k placed. absurd (none k placed);
    within = λ k among. absurd (none_in k among);
  }

  -- one state more
  pub one_joined : (first old left : List (Worker S O)) (w : Worker S O) (slots now : List (Option O)) (before state : S)
      → IsJoining HasDone files first old slots before → old ≡ left ++ w ∷ [] → AreOutcomesOf files IsOutcome w.outcomes.items
      → ((k : ℕ) → IsPlaced now k → IsPlaced slots k ⊎ Contains (files_in w.outcomes.items) k)
      → ((numbers done : List ℕ) → HasDone numbers done before
      → HasDone (numbers ++ suc w.number ∷ []) (done ++ files_in w.outcomes.items) state)
      → IsJoining HasDone files first left now state
  one_joined first old left w slots now before state h same outcomes placed join = record {
    numbers = h.numbers ++ suc w.number ∷ [];
    done = h.done ++ files_in w.outcomes.items;
    has = join h.numbers h.done h.has;
    all = λ n is. elim (h.all n is) [
      | inl joined ↦ inl (Contains-append_left h.numbers (suc w.number ∷ []) n joined)
      | inr among ↦ elim (Contains-append_cases (numbers_of left) (suc w.number ∷ []) n
          (subst (λ (ns : List ℕ). Contains ns n) (ap numbers_of same
          ∙ map-append (λ (v : Worker S O). suc v.number) left (w ∷ [])) among)) [
            | inl before_it ↦ inr before_it
            | inr last ↦ inl (Contains-append_right h.numbers (suc w.number ∷ []) n last)
          ]
    ];
    each = λ k there. elim (placed k there) [
      | inl old_place ↦ Contains-append_left h.done (files_in w.outcomes.items) k (h.each k old_place)
      | inr new_place ↦ Contains-append_right h.done (files_in w.outcomes.items) k new_place
    ];
    within = λ k among. elim (Contains-append_cases h.done (files_in w.outcomes.items) k among) [
      | inl before_it ↦ h.within k before_it
      | inr new_one ↦ in_files files IsOutcome w.outcomes.items outcomes k new_one
    ];
  }

  -- none is left
  pub all_joined : (first left : List (Worker S O)) (slots : List (Option O)) (state : S) (jobs : ℕ)
      → IsJoining HasDone files first left slots state → left ≡ []
      → ((n : ℕ) → n ≤ jobs → (n ≡ 0) ⊎ Contains (numbers_of first) n)
      → HasJoined HasDone jobs files (λ n. ⊥) (IsPlaced slots) state
  all_joined first left slots state jobs h none numbers = record {
    numbers = h.numbers;
    done = h.done;
    has = h.has;
    all = λ n low. elim (h.all n (numbers n low)) [
      | inl joined ↦ inl joined
      | inr among ↦ inr (none_in n (subst (λ (ws : List (Worker S O)). Contains (numbers_of ws) n) none among))
    ];
    each = h.each;
    within = h.within;
  }

-- the files before one are done, and those that have an outcome in a place
abbrev pub IsPast : {O : Type 0} → ℕ → List (Option O) → ℕ → Type 0
IsPast file slots k = (k < file) ⊎ IsPlaced slots k

module _ {S O : Type 0} (HasDone : List ℕ → List ℕ → S → Type 0) (jobs files : ℕ) where
  -- none is before the first
  pub first_past : (slots : List (Option O)) (state : S) → HasJoined HasDone jobs files (λ n. ⊥) (IsPlaced slots) state
      → HasJoined HasDone jobs files (λ n. ⊥) (IsPast 0 slots) state
  first_past slots state h = record {
    numbers = h.numbers;
    done = h.done;
    has = h.has;
    all = h.all;
    each = λ k past. elim past [ inl less ↦ absurd (omega (arith, less)) | inr placed ↦ h.each k placed ];
    within = h.within;
  }

  -- one file more, which had an outcome in its place or was worked on now
  pub next_past : (file : ℕ) (slots now : List (Option O)) (slot : Option O) (before state : S)
      → HasJoined HasDone jobs files (λ n. ⊥) (IsPast file slots) before → file < files
      → ((k : ℕ) → IsPlaced now k → IsPlaced slots k) → (is_some slot ≡ true → IsPlaced slots file)
      → ((numbers done : List ℕ) → HasDone numbers done before
      → ((is_some slot ≡ true) × HasDone numbers done state) ⊎ HasDone numbers (done ++ file ∷ []) state)
      → HasJoined HasDone jobs files (λ n. ⊥) (IsPast (file + 1) now) state
  next_past file slots now slot before state h less kept had step = by (step h.numbers h.done h.has)
    where
      past : (k : ℕ) → (k < file + 1) ⊎ IsPlaced now k → IsPast file slots k ⊎ (k ≡ file)
      past k (inl low) = let c : (k < file) ⊎ (k ≡ file) = grind (arith, low) in
          elim c [ inl less_k ↦ inl (inl less_k) | inr e ↦ inr e ]
      past k (inr placed) = inl (inr (kept k placed))

      by : ((is_some slot ≡ true) × HasDone h.numbers h.done state) ⊎ HasDone h.numbers (h.done ++ file ∷ []) state
          → HasJoined HasDone jobs files (λ n. ⊥) (IsPast (file + 1) now) state
      by (inl same) = record {
        numbers = h.numbers;
        done = h.done;
        has = same.1;
        all = h.all;
        each = λ k is. elim (past k is) [
          | inl old ↦ h.each k old
          | inr e ↦ h.each k (inr (subst (IsPlaced slots) (sym e) (had same.0)))
        ];
        within = h.within;
      }
      by (inr more) = record {
        numbers = h.numbers;
        done = h.done ++ file ∷ [];
        has = more;
        all = h.all;
        each = λ k is. elim (past k is) [
          | inl old ↦ Contains-append_left h.done (file ∷ []) k (h.each k old)
          | inr e ↦ Contains-append_right h.done (file ∷ []) k (subst (Contains (file ∷ [])) (sym e) (one_in file))
        ];
        within = λ k among. elim (Contains-append_cases h.done (file ∷ []) k among) [
          | inl old ↦ h.within k old
          | inr last ↦ subst (λ (n : ℕ). n < files) (sym (is_one file k last)) less
        ];
      }

  -- all are past
  pub all_past : (slots : List (Option O)) (state : S) → HasJoined HasDone jobs files (λ n. ⊥) (IsPast files slots) state
      → HasAll HasDone jobs files state
  all_past slots state h = record {
    numbers = h.numbers;
    done = h.done;
    has = h.has;
    all = h.all;
    each = λ k less. h.each k (inl less);
    within = h.within;
  }
