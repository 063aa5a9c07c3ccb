-- What SLL says from a set to which it came, it says from the set where it began, and so from the decision.
use Rattle.std.proofs.Common.{◌≡◌, inl, inr, ℕ, suc, ◌+◌, List, [], ◌∷◌, ◌++◌, Contains, length, sym, subst, append_assoc, arith}
use Rattle.std.proofs.lemmas.List.{length-append}
use Rattle.g4_net.specs.Configurations.{Config, IsRow, wildcard}
use Rattle.g4_net.specs.Lookahead.{Next, Start}
use Rattle.g4_net.specs.Network.{ParserNetwork}
use Rattle.g4_net.specs.Prediction.{Judges, Led, Looked, Sll, SllFrom, Verdict, ended, led_to}
use Rattle.g4_net.specs.Prediction as prediction
use Rattle.g4_net.proofs.Pigeons.{In}
use Rattle.g4_lookahead.specs.EndOfList.{GoesOn}
use Rattle.g4_lookahead.proofs.Judging.{AreSame, sll_same}
use Rattle.g4_predict.specs.Reached.{IsReached}
use Rattle.g4_predict.proofs.Ending.{next_entry, sll_goes_on}
use Rattle.g4_predict.proofs.Reached.{reached_next, reached_row, reached_start}

-- SLL goes along the symbols from the set of the row x to that of another, and after each set on the way it looks at another symbol.
-- These are its steps.
pub data GoesAlong (net : ParserNetwork) (x : List Config) : List ℕ → List Looked → List Config → Type 0 where
  here : GoesAlong net x [] [] x
  onward : (w : List ℕ) (steps : List Looked) (y : List Config) (a : ℕ) (z : List Config) → GoesAlong net x w steps y
      → GoesOn (Next net (Contains y) a) → IsRow z (Next net (Contains y) a)
      → GoesAlong net x (w ++ a ∷ []) (steps ++ record { symbol = a; led = led_to z } ∷ []) z

-- the row of a set has its members
row_same : (row : List Config) (C : Config → Type 0) → IsRow row C → AreSame (Contains row) C
row_same row C is c = ((is.exactly c).0, (is.exactly c).1)

module _ (net : ParserNetwork) where
  -- one symbol more
  goes_on : (y z : List Config) (a : ℕ) (rest : List ℕ) (k : ℕ) (v : Verdict) (looked : List Looked) → GoesOn (Next net (Contains y) a)
      → IsRow z (Next net (Contains y) a) → SllFrom net (Contains z) rest (suc k) v looked
      → SllFrom net (Contains y) (a ∷ rest) k v (next_entry a z ∷ looked)
  goes_on y z a rest k v looked goes is says =
      let D : Config → Type 0 = Next net (Contains y) a in
      sll_goes_on net (Contains y) D a rest k v looked z (λ c. ((λ h. h), (λ h. h))) is goes
      (sll_same net (Contains z) D (λ c. (row_same z D is c).0) (λ c. (row_same z D is c).1) rest (suc k) v looked says)

  -- what SLL says from where it came, it says from where it began
  pub says_along : (x : List Config) (w : List ℕ) (steps : List Looked) (y : List Config) → GoesAlong net x w steps y
      → (k : ℕ) (rest : List ℕ) (v : Verdict) (looked : List Looked) → SllFrom net (Contains y) rest (k + length w) v looked
      → SllFrom net (Contains x) (w ++ rest) k v (steps ++ looked)
  says_along x _ _ _ here k rest v looked says =
      let same : k + length {A = ℕ} [] ≡ k = omega arith in subst (λ (n : ℕ). SllFrom net (Contains x) rest n v looked) same says
  says_along x _ _ z (onward w steps y a _ along goes is) k rest v looked says =
      let long = length-append w (a ∷ []) in
      let count : k + length (w ++ a ∷ []) ≡ suc (k + length w) = omega (arith, long) in
      let one = goes_on y z a rest (k + length w) v looked goes is
      (subst (λ (n : ℕ). SllFrom net (Contains z) rest n v looked) count says) in
      let before = says_along x w steps y along k (a ∷ rest) v (next_entry a z ∷ looked) one in
      subst (λ (u : List ℕ). SllFrom net (Contains x) u k v ((steps ++ next_entry a z ∷ []) ++ looked)) (sym (append_assoc w (a ∷ []) rest))
      (subst (λ (ls : List Looked). SllFrom net (Contains x) (w ++ a ∷ rest) k v ls)
      (sym (append_assoc steps (next_entry a z ∷ []) looked)) before)

  -- and so from the decision in whose start set it began
  pub says_onward : (d : ℕ) (A : ℕ → Type 0) (start : List Config) (w : List ℕ) (steps : List Looked) (row : List Config) (rest : List ℕ)
      (v : Verdict) (looked : List Looked) → IsRow start (Start net d A wildcard) → GoesAlong net start w steps row
      → SllFrom net (Contains row) rest (length w) v looked
      → Sll net d A (w ++ rest) v (record { start = start; looked = steps ++ looked })
  says_onward d A start w steps row rest v looked is along says =
      let C : Config → Type 0 = Start net d A wildcard in
      let same = row_same start C is in
      let count : length w ≡ 0 + length w = omega arith in (
        is,
        sll_same net (Contains start) C (λ c. (same c).0) (λ c. (same c).1) (w ++ rest) 0 v (steps ++ looked)
            (says_along start w steps row along 0 rest v looked
            (subst (λ (n : ℕ). SllFrom net (Contains row) rest n v looked) count says)),
      )

  -- SLL comes to each configuration of a set along which it goes
  pub reached_along : (x : List Config) (w : List ℕ) (steps : List Looked) (y : List Config) → GoesAlong net x w steps y
      → ((c : Config) → Contains x c → IsReached net c) → (c : Config) → Contains y c → IsReached net c
  reached_along x _ _ _ here all = all
  reached_along x _ _ z (onward w steps y a _ along goes is) all =
      reached_row net z (Next net (Contains y) a) is (reached_next net (Contains y) a (reached_along x w steps y along all))

  -- and so from a start set on
  pub reached_onward : (d : ℕ) (A : ℕ → Type 0) (start : List Config) (w : List ℕ) (steps : List Looked) (row : List Config)
      → IsRow start (Start net d A wildcard) → GoesAlong net start w steps row → (c : Config) → Contains row c → IsReached net c
  reached_onward d A start w steps row is along =
      reached_along start w steps row along (reached_row net start (Start net d A wildcard) is (reached_start net d A))

  -- what an entry led to, if it is a row, is reached
  abbrev HasReached : Led → Type 0
  HasReached (led_to row) = (c : Config) → Contains row c → IsReached net c
  HasReached (ended v) = Unit {0}

  judged_reached : (D : Config → Type 0) (k a : ℕ) (Later : Verdict → List Looked → Type 0) → ((c : Config) → D c → IsReached net c)
      → ((v : Verdict) (more : List Looked) → Later v more → (entry : Looked) → In entry more → HasReached entry.led)
      → (v : Verdict) (looked : List Looked) → Judges D k a Later v looked → (entry : Looked) → In entry looked → HasReached entry.led
  judged_reached D k a Later all later _ _ (prediction.nothing_left e) entry (inl is) =
      subst (λ (l : Looked). HasReached l.led) (sym is) tt
  judged_reached D k a Later all later _ _ (prediction.nothing_left e) entry (inr i) = absurd i
  judged_reached D k a Later all later _ _ (prediction.one_left j o) entry (inl is) =
      subst (λ (l : Looked). HasReached l.led) (sym is) tt
  judged_reached D k a Later all later _ _ (prediction.one_left j o) entry (inr i) = absurd i
  judged_reached D k a Later all later _ _ (prediction.gives_up n c l) entry (inl is) =
      subst (λ (l : Looked). HasReached l.led) (sym is) tt
  judged_reached D k a Later all later _ _ (prediction.gives_up n c l) entry (inr i) = absurd i
  judged_reached D k a Later all later _ _ (prediction.goes_on v more row e n m is h) entry (inl at) =
      subst (λ (l : Looked). HasReached l.led) (sym at) (reached_row net row D is all)
  judged_reached D k a Later all later _ _ (prediction.goes_on v more row e n m is h) entry (inr i) = later v more h entry i

  sll_reached : (C : Config → Type 0) (w : List ℕ) (k : ℕ) (v : Verdict) (looked : List Looked) → ((c : Config) → C c → IsReached net c)
      → SllFrom net C w k v looked → (entry : Looked) → In entry looked → HasReached entry.led
  sll_reached C [] k v looked all h = absurd h
  sll_reached C (a ∷ w) k v looked all h =
      judged_reached (Next net C a) k a (SllFrom net (Next net C a) w (suc k)) (reached_next net C a all)
      (λ u more later. sll_reached (Next net C a) w (suc k) u more (reached_next net C a all) later) v looked h

  -- SLL comes to each configuration of a path's start set
  pub start_of_path : (d : ℕ) (A : ℕ → Type 0) (w : List ℕ) (v : Verdict) (path : prediction.Path) → Sll net d A w v path
      → (c : Config) → Contains path.start c → IsReached net c
  start_of_path d A w v path sll = reached_row net path.start (Start net d A wildcard) sll.0 (reached_start net d A)

  -- and of the set of each of its steps
  pub step_of_path : (d : ℕ) (A : ℕ → Type 0) (w : List ℕ) (v : Verdict) (path : prediction.Path) (entry : Looked) (row : List Config)
      → Sll net d A w v path → In entry path.looked → entry.led ≡ led_to row → (c : Config) → Contains row c → IsReached net c
  step_of_path d A w v path entry row sll i is =
      let reached : HasReached entry.led = sll_reached (Start net d A wildcard) w 0 v path.looked (reached_start net d A) sll.1 entry i in
      subst HasReached is reached
