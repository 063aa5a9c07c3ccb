-- Which files are dealt to a hand.
use Rattle.std.proofs.Common.{◌≡◌, ◌≢◌, ◌<◌, ◌≤◌, ◌+◌, ◌-◌, ◌%◌, ◌==◌, ℕ, zero, suc, Bool, true, false, List, [], ◌∷◌, ◌++◌, All, Some, if◌then◌else◌, length, refl, sym, ◌∙◌, ap, subst, arith}
use Rattle.std.proofs.lemmas.Bool.Decides.{nat_tests}
use Rattle.std.proofs.lemmas.List.Elements.{All-append, All-take, All-nil, All-cons, All-pop}
use Rattle.std.proofs.Math.Nat.{mod-eq_of_lt}
use Rattle.crossbeam_deque.proofs.Lists.{one_turn}
use lib.Seq.{take-append_seam}
use Rattle.g4_hands.specs.Dealing.{dealt}

more_if : (jobs hand k : ℕ) (b : Bool) → (k % jobs == hand) ≡ b
    → dealt jobs hand (suc k) ≡ (if b then dealt jobs hand k ++ k ∷ [] else dealt jobs hand k)
more_if jobs hand k b is = ap (λ (c : Bool). if c then dealt jobs hand k ++ k ∷ [] else dealt jobs hand k) is

-- one more file, which goes to the hand
pub dealt_here : (jobs hand k : ℕ) → k % jobs ≡ hand → dealt jobs hand (suc k) ≡ dealt jobs hand k ++ k ∷ []
dealt_here jobs hand k is = more_if jobs hand k true (grind (arith, nat_tests))

-- and which goes to another
pub dealt_there : (jobs hand k : ℕ) → k % jobs ≢ hand → dealt jobs hand (suc k) ≡ dealt jobs hand k
dealt_there jobs hand k other = more_if jobs hand k false (grind (arith, nat_tests))

-- the first file of a hand is that of its number
pub dealt_before : (jobs hand n : ℕ) → hand < jobs → n ≤ hand → dealt jobs hand n ≡ []
dealt_before jobs hand zero in_jobs le = refl
dealt_before jobs hand (suc n) in_jobs le =
    let same : n % jobs ≡ n = mod-eq_of_lt (omega (arith, in_jobs, le)) in
    dealt_there jobs hand n (λ e. omega (arith, e, same, le)) ∙ dealt_before jobs hand n in_jobs (omega (arith, le))

-- after a file of a hand the next jobs - 1 files go to others
pub dealt_gap : (jobs hand k n : ℕ) → k % jobs ≡ hand → n < jobs → dealt jobs hand (suc (k + n)) ≡ dealt jobs hand (suc k)
dealt_gap jobs hand k zero is lt = ap (λ (m : ℕ). dealt jobs hand (suc m)) (omega arith)
dealt_gap jobs hand k (suc n) is lt =
    let not : (k + suc n) % jobs ≢ hand = λ e. let far = one_turn k (k + suc n) jobs (omega arith) (omega (arith, lt)) (is ∙ sym e) in
    omega (arith, far) in
    let same : k + suc n ≡ suc (k + n) = omega arith in
    dealt_there jobs hand (k + suc n) not ∙ (ap (λ (m : ℕ). dealt jobs hand m) same ∙ dealt_gap jobs hand k n is (omega (arith, lt)))

-- the same by any number up to the next file of the hand
pub dealt_until : (jobs hand k m : ℕ) → k % jobs ≡ hand → k < m → m ≤ k + jobs → dealt jobs hand m ≡ dealt jobs hand k ++ k ∷ []
dealt_until jobs hand k m is lt le =
    let n : ℕ = m - suc k in
    let same : m ≡ suc (k + n) = omega (arith, lt) in
    ap (λ (i : ℕ). dealt jobs hand i) same ∙ (dealt_gap jobs hand k n is (omega (arith, same, le)) ∙ dealt_here jobs hand k is)

abbrev all_of : ℕ → ℕ → ℕ → List ℕ → Type 0
all_of jobs hand files xs = All (λ k. (k < files) × (k % jobs ≡ hand)) xs

all_if : (jobs hand files : ℕ) (b : Bool) → (files % jobs == hand) ≡ b → all_of jobs hand (suc files) (dealt jobs hand files)
    → all_of jobs hand (suc files) (if b then dealt jobs hand files ++ files ∷ [] else dealt jobs hand files)
all_if jobs hand files true is h =
    All-append (λ k. (k < suc files) × (k % jobs ≡ hand)) (dealt jobs hand files) (files ∷ []) h
    (All-cons (λ k. (k < suc files) × (k % jobs ≡ hand)) files [] (omega arith, grind (arith, nat_tests))
    (All-nil (λ k. (k < suc files) × (k % jobs ≡ hand))))
all_if jobs hand files false is h = h

wider : (jobs hand files : ℕ) (xs : List ℕ) → all_of jobs hand files xs → all_of jobs hand (suc files) xs
wider jobs hand files xs h = λ i x e. let p = h i x e in (omega (arith, p.0), p.1)

all_dealt : (jobs hand files : ℕ) → all_of jobs hand files (dealt jobs hand files)
all_dealt jobs hand zero = All-nil (λ k. (k < 0) × (k % jobs ≡ hand))
all_dealt jobs hand (suc files) = all_if jobs hand files (files % jobs == hand) refl
    (wider jobs hand files (dealt jobs hand files) (all_dealt jobs hand files))

-- what comes next on the deque of a hand is a file that was dealt to it
pub next_is : (jobs hand files k : ℕ) (before after : List ℕ) → dealt jobs hand files ≡ (before ++ k ∷ []) ++ after
    → (k < files) × (k % jobs ≡ hand)
next_is jobs hand files k before after are =
    let P : ℕ → Type 0 = λ x. (x < files) × (x % jobs ≡ hand) in
    let front : List ℕ = before ++ k ∷ [] in
    let all : All P (front ++ after) = subst (All P) are (all_dealt jobs hand files) in
    let some : All P front = subst (All P) (take-append_seam front after) (All-take P (length front) (front ++ after) all) in
    (All-pop P front before (Some k) refl some).1
