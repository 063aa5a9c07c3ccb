-- A stage gives at most one thing, and so do two stages, one after another.
use Rattle.std.proofs.Common.{◌≡◌, ◌≢◌, ℕ, List, Result, Ok, Err, ap, subst}
use Rattle.g4_load.specs.declared.fault.GrammarFault.{GrammarFault}
use Rattle.g4_load.specs.declared.fault.CheckError.{CheckError}
use Rattle.g4_load.specs.declared.fault.CheckError.TheVariants as errors
use Rattle.g4_load.specs.declared.stop.Stop.TheVariants as stopping
use Rattle.g4_load.specs.Stages.{Gives, Then, stops, goes_on, OfFile, passes, fails}

-- there is at most one result
abbrev pub IsSingle : {X E : Type 0} → (Result X E → Type 0) → Type 0
IsSingle {X} {E} IsResult = (a b : Result X E) → IsResult a → IsResult b → a ≡ b

-- there is at most one result beside the free answer
abbrev pub IsSingleBeside : {X E : Type 0} → E → (Result X E → Type 0) → Type 0
IsSingleBeside {X} {E} free IsResult = (a b : Result X E) → IsResult a → IsResult b → a ≢ Err free → b ≢ Err free → a ≡ b

module _ {X E : Type 0} (IsAnswer : Result X E → Type 0) (seen : E → CheckError) (free : E) (unseen : seen free ≡ errors.NoMemory)
    (one : IsSingleBeside free IsAnswer) where
  -- a fault that is seen is not the free answer
  seen_apart : (e : E) (fault : GrammarFault) → seen e ≡ errors.Fault fault → ◌≢◌ {A = Result X E} (Err e) (Err free)
  seen_apart e fault t same = let here : e ≡ free = cc in let seen_same : seen e ≡ seen free = ap seen here in cc

  -- a stage gives at most one thing
  pub one_gift : IsSingle (Gives IsAnswer seen)
  one_gift (Ok x) (Ok y) h k =
      let same : ◌≡◌ {A = Result X E} (Ok x) (Ok y) = one (Ok x) (Ok y) h k (λ e. cc) (λ e. cc) in
      cc
  one_gift (Ok x) (Err g) h (d, k, u) =
      let same : ◌≡◌ {A = Result X E} (Ok x) (Err d) = one (Ok x) (Err d) h k (λ e. cc) (seen_apart d g u) in
      absurd (let no_way : ⊥ = cc in no_way)
  one_gift (Err f) (Ok y) (e, h, t) k =
      let same : ◌≡◌ {A = Result X E} (Ok y) (Err e) = one (Ok y) (Err e) k h (λ p. cc) (seen_apart e f t) in
      absurd (let no_way : ⊥ = cc in no_way)
  one_gift (Err f) (Err g) (e, h, t) (d, k, u) =
      let same : ◌≡◌ {A = Result X E} (Err e) (Err d) = one (Err e) (Err d) h k (seen_apart e f t) (seen_apart d g u) in
      cc

module _ {X Y F : Type 0} (First : Result X F → Type 0) (Second : X → Result Y F → Type 0) (one : IsSingle First)
    (one_more : (x : X) → IsSingle (Second x)) where
  -- two stages give at most one thing
  pub one_then : IsSingle (Then First Second)
  one_then a b (stops f h) (stops g k) =
      let same : ◌≡◌ {A = Result X F} (Err f) (Err g) = one (Err f) (Err g) h k in
      cc
  one_then a b (stops f h) (goes_on y s k m) =
      let same : ◌≡◌ {A = Result X F} (Err f) (Ok y) = one (Err f) (Ok y) h k in
      absurd (let no_way : ⊥ = cc in no_way)
  one_then a b (goes_on x r h l) (stops g k) =
      let same : ◌≡◌ {A = Result X F} (Err g) (Ok x) = one (Err g) (Ok x) k h in
      absurd (let no_way : ⊥ = cc in no_way)
  one_then a b (goes_on x r h l) (goes_on y s k m) =
      let ok : ◌≡◌ {A = Result X F} (Ok x) (Ok y) = one (Ok x) (Ok y) h k in
      let same : y ≡ x = cc in
      one_more x r s l (subst (λ z. Second z s) same m)

module _ {X : Type 0} (name : List ℕ) (Stage : Result X GrammarFault → Type 0) (one : IsSingle Stage) where
  -- a stage over one file gives at most one thing
  pub one_of_file : IsSingle (OfFile name Stage)
  one_of_file a b (passes x h) (passes y k) =
      let same : ◌≡◌ {A = Result X GrammarFault} (Ok x) (Ok y) = one (Ok x) (Ok y) h k in
      let values : x ≡ y = cc in
      ap (λ z. Ok z) values
  one_of_file a b (passes x h) (fails g k) =
      let same : ◌≡◌ {A = Result X GrammarFault} (Ok x) (Err g) = one (Ok x) (Err g) h k in
      absurd (let no_way : ⊥ = cc in no_way)
  one_of_file a b (fails f h) (passes y k) =
      let same : ◌≡◌ {A = Result X GrammarFault} (Ok y) (Err f) = one (Ok y) (Err f) k h in
      absurd (let no_way : ⊥ = cc in no_way)
  one_of_file a b (fails f h) (fails g k) =
      let same : ◌≡◌ {A = Result X GrammarFault} (Err f) (Err g) = one (Err f) (Err g) h k in
      let faults : f ≡ g = cc in
      ap (λ z. Err (stopping.Fault name z)) faults
