-- What is noted in tables, and sets that stay under their numbers.
use Rattle.std.proofs.Common.{◌≡◌, ℕ, zero, suc, ◌<◌, ◌⊎◌, inl, inr, List, [], ◌∷◌, ◌++◌, Bool, true, false, Option, Some, None, cond, Contains, length, get_or, slice_get, refl, sym, ◌∙◌, ap, subst, arith, length-append}
use Rattle.std.proofs.lemmas.Option.{slice_get-get_or}
use Rattle.g4_configs.proofs.Keys.{pair_exact}
use Rattle.g4_frames.specs.Framed.{FramedNext, FramedStart, Lowered}
use Rattle.g4_frames.specs.Running.{AreSame}
use Rattle.g4_guards.specs.Levels.{AllowedAt}
use Rattle.g4_net.specs.Configurations.{Config}
use Rattle.g4_net.specs.Network.{ParserNetwork}
use Rattle.g4_stacks.specs.Table.{Numbers, number_at, pair_eq}
use Rattle.g4_full.specs.declared.frames.Frame.{Frame}
use Rattle.g4_full.specs.declared.frames.Frames.{Frames}
use Rattle.g4_full.specs.Remembered.{AreNoted, IsForgotten, IsLowered, IsNext, IsNumber, IsRight, IsSet, IsSound, IsStart, KeepsSets, KeepsTables, row_by, row_of}

module _ {X : Type 0} where
  same_some : (x y : X) → Some x ≡ Some y → x ≡ y
  same_some x y h = cc

  no_some : (x : X) → None ≡ Some x → ⊥
  no_some x h = cc

  -- what was in a list is in a longer one
  at_left : (xs ys : List X) (k : ℕ) → k < length xs → slice_get (xs ++ ys) k ≡ slice_get xs k
  at_left [] ys k lt = absurd (omega (arith, lt))
  at_left (z ∷ xs) ys zero lt = refl
  at_left (z ∷ xs) ys (suc k) lt = at_left xs ys k (omega (arith, lt))

  -- the new last place has the new one
  at_last : (xs : List X) (x : X) → slice_get (xs ++ x ∷ []) (length xs) ≡ Some x
  at_last [] x = refl
  at_last (z ∷ xs) x = at_last xs x

  -- a place is an old one or the last
  at_cases : (xs : List X) (y x : X) (k : ℕ) → slice_get (xs ++ y ∷ []) k ≡ Some x → (slice_get xs k ≡ Some x) ⊎ (y ≡ x)
  at_cases [] y x zero is = inr (same_some y x is)
  at_cases [] y x (suc k) is = absurd (no_some x is)
  at_cases (z ∷ xs) y x zero is = inl is
  at_cases (z ∷ xs) y x (suc k) is = at_cases xs y x k is

-- what is at a place of a list that was looked up
pub got : {X : Type 0} (xs ys : List X) (k : ℕ) (x : X) → ys ≡ xs → k < length ys → x ≡ get_or ys k x → slice_get xs k ≡ Some x
got xs ys k x same lt is = ap (λ l. slice_get l k) (sym same) ∙ slice_get-get_or ys k x lt ∙ ap Some (sym is)

-- how many earlier sets there may be
abbrev pub left : Option ℕ → ℕ
left None = 0
left (Some n) = suc n

-- an empty table has nothing wrong
pub noted_none : (P : ℕ → ℕ → ℕ → Type 0) (table : Numbers) → table ≡ [] → AreNoted table P
noted_none P table empty = subst (λ (t : Numbers). AreNoted t P) (sym empty) (λ x y n is. absurd (no_some n is))

-- a table with the same entries
pub noted_same : (P : ℕ → ℕ → ℕ → Type 0) (old new : Numbers) → new ≡ old → AreNoted old P → AreNoted new P
noted_same P old new same all = subst (λ (t : Numbers). AreNoted t P) (sym same) all

-- a table of which more is right
pub noted_weaker : (P Q : ℕ → ℕ → ℕ → Type 0) (table : Numbers) → ((x y n : ℕ) → P x y n → Q x y n) → AreNoted table P → AreNoted table Q
noted_weaker P Q table to all x y n is = to x y n (all x y n is)

-- and one with a number more
pub noted_more : (P : ℕ → ℕ → ℕ → Type 0) (old new : Numbers) (a b r : ℕ) → AreNoted old P → P a b r
    → ((q : ℕ × ℕ) → number_at new q ≡ cond (pair_eq (a, b) q) (Some r) (number_at old q)) → AreNoted new P
noted_more P old new a b r all here updates x y n is = by (pair_eq (a, b) (x, y)) refl
  where
    by : (t : Bool) → pair_eq (a, b) (x, y) ≡ t → P x y n
    by true e =
        let same : (a, b) ≡ (x, y) = pair_exact (a, b) (x, y) e in
        let found : number_at new (x, y) ≡ Some r =
        updates (x, y) ∙ ap (λ (t : Bool). cond t (Some r) (number_at old (x, y))) e in
        let at : r ≡ n = same_some r n (sym found ∙ is) in
        subst (λ (p : ℕ × ℕ). P p.0 p.1 n) same (subst (λ (m : ℕ). P a b m) at here)
    by false e =
        let kept : number_at new (x, y) ≡ number_at old (x, y) =
        updates (x, y) ∙ ap (λ (t : Bool). cond t (Some r) (number_at old (x, y))) e in
        all x y n (sym kept ∙ is)

-- nothing remembered, nothing wrong
pub forgotten_sound : (net : ParserNetwork) (m : Frames) → IsForgotten m → IsSound net m
forgotten_sound net m none = record {
  sets = λ n e is. absurd (no_some e (ap (λ (es : List Frame). slice_get es n) (sym none.sets) ∙ is));
  starts = noted_none (IsStart net m) m.starts.entries none.starts;
  symbols = noted_none (IsNext net m) m.symbols.entries none.symbols;
  returns = noted_none (IsLowered net m) m.returns.entries none.returns;
}

-- Sets that stay under their numbers.
module _ (old new : Frames) (keeps : KeepsSets old new) where
  pub number_kept : (n : ℕ) → IsNumber old n → IsNumber new n
  number_kept n lt = let more = keeps.more in omega (arith, lt)

  pub row_kept : (n : ℕ) → IsNumber old n → row_of new n ≡ row_of old n
  row_kept n lt = ap row_by (keeps.same n lt)

  pub set_kept : (n : ℕ) (F : Config → Type 0) → IsSet old n F → IsSet new n F
  set_kept n F (lt, same) = (
    number_kept n lt,
    subst (λ (row : List Config). AreSame (Contains row) F) (sym (row_kept n lt)) same,
  )

  -- and so do the sets after them
  pub after_kept : (G : List Config → Config → Type 0) (from n : ℕ) → IsNumber old from → IsSet old n (G (row_of old from))
      → IsSet new n (G (row_of new from))
  after_kept G from n lt set =
      subst (λ (row : List Config). IsSet new n (G row)) (sym (row_kept from lt)) (set_kept n (G (row_of old from)) set)

  module _ (net : ParserNetwork) (sound : IsSound net old) where
    -- the sets being right, all is where the steps are the same
    pub sound_kept : KeepsTables old new → ((n : ℕ) (e : Frame) → slice_get new.sets.items n ≡ Some e → IsRight net e) → IsSound net new
    sound_kept tables right = record {
      sets = right;
      starts = noted_same (IsStart net new) old.starts.entries new.starts.entries tables.starts
          (noted_weaker (IsStart net old) (IsStart net new) old.starts.entries
          (λ d condition n is. set_kept n (FramedStart net d (AllowedAt net d condition)) is) sound.starts);
      symbols = noted_same (IsNext net new) old.symbols.entries new.symbols.entries tables.symbols
          (noted_weaker (IsNext net old) (IsNext net new) old.symbols.entries
          (λ from a n is. (number_kept from is.0, after_kept (λ row. FramedNext net (Contains row) a) from n is.0 is.1)) sound.symbols);
      returns = noted_same (IsLowered net new) old.returns.entries new.returns.entries tables.returns
          (noted_weaker (IsLowered net old) (IsLowered net new) old.returns.entries
          (λ from t n is. (number_kept from is.0, after_kept (λ row. Lowered net (Contains row) (t ∷ [])) from n is.0 is.1)) sound.returns);
    }

-- the same sets stay
pub keeps_same : (old new : Frames) → new.sets.items ≡ old.sets.items → KeepsSets old new
keeps_same old new same = record {
  more = (let l = ap (λ (es : List Frame). length es) same in omega (arith, l));
  same = λ n lt. ap (λ (es : List Frame). slice_get es n) same;
}

pub sound_same : (net : ParserNetwork) (old new : Frames) → new.sets.items ≡ old.sets.items → KeepsTables old new → IsSound net old
    → IsSound net new
sound_same net old new same tables sound =
    sound_kept old new (keeps_same old new same) net sound tables
    (λ n e is. sound.sets n e (ap (λ (es : List Frame). slice_get es n) (sym same) ∙ is))

-- A set more is remembered.
module _ (old new : Frames) (e : Frame) (added : new.sets.items ≡ old.sets.items ++ e ∷ []) where
  pub keeps_more : KeepsSets old new
  keeps_more = record {
    more = (let l = ap (λ (es : List Frame). length es) added ∙ length-append old.sets.items (e ∷ []) in omega (arith, l));
    same = λ n lt. ap (λ (es : List Frame). slice_get es n) added ∙ at_left old.sets.items (e ∷ []) n lt;
  }

  pub sound_more : (net : ParserNetwork) → KeepsTables old new → IsSound net old → IsRight net e → IsSound net new
  sound_more net tables sound right = sound_kept old new keeps_more net sound tables
      (λ n f is. elim (at_cases old.sets.items e f n (ap (λ (es : List Frame). slice_get es n) (sym added) ∙ is)) [
        | inl before ↦ sound.sets n f before
        | inr now ↦ subst (IsRight net) now right
      ])

  -- under the next number
  pub number_new : IsNumber new (length old.sets.items)
  number_new = let l = ap (λ (es : List Frame). length es) added ∙ length-append old.sets.items (e ∷ []) in omega (arith, l)

  pub row_new : row_of new (length old.sets.items) ≡ e.set
  row_new = ap row_by (ap (λ (es : List Frame). slice_get es (length old.sets.items)) added ∙ at_last old.sets.items e)
