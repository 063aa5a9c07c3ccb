-- No configuration occurs in a list twice.
use Rattle.std.proofs.Common.{ℕ, inl, inr, List, [], ◌∷◌, ◌++◌, sym}
use Rattle.g4_ordered.specs.Network.{LexerNetwork}
use Rattle.g4_ordered.specs.Configurations.{LexerConfig, In}
use Rattle.g4_ordered.specs.Lists.{Appends, done, dropped, appended, Keeps, no_more, keeps, leaves, ListAt, first, step, HasNoRepetition}
use Rattle.g4_ordered.proofs.Lists.{In-cases}
use Rattle.g4_ordered.proofs.Members.{kept_in}

-- a list has no repetition with one more after it that it did not have
one_more : (old : List LexerConfig) (c : LexerConfig) → HasNoRepetition old → (In c old → ⊥) → HasNoRepetition (old ++ c ∷ [])
one_more [] c h fresh = (λ i. i, tt)
one_more (b ∷ old) c h fresh = (apart, one_more old c h.1 (λ i. fresh (inr i)))
  where
    apart : In b (old ++ c ∷ []) → ⊥
    apart i = elim (In-cases old (c ∷ []) b i) [
      | inl j ↦ h.0 j
      | inr j ↦ elim j
          [ inl is ↦ fresh (inl (sym is)) | inr no_place ↦ no_place ]
    ]

-- appending makes none
none_appended : (Late : List LexerConfig → LexerConfig → Type 0) (new more old : List LexerConfig) → Appends Late new more old
    → HasNoRepetition old → HasNoRepetition new
none_appended Late new more old done h = h
none_appended Late new more old (dropped c cs _ d a) h = none_appended Late new cs old a h
none_appended Late new more old (appended c cs _ d a) h = none_appended Late new cs (old ++ c ∷ []) a (one_more old c h (λ i. d (inl i)))

-- keeping makes none
none_kept : (net : LexerNetwork) (cs ds : List LexerConfig) → Keeps net cs ds → HasNoRepetition cs → HasNoRepetition ds
none_kept net cs ds no_more h = tt
none_kept net cs ds (keeps c more kept k g) h = (λ i. h.0 (kept_in net more kept g c i).0, none_kept net more kept g h.1)
none_kept net cs ds (leaves c more _ k g) h = none_kept net more ds g h.1

-- so no list has one
pub no_repetition : (net : LexerNetwork) (starts : List LexerConfig) (w v : List ℕ) (list : List LexerConfig)
    → ListAt net starts w v list → HasNoRepetition list
no_repetition net starts w v list (first _ h) = none_kept net h.all list h.keeps (none_appended _ h.all h.expansion [] h.appends tt)
no_repetition net starts w v list (step a _ l read _ k q h) =
    none_kept net h.all list h.keeps (none_appended _ h.all h.expansion [] h.appends tt)
