-- Names in order, each once.
use Rattle.std.proofs.Common.{◌≡◌, ℕ, ◌+◌, ◌<◌, List, [], ◌∷◌, ◌++◌, length, map, take, get_or, filter, Bool, true, false, cond, not, ◌||◌, refl, sym, ap, ◌∙◌}
use Rattle.std.specs.Borrow.{Bor}
use Rattle.std.specs.Str.{bytes_eq}
use Rattle.std.proofs.lemmas.List.{append-nil}
use Rattle.std.proofs.lemmas.List.Elements.{filter-append}
use Rattle.std.proofs.lemmas.List.Folds.{list_any-append}
use Rattle.g4_checks.specs.Names.{is_one_of}
use Rattle.g4_checks.proofs.Known.{names_more}
use Rattle.g4_checks.proofs.Sets.{bytes_same}
use Rattle.g4_lexer_rules.specs.Tables.{each_once}

-- the text is another one than x
abbrev differs : List ℕ → List ℕ → Bool
differs x text = not (bytes_eq text x)

-- with one name more
once_push : (names : List (List ℕ)) (name : List ℕ)
    → each_once (names ++ name ∷ []) ≡ cond (is_one_of names name) (each_once names) (each_once names ++ name ∷ [])
once_push [] name = refl
once_push (x ∷ xs) name = ap (λ (ys : List (List ℕ)). x ∷ filter (differs x) ys) (once_push xs name)
    ∙ by (bytes_eq name x) (is_one_of xs name) refl
  where
    by : (b there : Bool) → bytes_eq name x ≡ b →
        x ∷ filter (differs x) (cond there (each_once xs) (each_once xs ++ name ∷ []))
        ≡ cond (b || there) (each_once (x ∷ xs)) (each_once (x ∷ xs) ++ name ∷ [])
    by true true same = refl
    by false true same = refl
    by true false same =
        ap (λ (ys : List (List ℕ)). x ∷ ys)
        (filter-append (differs x) (each_once xs) (name ∷ [])
        ∙ (ap (λ (b : Bool). filter (differs x) (each_once xs) ++ cond (not b) (name ∷ []) []) same
        ∙ append-nil (filter (differs x) (each_once xs))))
    by false false same =
        ap (λ (ys : List (List ℕ)). x ∷ ys) (filter-append (differs x) (each_once xs) (name ∷ [])
        ∙ ap (λ (b : Bool). filter (differs x) (each_once xs) ++ cond (not b) (name ∷ []) []) same)

-- the names that are left without x, of a text that is another one
others_have : (x text : List ℕ) (names : List (List ℕ)) → bytes_eq text x ≡ false
    → is_one_of (filter (differs x) names) text ≡ is_one_of names text
others_have x text [] other = refl
others_have x text (name ∷ names) other = by (bytes_eq name x) refl (others_have x text names other)
  where
    by : (b : Bool) → bytes_eq name x ≡ b → is_one_of (filter (differs x) names) text ≡ is_one_of names text
        → is_one_of (cond (not b) (name ∷ filter (differs x) names) (filter (differs x) names)) text ≡ is_one_of (name ∷ names) text
    by true same rest =
        let absent : bytes_eq text name ≡ false = ap (bytes_eq text) (bytes_same name x same) ∙ other in
        rest ∙ ap (λ (b : Bool). b || is_one_of names text) (sym absent)
    by false same rest = ap (λ (b : Bool). bytes_eq text name || b) rest

-- the same texts are there
pub once_have : (names : List (List ℕ)) (text : List ℕ) → is_one_of (each_once names) text ≡ is_one_of names text
once_have [] text = refl
once_have (x ∷ xs) text = by (bytes_eq text x) refl (once_have xs text)
  where
    by : (b : Bool) → bytes_eq text x ≡ b → is_one_of (each_once xs) text ≡ is_one_of xs text
        → (b || is_one_of (filter (differs x) (each_once xs)) text) ≡ (b || is_one_of xs text)
    by true same rest = refl
    by false same rest = others_have x text (each_once xs) same ∙ rest

-- a test that fails or passes
pub fails : (b : Bool) → not b ≡ true → b ≡ false
fails true new = sym new
fails false new = refl

pub passes : (b : Bool) → not b ≡ false → b ≡ true
passes true old = refl
passes false old = sym old

module _ (names : List (Bor (List ℕ))) (i : ℕ) (name : Bor (List ℕ)) (within : i < length names) (item : name ≡ get_or names i name) where
  -- the names up to this one, without it and with it
  abbrev pub before : List (List ℕ)
  before = map (λ n. n.now) (take i names)

  abbrev pub now_too : List (List ℕ)
  now_too = map (λ n. n.now) (take (i + 1) names)

  -- one name more
  pushed : now_too ≡ before ++ name.now ∷ []
  pushed = names_more (λ (n : Bor (List ℕ)). n.now) names i name within item

  -- a name that is new, and one that is there already
  pub new_name : (old new : List (List ℕ)) → is_one_of before name.now ≡ false → old ≡ each_once before → new ≡ old ++ name.now ∷ []
      → new ≡ each_once now_too
  new_name old new absent is push =
      push ∙ (ap (λ (ys : List (List ℕ)). ys ++ name.now ∷ []) is
      ∙ sym (ap each_once pushed ∙ (once_push before name.now
      ∙ ap (λ (b : Bool). cond b (each_once before) (each_once before ++ name.now ∷ [])) absent)))

  pub old_name : (old : List (List ℕ)) → is_one_of before name.now ≡ true → old ≡ each_once before → old ≡ each_once now_too
  old_name old there is = is ∙ sym (ap each_once pushed
      ∙ (once_push before name.now ∙ ap (λ (b : Bool). cond b (each_once before) (each_once before ++ name.now ∷ [])) there))

  -- or nothing
  or_false : (a : Bool) → (a || false) ≡ a
  or_false true = refl
  or_false false = refl

  -- the names that have been seen
  pub seen_more : (old new : List (List ℕ)) → ((text : List ℕ) → is_one_of old text ≡ is_one_of before text)
      → ((text : List ℕ) → is_one_of new text ≡ (is_one_of old text || bytes_eq text name.now)) → (text : List ℕ)
      → is_one_of new text ≡ is_one_of now_too text
  seen_more old new seen added text =
      added text ∙ (ap (λ (b : Bool). b || bytes_eq text name.now) (seen text)
      ∙ (ap (λ (b : Bool). is_one_of before text || b) (sym (or_false (bytes_eq text name.now)))
      ∙ sym (ap (λ (ns : List (List ℕ)). is_one_of ns text) pushed ∙ list_any-append (bytes_eq text) before (name.now ∷ []))))
