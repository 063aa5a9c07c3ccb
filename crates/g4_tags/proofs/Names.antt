-- Where a name ends in a text.
use Rattle.std.proofs.Common.{◌≡◌, ◌<◌, ℕ, zero, suc, ◌+◌, inl, inr, List, [], ◌∷◌, ◌++◌, true, false, Some, None, length, get_or, refl, sym, ◌∙◌, ap, arith}
use Rattle.std.proofs.lemmas.Bool.{cases_Bool, cond-true, cond-false}
use Rattle.std.proofs.lemmas.Option.{same_Some}
use Rattle.std.specs.List.{All, AllPass, prefix_len}
use Rattle.ucd_derived.specs.AlphabeticRanges.{alphabetic_ranges}
use Rattle.ucd_table.specs.Rows.{in_ranges}
use Rattle.unicode.specs.Binary.{is_alphabetic}
use Rattle.g4_grammar_tokens.specs.Characters.{is_name_part}
use Rattle.g4_tags.specs.Found.{name_end}
use Rattle.g4_tags.specs.Names.{IsName}

-- `:` and `>` are no parts of names
pub colon_stops : is_name_part 58 ≡ false
unfolding is_alphabetic in_ranges alphabetic_ranges
colon_stops = refl

pub bracket_stops : is_name_part 62 ≡ false
unfolding is_alphabetic in_ranges alphabetic_ranges
bracket_stops = refl

-- what holds of each item of a list holds of the first, and of each of the others
pub all_head : (P : ℕ → Type 0) (d : ℕ) (ds : List ℕ) → All P (d ∷ ds) → P d
all_head P d ds all = all zero d (omega arith)

pub all_tail : (P : ℕ → Type 0) (d : ℕ) (ds : List ℕ) → All P (d ∷ ds) → All P ds
all_tail P d ds all = λ k e within. all (suc k) e (omega (arith, within))

-- and the other way round
pub all_more : (P : ℕ → Type 0) (d : ℕ) (ds : List ℕ) → P d → All P ds → All P (d ∷ ds)
all_more P d ds first others = go
  where
    go : (k e : ℕ) → k < suc (length ds) → P (get_or (d ∷ ds) k e)
    go zero e within = first
    go (suc k) e within = others k e (omega (arith, within))

-- a part of a name
abbrev IsPart : ℕ → Type 0
IsPart c = is_name_part c ≡ true

module _ (c : ℕ) (rest : List ℕ) where
  -- parts go up to the character that is none
  parts_end : is_name_part c ≡ false → (cs : List ℕ) → AllPass is_name_part cs → prefix_len is_name_part (cs ++ c ∷ rest) ≡ length cs
  parts_end stop [] all = cond-false (is_name_part c) (1 + prefix_len is_name_part rest) 0 stop
  parts_end stop (d ∷ ds) all =
      let more = parts_end stop ds (all_tail IsPart d ds all) in
      let long : 1 + prefix_len is_name_part (ds ++ c ∷ rest) ≡ suc (length ds) = omega (arith, more) in
      cond-true (is_name_part d) (1 + prefix_len is_name_part (ds ++ c ∷ rest)) 0 (all_head IsPart d ds all) ∙ long

  -- and what they go up to has only parts before it
  parts_before : (cs : List ℕ) → prefix_len is_name_part (cs ++ c ∷ rest) ≡ length cs → AllPass is_name_part cs
  parts_before [] h = λ k d within. absurd (omega (arith, within))
  parts_before (d ∷ ds) h = elim (cases_Bool (is_name_part d)) [
    | inl t ↦ (
        let longer : 1 + prefix_len is_name_part (ds ++ c ∷ rest) ≡ suc (length ds) =
        sym (cond-true (is_name_part d) (1 + prefix_len is_name_part (ds ++ c ∷ rest)) 0 t) ∙ h in
        all_more IsPart d ds t (parts_before ds (omega (arith, longer)))
        )
    | inr f ↦ absurd (
        let none : 0 ≡ suc (length ds) = sym (cond-false (is_name_part d) (1 + prefix_len is_name_part (ds ++ c ∷ rest)) 0 f) ∙ h in
        omega (arith, none)
        )
  ]

  -- a name ends before a character that is no part of one
  pub name_ends : is_name_part c ≡ false → (name : List ℕ) → IsName name → name_end (name ++ c ∷ rest) ≡ Some (length name)
  name_ends stop [] h = absurd h
  name_ends stop (d ∷ ds) h =
      let more = parts_end stop ds h.1 in
      let long : 1 + prefix_len is_name_part (ds ++ c ∷ rest) ≡ suc (length ds) = omega (arith, more) in
      cond-true (is_alphabetic d) (Some (1 + prefix_len is_name_part (ds ++ c ∷ rest))) None h.0 ∙ ap (λ n. Some n) long

  -- what is found to end there is a name
  pub is_name : (name : List ℕ) → name_end (name ++ c ∷ rest) ≡ Some (length name) → IsName name
  is_name [] h = elim (cases_Bool (is_alphabetic c)) [
    | inl t ↦ absurd (
        let long = same_Some (1 + prefix_len is_name_part rest) 0
        (sym (cond-true (is_alphabetic c) (Some (1 + prefix_len is_name_part rest)) None t) ∙ h) in
        omega (arith, long)
        )
    | inr f ↦ absurd (
        let none : None ≡ Some 0 = sym (cond-false (is_alphabetic c) (Some (1 + prefix_len is_name_part rest)) None f) ∙ h in
        let n : ⊥ = cc in n
        )
  ]
  is_name (d ∷ ds) h = elim (cases_Bool (is_alphabetic d)) [
    | inl t ↦ (
        let long = same_Some (1 + prefix_len is_name_part (ds ++ c ∷ rest)) (length (d ∷ ds))
        (sym (cond-true (is_alphabetic d) (Some (1 + prefix_len is_name_part (ds ++ c ∷ rest))) None t) ∙ h) in
        (t, parts_before ds (omega (arith, long)))
        )
    | inr f ↦ absurd (
        let none : None ≡ Some (length (d ∷ ds)) =
        sym (cond-false (is_alphabetic d) (Some (1 + prefix_len is_name_part (ds ++ c ∷ rest))) None f) ∙ h in
        let n : ⊥ = cc in n
        )
  ]
