-- Where actions and arguments end.
use Rattle.std.specs.Prelude.{◌≡◌, ℕ, suc, ◌+◌, ◌<◌, ◌≤◌, slice_index, Bool, true, false, List, [], ◌∷◌, Option, Some, None, length, drop, option_map, unwrap_or, ◌-◌, ◌==◌, ◌&&◌, ◌||◌, if◌then◌else◌}
use Rattle.std.specs.List.{prefix_len}
use Rattle.g4_grammar_tokens.specs.Characters.{begins, is_in_line}
use Rattle.g4_grammar_tokens.specs.Comments.{comment_end}
use Rattle.g4_grammar_tokens.specs.declared.quote.Unclosed.{Unclosed}

abbrev mutual
  -- how many characters there are up to the quote that closes on this line, that included: a backslash escapes the character
  -- after it
  pub quote_end : ℕ → List ℕ → Option ℕ
  quote_end quote [] = None
  quote_end quote (c ∷ cs) =
      if c == 10 then None
      else (if c == quote then Some 1
      else option_map suc (if c == 92 then escaped_quote_end quote cs else quote_end quote cs))

  -- how many there are after a backslash
  pub escaped_quote_end : ℕ → List ℕ → Option ℕ
  escaped_quote_end quote [] = None
  escaped_quote_end quote (c ∷ cs) = if c == 10 then None else option_map suc (quote_end quote cs)

-- how many characters a quoted text has after its first quote: 0 where no quote closes it on its line
abbrev pub quoted : ℕ → List ℕ → ℕ
quoted quote rest = unwrap_or (quote_end quote rest) 0

-- from the one index up to the other, no quote of this kind is closed on its line
abbrev pub IsUnclosed : ℕ → List ℕ → ℕ → ℕ → Type 0
IsUnclosed quote text at until = (j : ℕ) → at ≤ j → j < until → slice_index text j ≡ quote → quote_end quote (drop (j + 1) text) ≡ None

-- from the index on, no quotes are closed on their lines up to these indices
pub record AreUnclosed (text : List ℕ) (at : ℕ) (unclosed : Unclosed) : Type 0 where
  pub single_ones : IsUnclosed 39 text at unclosed.single
  pub double_ones : IsUnclosed 34 text at unclosed.double

-- how many characters a comment has after its first `/`: 0 where no comment begins there, and all where it doesn't end
abbrev pub commented : List ℕ → ℕ
commented rest =
    if begins 47 rest then prefix_len is_in_line rest
    else (if begins 42 rest then elim (comment_end (drop 1 rest)) [ Some taken ↦ taken + 1 | None ↦ length rest ] else 0)

-- how many characters after this one belong to the quoted text or the comment that begins with it
abbrev pub whole : ℕ → List ℕ → ℕ
whole c rest = if c == 34 || c == 39 then quoted c rest else (if c == 47 then commented rest else 0)

-- the text has this many characters up to the bracket that closes, that included: nested brackets are balanced, and quoted
-- texts and comments are passed over whole
pub data Nests (opening closing : ℕ) : List ℕ → ℕ → Type 0 where
  closed : (c : ℕ) (cs : List ℕ) → (c == closing) ≡ true → Nests opening closing (c ∷ cs) 1
  nested : (c n m : ℕ) (cs : List ℕ) → (c == closing) ≡ false → (c == opening) ≡ true → Nests opening closing cs n
      → Nests opening closing (drop n cs) m → Nests opening closing (c ∷ cs) (1 + n + m)
  passed : (c n : ℕ) (cs : List ℕ) → (c == closing) ≡ false → (c == opening) ≡ false → Nests opening closing (drop (whole c cs) cs) n
      → Nests opening closing (c ∷ cs) (1 + whole c cs + n)

-- the character closes, and nothing is open inside
abbrev pub closes : ℕ → ℕ → ℕ → Bool
closes closing depth c = (c == closing) && (depth == 0)

-- how many are open inside, after the character
abbrev pub depth_after : ℕ → ℕ → ℕ → ℕ → ℕ
depth_after opening closing depth c = if c == closing then depth - 1 else (if c == opening then depth + 1 else depth)

-- how many characters after this one are no part of the nesting
abbrev pub passed_over : ℕ → ℕ → ℕ → List ℕ → ℕ
passed_over opening closing c rest = if c == closing || c == opening then 0 else whole c rest
