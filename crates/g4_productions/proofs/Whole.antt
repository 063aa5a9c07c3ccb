-- A grammar text is read to its end, or stops.
use Rattle.std.proofs.Common.{◌≡◌, ◌∷◌, [], ◌++◌, ◌-◌, ◌<◌, ◌≤◌, ◌+◌, ℕ, List, length, Some, None, sym, ◌∙◌, ap, subst, arith, length-append}
use Rattle.std.proofs.lemmas.List.{length-map}
use Rattle.g4_grammar_tokens.specs.declared.token.Token.{Token}
use Rattle.g4_source.specs.Blocks.{HaveAlternatives}
use Rattle.g4_source.specs.declared.source.Source.{Source}
use Rattle.g4_syntax.specs.Notation.{Spelled}
use Rattle.g4_syntax.specs.Productions.{grammar}
use Rattle.g4_syntax.specs.Trees.{TextStops, within, after}
use Rattle.g4_syntax.proofs.Texts.{text, reads_text, read_before, comes_after}
use Rattle.g4_cursor.specs.declared.cursor.Halt.TheVariants.{Fault, BadSet}
use Rattle.g4_cursor.specs.Progress.{Progress, reading, stopped, rest_of, halt_of, at_fault, at_bad_set, Moves, reads, stops}
use Rattle.g4_cursor.specs.Sets.{HasNoBad, HasFirstBad}
use Rattle.g4_cursor.specs.Texts.{from, spelled, spelled_token}
use Rattle.g4_productions.specs.Grammars.{IsGrammarText, source_of}
use Rattle.g4_productions.proofs.Full.{source_full}

-- what is read of a grammar text
abbrev pub ReadsSource : List Spelled → Source → Progress → Type 0
ReadsSource tokens source end = Moves {x = grammar} (λ tree. source ≡ source_of tree) (reading tokens) end

-- the whole text is read, and no set of it is bad
pub text_read : (tokens : List Spelled) (source : Source) (end : Progress) → ReadsSource tokens source end → halt_of end ≡ None
    → length (rest_of end) ≡ 0 → IsGrammarText tokens source × HasNoBad grammar tokens
text_read tokens source (reading []) (reads _ _ tree read good is) none all = ((tree, read, is), good)
text_read tokens source (reading (token ∷ rest)) read none all = absurd (omega arith)
text_read tokens source (stopped halt rest) read none all = absurd (cc)

-- each rule and each block of what is read has an alternative
pub read_full : (tokens : List Spelled) (source : Source) (end : Progress) → ReadsSource tokens source end → halt_of end ≡ None
    → HaveAlternatives source
read_full tokens source (reading rest) (reads _ _ tree read good is) none = subst HaveAlternatives (sym is) (source_full tree)
read_full tokens source (stopped halt rest) read none = absurd (cc)

-- the text stops, and no set of it is bad
abbrev pub StopsGood : List Spelled → List Spelled → Type 0
StopsGood tokens rest = TextStops tokens rest × HasNoBad grammar tokens

-- the grammar is read, and a token is left
left_over : (tokens : List Spelled) (source : Source) (end : Progress) → ReadsSource tokens source end → halt_of end ≡ None
    → 0 < length (rest_of end) → StopsGood tokens (rest_of end)
left_over tokens source (reading []) read none left = absurd (omega (arith, left))
left_over tokens source (reading (token ∷ rest)) (reads _ _ tree read good is) none left = (after token rest tree read, good)
left_over tokens source (stopped halt rest) read none left = absurd (cc)

-- reading stops at a fault
faulty : (tokens : List Spelled) (source : Source) (end : Progress) → ReadsSource tokens source end → halt_of end ≡ Some Fault
    → StopsGood tokens (rest_of end)
faulty tokens source (reading rest) read is = absurd (cc)
faulty tokens source (stopped _ rest) (stops _ _ _ (at_fault stop none)) is = (within rest stop, none)
faulty tokens source (stopped _ rest) (stops _ _ _ (at_bad_set found)) is = absurd (cc)

-- reading stops at a bad set
pub at_bad : (tokens : List Spelled) (source : Source) (end : Progress) → ReadsSource tokens source end → halt_of end ≡ Some BadSet
    → HasFirstBad grammar tokens (rest_of end)
at_bad tokens source (reading rest) read is = absurd (cc)
at_bad tokens source (stopped _ rest) (stops _ _ _ (at_fault stop none)) is = absurd (cc)
at_bad tokens source (stopped _ rest) (stops _ _ _ (at_bad_set found)) is = found

-- what was read, and what is left
split : (tokens : List Spelled) (source : Source) (end : Progress) → ReadsSource tokens source end
    → (before : List Spelled) × (tokens ≡ before ++ rest_of end)
split tokens source (reading rest) (reads _ _ tree read good is) = (text tree, reads_text tree tokens rest read)
split tokens source (stopped _ rest) (stops _ _ _ (at_fault stop none)) = (read_before stop.comes, comes_after stop.comes)
split tokens source (stopped _ rest) (stops _ _ _ (at_bad_set found)) = (read_before found.comes, comes_after found.comes)

-- how many tokens were read
counted : (bytes : List ℕ) (tokens : List Token) (before rest : List Spelled) → spelled bytes tokens ≡ before ++ rest
    → length before + length rest ≡ length tokens
counted bytes tokens before rest is = sym (length-append before rest) ∙ sym (ap length is) ∙ length-map tokens (spelled_token bytes)

-- the tokens that are left are no more than all
pub not_longer : (bytes : List ℕ) (tokens : List Token) (source : Source) (end : Progress)
    → ReadsSource (spelled bytes tokens) source end → length (rest_of end) ≤ length tokens
not_longer bytes tokens source end read = let s = split (spelled bytes tokens) source end read in
    omega (arith, counted bytes tokens (s.0) (rest_of end) s.1)

-- what is left after the first tokens
after_part : (bytes : List ℕ) (tokens : List Token) (before rest : List Spelled) → spelled bytes tokens ≡ before ++ rest
    → rest ≡ from bytes tokens (length before)
after_part bytes tokens [] rest is = sym is
after_part bytes [] (b ∷ before) rest is = absurd (cc)
after_part bytes (token ∷ tokens) (b ∷ before) rest is = let tail : spelled bytes tokens ≡ before ++ rest = cc in
    after_part bytes tokens before rest tail

-- what is left is there from this index on
module _ (bytes : List ℕ) (tokens : List Token) (source : Source) (end : Progress)
    (read : ReadsSource (spelled bytes tokens) source end) where
  left_from : rest_of end ≡ from bytes tokens (length tokens - length (rest_of end))
  left_from =
      let s = split (spelled bytes tokens) source end read in
      let n : length (s.0) ≡ length tokens - length (rest_of end) = omega (arith, counted bytes tokens (s.0) (rest_of end) s.1) in
      after_part bytes tokens (s.0) (rest_of end) s.1 ∙ ap (from bytes tokens) n

  -- a token is left at this index
  pub text_left : halt_of end ≡ None → length tokens - length (rest_of end) < length tokens
      → StopsGood (spelled bytes tokens) (from bytes tokens (length tokens - length (rest_of end)))
  text_left none less = subst (StopsGood (spelled bytes tokens)) left_from
      (left_over (spelled bytes tokens) source end read none (omega (arith, less)))

  -- reading stops at this index
  pub text_stops : halt_of end ≡ Some Fault → StopsGood (spelled bytes tokens) (from bytes tokens (length tokens - length (rest_of end)))
  text_stops is = subst (StopsGood (spelled bytes tokens)) left_from (faulty (spelled bytes tokens) source end read is)
