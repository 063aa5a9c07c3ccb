-- Each text has a reading.
use Rattle.std.proofs.Common.{◌≡◌, ◌≢◌, ◌⊎◌, ℕ, List, [], ◌∷◌, ◌++◌, Result, Ok, Err, inl, inr, refl, sym, ◌∙◌, ap, subst, take, drop, true≢false, append_assoc, append-nil, take-append-drop}
use Rattle.g4_base.specs.declared.place.Place.{Place}
use Rattle.std.specs.Str.{IsUtf8, IsValidUpTo}
use Rattle.g4_grammar_tokens.specs.declared.position.Position.{Position}
use Rattle.g4_grammar_tokens.specs.declared.token.Token.{Token}
use Rattle.g4_source.specs.declared.source.Source.{Source}
use Rattle.g4_grammar_tokens.specs.declared.token.Kind.TheVariants as kinds
use Rattle.g4_syntax.specs.Notation.{Spelled, sign}
use Rattle.g4_syntax.specs.Productions.{grammar}
use Rattle.g4_syntax.specs.Trees.{Tree, HasTree, BeginsText, TextStops, begins_there}
use Rattle.g4_syntax.proofs.FirstStop.{begins_text}
use Rattle.g4_syntax.proofs.Total.{text_or_stop}
use Rattle.g4_cursor.specs.Sets.{HasNoBad}
use Rattle.g4_cursor.specs.Texts.{spelled}
use Rattle.g4_productions.specs.Answering.{BeginsBadAt, IsFirstTooDeep}
use Rattle.g4_productions.specs.Grammars.{source_of}
use Rattle.g4_productions.specs.Nesting.{IsTooDeep, NoneTooDeep, NoneTooDeepBefore}
use Rattle.g4_productions.proofs.TooDeep.{bad_at, nested, stops_at, first_or_none}
use Rattle.g4_reader.proofs.Utf8.{utf8_or_not}
use Rattle.g4_reader.specs.Answering.{IsReadingOf}
use Rattle.g4_reader.specs.Reading.{Fault, fault_at, opened_fault, IsCut, IsReading}
use Rattle.g4_reader.specs.declared.reader.ReadFault.{ReadFault}
use Rattle.g4_reader.specs.declared.reader.ReadFault.TheVariants.{NotUtf8, BadSet, Nesting, NoMemory}
use Rattle.g4_reader.proofs.Deciding.{GoodOrBad, text_decided, stop_decided}
use Rattle.g4_reader.proofs.OneReading.{reported}
use Rattle.g4_reader.proofs.Readings.{IsReading-from, cut_from}
use Rattle.g4_reader.proofs.Scans as scans

-- a fault that is reported is not that of memory
reported_not : (fault : Fault) → reported fault ≢ Err NoMemory
unfolding reported
reported_not fault e = cc

-- tokens have some reading
abbrev SomeReadingOf : List ℕ → List Spelled → Type 0
SomeReadingOf bytes tokens = (result : Result Source ReadFault) × IsReadingOf bytes tokens result × (result ≢ Err NoMemory)

-- tokens of which no bracket opens too deep have a reading by their first bad set
bad_reading : (bytes : List ℕ) (tokens : List Spelled) (place : Place) → NoneTooDeep tokens → BeginsBadAt tokens place
    → SomeReadingOf bytes tokens
bad_reading bytes tokens place none (rest, found, is) =
    (Err (BadSet place), (rest, found, (λ front other parts deep. absurd (none front other parts deep)), is), λ e. cc)

-- a grammar text of which no bracket opens too deep has a reading: its grammar, or its first bad set
text_reading : (bytes : List ℕ) (tokens : List Spelled) (tree : Tree grammar) → HasTree tokens tree → NoneTooDeep tokens
    → GoodOrBad tokens → SomeReadingOf bytes tokens
text_reading bytes tokens tree has none (inl good) = (Ok (source_of tree), ((tree, has, refl), good, none), λ e. cc)
text_reading bytes tokens tree has none (inr (place, first)) = bad_reading bytes tokens place none first

-- the reading of tokens by their fault
fault_reading : (bytes : List ℕ) (tokens front rest : List Spelled) → IsCut tokens front rest → HasNoBad grammar tokens
    → NoneTooDeepBefore tokens rest → SomeReadingOf bytes tokens
unfolding reported
fault_reading bytes tokens front rest cut good shallow = (
  reported (fault_at bytes rest),
  record { front = front; rest = rest; cut = cut; good = good; shallow = shallow; is = refl },
  reported_not (fault_at bytes rest),
)

-- tokens that are cut, of which no bracket opens too deep, have a reading: the first bad set before the cut, or the fault after it
cut_reading : (bytes : List ℕ) (tokens front rest : List Spelled) → IsCut tokens front rest → NoneTooDeep tokens → GoodOrBad tokens
    → SomeReadingOf bytes tokens
cut_reading bytes tokens front rest cut none (inl good) =
    fault_reading bytes tokens front rest cut good (λ before other parts deep. absurd (none before other parts deep))
cut_reading bytes tokens front rest cut none (inr (place, first)) = bad_reading bytes tokens place none first

-- tokens are a grammar text, or reading stops at some of them
abbrev TextOrStop : List Spelled → Type 0
TextOrStop tokens = ((tree : Tree grammar) × HasTree tokens tree)
    ⊎ ((front : List Spelled) × (rest : List Spelled) × (tokens ≡ front ++ rest) × TextStops tokens rest)

-- tokens of which no bracket opens too deep have some reading
shallow_reading : (bytes : List ℕ) (tokens : List Spelled) → NoneTooDeep tokens → TextOrStop tokens → SomeReadingOf bytes tokens
shallow_reading bytes tokens none (inl (tree, has)) = text_reading bytes tokens tree has none (text_decided tokens tree has)
shallow_reading bytes tokens none (inr (front, rest, parts, stop)) =
    cut_reading bytes tokens front rest (cut_from tokens front rest parts stop) none (stop_decided tokens rest stop)

-- tokens of which a bracket opens too deep, the first that does
module _ (bytes : List ℕ) (front : List Spelled) (bracket : Spelled) (others : List Spelled) (deep : IsTooDeep front (bracket ∷ others))
    (first : NoneTooDeepBefore (front ++ bracket ∷ others) (bracket ∷ others)) where
  -- have a reading where they have a first bad set
  bad_deep : (place : Place) → BeginsBadAt (front ++ bracket ∷ []) place → SomeReadingOf bytes (front ++ bracket ∷ others)
  bad_deep place bad = (Err (BadSet place), bad_at front bracket others deep.opens first place bad, λ e. cc)

  -- where reading goes past the bracket
  nested_reading : BeginsText (front ++ bracket ∷ []) → GoodOrBad (front ++ bracket ∷ [])
      → SomeReadingOf bytes (front ++ bracket ∷ others)
  nested_reading begins (inl good) = (Err Nesting, nested front bracket others deep.opens deep begins good, λ e. cc)
  nested_reading begins (inr (place, bad)) = bad_deep place bad

  -- where reading stops at one of the tokens up to it
  stop_reading : (before : List Spelled) (s : Spelled) (r : List Spelled) → front ++ bracket ∷ [] ≡ before ++ s ∷ r
      → TextStops (front ++ bracket ∷ []) (s ∷ r) → GoodOrBad (front ++ bracket ∷ []) → SomeReadingOf bytes (front ++ bracket ∷ others)
  stop_reading before s r parts stop (inr (place, bad)) = bad_deep place bad
  stop_reading before s r parts stop (inl good) =
      let at = stops_at front bracket others deep.opens first before s r parts stop good in
      let whole : front ++ bracket ∷ others ≡ before ++ s ∷ (r ++ others) =
      sym (append_assoc front (bracket ∷ []) others) ∙ ap (λ (l : List Spelled). l ++ others) parts ∙ append_assoc before (s ∷ r) others in
      fault_reading bytes (front ++ bracket ∷ others) before (s ∷ (r ++ others))
      (cut_from (front ++ bracket ∷ others) before (s ∷ (r ++ others)) whole at.stop) at.good at.shallow

  -- in each case
  deep_reading : TextOrStop (front ++ bracket ∷ []) → SomeReadingOf bytes (front ++ bracket ∷ others)
  deep_reading (inl (tree, has)) =
      nested_reading ([], tree, subst (λ (l : List Spelled). HasTree l tree) (sym (append-nil (front ++ bracket ∷ []))) has)
      (text_decided (front ++ bracket ∷ []) tree has)
  deep_reading (inr (before, [], parts, stop)) =
      nested_reading (subst BeginsText (sym (parts ∙ append-nil before)) (begins_text (front ++ bracket ∷ []) before [] parts stop))
      (stop_decided (front ++ bracket ∷ []) [] stop)
  deep_reading (inr (before, s ∷ r, parts, stop)) =
      stop_reading before s r parts stop (stop_decided (front ++ bracket ∷ []) (s ∷ r) stop)

-- tokens have some reading
reading_of : (bytes : List ℕ) (tokens : List Spelled) → SomeReadingOf bytes tokens
reading_of bytes tokens = by_depth (first_or_none tokens)
  where
    by_rest : (at : ℕ) (rest : List Spelled) → drop at tokens ≡ rest → IsFirstTooDeep tokens at → SomeReadingOf bytes tokens
    by_rest at [] is found = absurd (true≢false (sym found.deep.opens ∙ ap (begins_there (sign kinds.LeftParenthesis)) is))
    by_rest at (bracket ∷ others) is found =
        let parts : take at tokens ++ bracket ∷ others ≡ tokens =
        ap (λ (l : List Spelled). take at tokens ++ l) (sym is) ∙ take-append-drop at tokens in
        let deep : IsTooDeep (take at tokens) (bracket ∷ others) = subst (IsTooDeep (take at tokens)) is found.deep in
        let first : NoneTooDeepBefore (take at tokens ++ bracket ∷ others) (bracket ∷ others) =
        subst (λ (l : List Spelled). NoneTooDeepBefore l (bracket ∷ others)) (sym parts)
        (subst (NoneTooDeepBefore tokens) is found.first) in
        subst (SomeReadingOf bytes) parts (deep_reading bytes (take at tokens) bracket others deep first
        (text_or_stop (take at tokens ++ bracket ∷ [])))

    by_depth : NoneTooDeep tokens ⊎ ((at : ℕ) × IsFirstTooDeep tokens at) → SomeReadingOf bytes tokens
    by_depth (inl none) = shallow_reading bytes tokens none (text_or_stop tokens)
    by_depth (inr (at, found)) = by_rest at (drop at tokens) refl found

-- bytes have a reading
pub some_reading : (bytes : List ℕ) → (result : Result Source ReadFault) × IsReading bytes result × (result ≢ Err NoMemory)
unfolding reported
some_reading bytes = by_utf8 (utf8_or_not bytes)
  where
    by_cut : (x : List Token ⊎ Position) → scans.IsCut bytes x
        → (result : Result Source ReadFault) × IsReading bytes result × (result ≢ Err NoMemory)
    by_cut (inl tokens) has = let read = reading_of bytes (spelled bytes tokens) in
        (read.0, IsReading-from bytes tokens read.0 has read.1, read.2)
    by_cut (inr opened) has = (reported (opened_fault bytes opened), inl (opened, has, refl), reported_not (opened_fault bytes opened))

    by_utf8 : IsUtf8 bytes ⊎ ((at : ℕ) × IsValidUpTo bytes at)
        → (result : Result Source ReadFault) × IsReading bytes result × (result ≢ Err NoMemory)
    by_utf8 (inl utf8) = let cut = scans.some_cut bytes utf8 in by_cut cut.0 cut.1
    by_utf8 (inr (at, valid)) = (Err (NotUtf8 at), valid, λ e. cc)
