-- A text has one reading.
use Rattle.std.proofs.Common.{◌≡◌, ◌≢◌, ◌≤◌, ◌⊎◌, ℕ, List, [], ◌∷◌, ◌++◌, Result, Ok, Err, inl, inr, refl, sym, ◌∙◌, ap, ap₂, subst, length, arith, append_assoc, append-nil, length-append}
use Rattle.std.specs.Str.{IsValidUpTo}
use Rattle.g4_base.specs.declared.place.Place.{Place}
use Rattle.g4_grammar_tokens.specs.declared.position.Position.{Position}
use Rattle.g4_grammar_tokens.specs.declared.token.Token.{Token}
use Rattle.g4_source.specs.declared.source.Source.{Source}
use Rattle.g4_syntax.specs.Notation.{Spelled}
use Rattle.g4_syntax.specs.Productions.{grammar}
use Rattle.g4_syntax.specs.Trees.{Tree, HasTree, BeginsText, Ends}
use Rattle.g4_syntax.proofs.Unique as trees
use Rattle.g4_syntax.proofs.Texts.{read_before, comes_after}
use Rattle.g4_cursor.specs.Texts.{spelled, place_of}
use Rattle.g4_productions.specs.Grammars.{IsGrammarText, HasBadSetAt, source_of}
use Rattle.g4_productions.specs.Nesting.{NoneTooDeep, IsNested}
use Rattle.g4_productions.proofs.TooDeep.{parted, bracket_good}
use Rattle.g4_reader.proofs.Utf8.{not_both, one_point}
use Rattle.g4_reader.specs.Answering.{IsReadingOf}
use Rattle.g4_cursor.specs.Sets.{BeginsBad, HasNoBad}
use Rattle.g4_reader.specs.Reading.{Fault, fault_at, opened_fault, HasSpelled, IsCut, IsFirstFault, IsReading}
use Rattle.g4_reader.specs.declared.reader.ReadFault.{ReadFault}
use Rattle.g4_reader.specs.declared.reader.ReadFault.TheVariants.{NotUtf8, Syntax, BadSet, Nesting, NoMemory}
use Rattle.g4_reader.proofs.Scans as scans

-- tokens are one grammar at most
one_grammar : (tokens : List Spelled) (a b : Source) → IsGrammarText tokens a → IsGrammarText tokens b → a ≡ b
one_grammar tokens a b (x, has, is) (y, also, too) = is ∙ ap source_of (trees.one_reading x y tokens [] [] has also).0 ∙ sym too

-- a grammar text begins with the first of the tokens with which one begins
begins_before : (first after : List Spelled) → BeginsText (first ++ after) → BeginsText first
begins_before first after (others, tree, has) =
    (after ++ others, tree, subst (λ (l : List Spelled). HasTree l tree) (append_assoc first after others) has)

-- a grammar text is not cut
not_cut : (tokens front rest : List Spelled) (tree : Tree grammar) → HasTree tokens tree → IsCut tokens front rest → ⊥
not_cut tokens front [] tree has cut = cut.ends tree (subst (λ (l : List Spelled). HasTree l tree) (cut.parts ∙ append-nil front) has)
not_cut tokens front (t ∷ ts) tree has cut =
    cut.ends (ts, tree, subst (λ (l : List Spelled). HasTree l tree) (cut.parts ∙ sym (append_assoc front (t ∷ []) ts)) has)

-- the same lists have the same first token
same_first : (t s : Spelled) (ts ss : List Spelled) → t ∷ ts ≡ s ∷ ss → t ≡ s
same_first t s ts ss is = cc

-- the same lists have the same tokens after the first
same_others : (t s : Spelled) (ts ss : List Spelled) → t ∷ ts ≡ s ∷ ss → ts ≡ ss
same_others t s ts ss is = cc

-- what is so of the first tokens, and not with the next of the others
abbrev EndsBy : (List Spelled → Type 0) → List Spelled → List Spelled → Type 0
EndsBy Begins front rest = (t : Spelled) (ts : List Spelled) → rest ≡ t ∷ ts → ¬ (Begins (front ++ t ∷ []))

-- a list is cut in one way where what is so of it is so of all that it begins with
same_cut : (Begins : List Spelled → Type 0) → ((first after : List Spelled) → Begins (first ++ after) → Begins first)
    → (front rest other after : List Spelled) → front ++ rest ≡ other ++ after → Begins front → Begins other
    → EndsBy Begins front rest → EndsBy Begins other after → (front ≡ other) × (rest ≡ after)
same_cut Begins before [] rest [] after is begins also ends too = (refl, is)
same_cut Begins before [] rest (s ∷ other) after is begins also ends too = absurd (ends s (other ++ after) is (before (s ∷ []) other also))
same_cut Begins before (t ∷ front) rest [] after is begins also ends too =
    absurd (too t (front ++ rest) (sym is) (before (t ∷ []) front begins))
same_cut Begins before (t ∷ front) rest (s ∷ other) after is begins also ends too =
    let first : t ≡ s = same_first t s (front ++ rest) (other ++ after) is in
    let later = same_cut (λ l. Begins (t ∷ l)) (λ u v. before (t ∷ u) v) front rest other after
    (same_others t s (front ++ rest) (other ++ after) is) begins (subst (λ (u : Spelled). Begins (u ∷ other)) (sym first) also)
    ends (λ u us stands bad. too u us stands (subst (λ (x : Spelled). Begins (x ∷ other ++ u ∷ [])) first bad)) in
    (ap₂ (λ (x : Spelled) (l : List Spelled). x ∷ l) first later.0, later.1)

-- where no grammar text goes on
ends_by : (front rest : List Spelled) → Ends front rest → EndsBy BeginsText front rest
ends_by front rest ends t ts is = subst (Ends front) is ends

-- tokens are cut in one way
one_cut : (tokens front rest other after : List Spelled) → IsCut tokens front rest → IsCut tokens other after
    → (front ≡ other) × (rest ≡ after)
one_cut tokens front rest other after cut also =
    same_cut BeginsText begins_before front rest other after (sym cut.parts ∙ also.parts) cut.begins also.begins
    (ends_by front rest cut.ends) (ends_by other after also.ends)

-- what follows some first tokens and what follows others is the same, if neither is longer
same_length : (first rest other after : List Spelled) → first ++ rest ≡ other ++ after → length rest ≡ length after → rest ≡ after
same_length [] rest [] after is long = is
same_length (t ∷ first) rest (s ∷ other) after is long =
    same_length first rest other after (same_others t s (first ++ rest) (other ++ after) is) long
same_length [] rest (s ∷ other) after is long = absurd (omega (arith, long, ap length is, length-append other after))
same_length (t ∷ first) rest [] after is long = absurd (omega (arith, long, ap length is, length-append first rest))

-- tokens have one first bad set
one_first_bad : (tokens : List Spelled) (p q : Place) → HasBadSetAt tokens p → HasBadSetAt tokens q → p ≡ q
one_first_bad tokens p q (rest, first, shallow, is) (other, later, shallower, also) =
    let long : length rest ≡ length other = omega
    (arith, first.first later.terminal other later.comes later.bad, later.first first.terminal rest first.comes first.bad) in
    let parts : read_before first.comes ++ rest ≡ read_before later.comes ++ other =
    sym (comes_after first.comes) ∙ comes_after later.comes in
    is ∙ ap place_of (same_length (read_before first.comes) rest (read_before later.comes) other parts long) ∙ sym also

-- tokens with no bad set have no first one
no_bad : (tokens : List Spelled) (place : Place) → HasNoBad grammar tokens → HasBadSetAt tokens place → ⊥
no_bad tokens place good (rest, first, shallow, is) = good first.terminal rest first.comes first.bad

-- where no bracket opens too deep, none stops reading
no_nesting : (tokens : List Spelled) → NoneTooDeep tokens → IsNested tokens → ⊥
no_nesting tokens none nested = none nested.front (nested.bracket ∷ nested.others) nested.parts nested.deep

-- a bracket that opens too deep does not stop reading where a fault does before
no_fault_nested : (bytes : List ℕ) (tokens : List Spelled) (fault : Fault) → IsFirstFault bytes tokens fault → IsNested tokens → ⊥
no_fault_nested bytes tokens fault is nested =
    let others = nested.bracket ∷ nested.others in
    let later : length others ≤ length is.rest = is.shallow nested.front others nested.parts nested.deep in
    let cut = parted nested.front others is.front is.rest (sym nested.parts ∙ is.cut.parts) later in
    by_more cut.more cut.rest_is cut.front_is
  where
    by_more : (more : List Spelled) → is.rest ≡ more ++ nested.bracket ∷ nested.others → nested.front ≡ is.front ++ more → ⊥
    by_more [] rest_is front_is =
        ends_by is.front is.rest is.cut.ends nested.bracket nested.others rest_is
        (subst (λ (l : List Spelled). BeginsText (l ++ nested.bracket ∷ [])) (front_is ∙ append-nil is.front) nested.begins)
    by_more (s ∷ more) rest_is front_is =
        let begins : BeginsText ((is.front ++ s ∷ []) ++ (more ++ nested.bracket ∷ [])) =
        subst BeginsText (ap (λ (l : List Spelled). l ++ nested.bracket ∷ []) front_is
        ∙ append_assoc is.front (s ∷ more) (nested.bracket ∷ []) ∙ sym (append_assoc is.front (s ∷ []) (more ++ nested.bracket ∷ [])))
        nested.begins in
        ends_by is.front is.rest is.cut.ends s (more ++ nested.bracket ∷ nested.others) rest_is
        (begins_before (is.front ++ s ∷ []) (more ++ nested.bracket ∷ []) begins)

-- nor where a bad set begins before
no_bad_nested : (tokens : List Spelled) (place : Place) → HasBadSetAt tokens place → IsNested tokens → ⊥
no_bad_nested tokens place (rest, found, shallow, is) nested =
    let others = nested.bracket ∷ nested.others in
    let later : length others ≤ length rest = shallow nested.front others nested.parts nested.deep in
    let sooner : length rest ≤ length others = nested.good found.terminal rest found.comes found.bad in
    let same : rest ≡ others = same_length (read_before found.comes) rest nested.front others
    (sym (comes_after found.comes) ∙ nested.parts) (omega (arith, later, sooner)) in
    bracket_good found.terminal nested.bracket nested.others nested.deep.opens
    (subst (λ (l : List Spelled). BeginsBad found.terminal l) same found.bad)

-- the first fault of tokens is one
one_fault : (bytes : List ℕ) (tokens : List Spelled) (a b : Fault) → IsFirstFault bytes tokens a → IsFirstFault bytes tokens b → a ≡ b
one_fault bytes tokens a b is also = is.is ∙ ap (fault_at bytes)
    (one_cut tokens is.front is.rest also.front also.rest is.cut also.cut).1 ∙ sym also.is

-- the answer that reports a fault
unfoldable pub reported : Fault → Result Source ReadFault
reported fault = Err (Syntax fault.place fault.characters)

-- tokens have one reading
one_reading_of : (bytes : List ℕ) (tokens : List Spelled) (a b : Result Source ReadFault) → IsReadingOf bytes tokens a
    → IsReadingOf bytes tokens b → a ≢ Err NoMemory → b ≢ Err NoMemory → a ≡ b
unfolding reported
one_reading_of bytes tokens (Ok x) (Ok y) is also n m = ap (λ s. Ok s) (one_grammar tokens x y is.0 also.0)
one_reading_of bytes tokens (Ok x) (Err (Syntax p c)) is also n m = absurd (not_cut tokens also.front also.rest is.0.0 is.0.1 also.cut)
one_reading_of bytes tokens (Ok x) (Err (BadSet p)) is also n m = absurd (no_bad tokens p is.1 also)
one_reading_of bytes tokens (Err (Syntax p c)) (Ok y) is also n m = absurd (not_cut tokens is.front is.rest also.0.0 also.0.1 is.cut)
one_reading_of bytes tokens (Err (Syntax p c)) (Err (Syntax q d)) is also n m = ap reported (one_fault bytes tokens _ _ is also)
one_reading_of bytes tokens (Err (Syntax p c)) (Err (BadSet q)) is also n m = absurd (no_bad tokens q is.good also)
one_reading_of bytes tokens (Err (BadSet p)) (Ok y) is also n m = absurd (no_bad tokens p also.1 is)
one_reading_of bytes tokens (Err (BadSet p)) (Err (Syntax q d)) is also n m = absurd (no_bad tokens p also.good is)
one_reading_of bytes tokens (Err (BadSet p)) (Err (BadSet q)) is also n m = ap (λ r. Err (BadSet r)) (one_first_bad tokens p q is also)
one_reading_of bytes tokens (Ok x) (Err Nesting) is also n m = absurd (no_nesting tokens is.2 also)
one_reading_of bytes tokens (Err (Syntax p c)) (Err Nesting) is also n m = absurd (no_fault_nested bytes tokens _ is also)
one_reading_of bytes tokens (Err (BadSet p)) (Err Nesting) is also n m = absurd (no_bad_nested tokens p is also)
one_reading_of bytes tokens (Err Nesting) (Ok y) is also n m = absurd (no_nesting tokens also.2 is)
one_reading_of bytes tokens (Err Nesting) (Err (Syntax q d)) is also n m = absurd (no_fault_nested bytes tokens _ also is)
one_reading_of bytes tokens (Err Nesting) (Err (BadSet q)) is also n m = absurd (no_bad_nested tokens q also is)
one_reading_of bytes tokens (Err Nesting) (Err Nesting) is also n m = refl
one_reading_of bytes tokens (Err (NotUtf8 at)) b is also n m = absurd is
one_reading_of bytes tokens a (Err (NotUtf8 at)) is also n m = absurd also
one_reading_of bytes tokens (Err NoMemory) b is also n m = absurd (n refl)
one_reading_of bytes tokens a (Err NoMemory) is also n m = absurd (m refl)

-- what a reading is, by how the bytes are cut
abbrev ReadingAt : List ℕ → List Token ⊎ Position → Result Source ReadFault → Type 0
ReadingAt bytes (inl tokens) result = IsReadingOf bytes (spelled bytes tokens) result
ReadingAt bytes (inr at) result = result ≡ reported (opened_fault bytes at)

-- what a reading is, of bytes that are a text or not
abbrev ReadingBy : List ℕ → Result Source ReadFault → Type 0
ReadingBy bytes result = ((at : ℕ) × IsValidUpTo bytes at × (result ≡ Err (NotUtf8 at)))
    ⊎ ((x : List Token ⊎ Position) × scans.IsCut bytes x × ReadingAt bytes x result)

-- what is read of the tokens with their bytes is read of the tokens
reading_spelled : (bytes : List ℕ) (tokens : List Spelled) (result : Result Source ReadFault) → HasSpelled bytes tokens
    → IsReadingOf bytes tokens result → ReadingBy bytes result
reading_spelled bytes tokens result has is =
    inr (inl has.scanned, has.has, subst (λ (l : List Spelled). IsReadingOf bytes l result) has.are is)

-- a reading that memory sufficed for
reading_by : (bytes : List ℕ) (result : Result Source ReadFault) → IsReading bytes result → result ≢ Err NoMemory → ReadingBy bytes result
unfolding reported
reading_by bytes (Ok source) is n = reading_spelled bytes is.tokens (Ok source) is.has (is.is, is.good, is.shallow)
reading_by bytes (Err (NotUtf8 at)) valid n = inl (at, valid, refl)
reading_by bytes (Err (Syntax place characters)) (inl (opened, s, is)) n = inr (inr opened, s, ap reported is)
reading_by bytes (Err (Syntax place characters)) (inr (tokens, has, first)) n =
    reading_spelled bytes tokens (Err (Syntax place characters)) has first
reading_by bytes (Err (BadSet place)) (tokens, has, first) n = reading_spelled bytes tokens (Err (BadSet place)) has first
reading_by bytes (Err Nesting) (tokens, has, nested) n = reading_spelled bytes tokens (Err Nesting) has nested
reading_by bytes (Err NoMemory) h n = absurd (n refl)

-- bytes have one reading
pub one_reading : (bytes : List ℕ) (a b : Result Source ReadFault) → IsReading bytes a → IsReading bytes b → a ≢ Err NoMemory
    → b ≢ Err NoMemory → a ≡ b
one_reading bytes a b is also n m = by_both (reading_by bytes a is n) (reading_by bytes b also m)
  where
    by_cut : (x : List Token ⊎ Position) → ReadingAt bytes x a → ReadingAt bytes x b → a ≡ b
    by_cut (inl tokens) is also = one_reading_of bytes (spelled bytes tokens) a b is also n m
    by_cut (inr at) is also = is ∙ sym also

    by_both : ReadingBy bytes a → ReadingBy bytes b → a ≡ b
    by_both (inl (at, valid, is)) (inl (other, alike, also)) =
        is ∙ ap (λ (k : ℕ). Err (NotUtf8 k)) (one_point bytes at other valid alike) ∙ sym also
    by_both (inl (at, valid, is)) (inr (y, cut, also)) = absurd (not_both bytes at (scans.cut_utf8 bytes y cut) valid)
    by_both (inr (x, cut, is)) (inl (other, valid, also)) = absurd (not_both bytes other (scans.cut_utf8 bytes x cut) valid)
    by_both (inr (x, cut, is)) (inr (y, alike, also)) =
        by_cut y (subst (λ (z : List Token ⊎ Position). ReadingAt bytes z a) (scans.one_cut bytes x y cut alike) is) also
