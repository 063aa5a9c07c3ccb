-- The states that are marked, as a list, and their lines.
use Rattle.std.proofs.Common.{◌≡◌, ℕ, ◌+◌, ◌<◌, List, [], ◌∷◌, ◌++◌, codes, decimal, drop, get_or, length, Bool, true, false, cond, sym, ◌∙◌, ap, append_assoc, append-nil}
use Rattle.std.specs.List.{filter, range_with_len, slice_index_or}
use Rattle.std.proofs.lemmas.List.{drop_more}
use Rattle.std.proofs.lemmas.List.Concat.{flat_map-append}
use Rattle.std.proofs.lemmas.List.Elements.{All-contains, filter-append, filter_passes}
use Rattle.std.proofs.lemmas.List.Kept.{IsStrictlyIncreasing-filter}
use Rattle.g4_net.specs.Network.{ParserNetwork}
use Rattle.g4_netlist.specs.Listing.{line_of, lines_of, spaced}
use Rattle.g4_netlist.specs.OfRule.{AreStatesOf}
use Rattle.g4_netlist.specs.Searching.{AreMarks, IsFound, marked}
use Rattle.g4_netlist.proofs.Contained.{Contains-filter, Contains-range, range_more, range_rises}
use Rattle.g4_netlist.proofs.Marking.{found_within}

-- the states that are marked are those of the rule
pub marked_are_states : (net : ParserNetwork) (rule : ℕ) (found : List Bool) → AreMarks net rule found
    → AreStatesOf net rule (marked found (length found))
marked_are_states net rule found marks = record {
  rising = IsStrictlyIncreasing-filter (λ p. slice_index_or found p false) (range_with_len 0 (length found)) (range_rises 0 (length found));
  exactly = λ p. (
    (λ has. (marks.exactly p).0 (All-contains (IsFound found) (marked found (length found)) p
        (filter_passes (λ p'. slice_index_or found p' false) (range_with_len 0 (length found))) has)),
    λ h. let is = (marks.exactly p).1 h in Contains-filter (λ p'. slice_index_or found p' false) (range_with_len 0 (length found)) p
        is (Contains-range (length found) p (found_within found p is)),
  );
}

-- the marks up to one more state
marked_more : (found : List Bool) (i : ℕ) → marked found (i + 1) ≡ marked found i ++ cond (slice_index_or found i false) (i ∷ []) []
marked_more found i =
    ap (filter (λ p. slice_index_or found p false)) (range_more i)
    ∙ filter-append (λ p. slice_index_or found p false) (range_with_len 0 i) (i ∷ [])

-- a state that is not marked has no line
pub lines_same : (names shown : List (List ℕ)) (net : ParserNetwork) (found : List Bool) (i : ℕ)
    → slice_index_or found i false ≡ false → lines_of names shown net (marked found (i + 1)) ≡ lines_of names shown net (marked found i)
lines_same names shown net found i unset =
    ap (lines_of names shown net) (marked_more found i ∙ ap (λ (b : Bool). marked found i ++ cond b (i ∷ []) []) unset
    ∙ append-nil (marked found i))

-- a state that is marked has its line after those of the states before it
pub lines_more : (names shown : List (List ℕ)) (net : ParserNetwork) (found : List Bool) (i : ℕ) → slice_index_or found i false ≡ true →
    lines_of names shown net (marked found (i + 1)) ≡ lines_of names shown net (marked found i) ++ line_of names shown net i
lines_more names shown net found i is_set =
    ap (lines_of names shown net) (marked_more found i ∙ ap (λ (b : Bool). marked found i ++ cond b (i ∷ []) []) is_set)
    ∙ flat_map-append (line_of names shown net) (marked found i) (i ∷ [])
    ∙ ap (λ (xs : List ℕ). lines_of names shown net (marked found i) ++ xs) (append-nil (line_of names shown net i))

-- one more number, a space before it
pub spaced_next : (numbers : List ℕ) (i : ℕ) (before after all : List ℕ) → i < length numbers
    → after ≡ before ++ (codes " " ++ decimal (get_or numbers i 0)) → before ++ spaced (drop i numbers) ≡ all
    → after ++ spaced (drop (i + 1) numbers) ≡ all
spaced_next numbers i before after all within is known =
    ap (λ (xs : List ℕ). xs ++ spaced (drop (i + 1) numbers)) is
    ∙ append_assoc before (codes " " ++ decimal (get_or numbers i 0)) (spaced (drop (i + 1) numbers))
    ∙ ap (λ (xs : List ℕ). before ++ xs) (sym (ap spaced (drop_more numbers i 0 within))) ∙ known

-- a name, what ends its line, and lines, one after another
pub one_after_another : (empty named ended all name newline lines : List ℕ) → empty ≡ [] → named ≡ empty ++ name
    → ended ≡ named ++ newline → all ≡ ended ++ lines → all ≡ name ++ (newline ++ lines)
one_after_another empty named ended all name newline lines none one two three =
    three ∙ ap (λ (xs : List ℕ). xs ++ lines) (two
    ∙ ap (λ (xs : List ℕ). xs ++ newline) (one ∙ ap (λ (xs : List ℕ). xs ++ name) none)) ∙ append_assoc name newline lines
