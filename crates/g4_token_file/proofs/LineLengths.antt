-- No line of a file is longer than the file.
use Rattle.std.proofs.Common.{ℕ, zero, suc, ◌-◌, ◌≤◌, Bool, true, false, cond, ◌&&◌, ◌==◌, List, [], ◌∷◌, map, length, take, drop, arith, length-take, length-drop}
use Rattle.std.specs.List.{starts_with}
use Rattle.std.specs.Prelude.{nat_eq, nat_lt, slice_index}
use Rattle.bstr.specs.Text.{lines_from, line_len, no_cr, without_terminator}
use Rattle.g4_token_file.specs.Files.{file_lines, mark, unmarked}

-- each of the lines has at most so many bytes
abbrev pub AreWithin : ℕ → List (List ℕ) → Type 0
AreWithin most [] = Unit {0}
AreWithin most (line ∷ lines) = (length line ≤ most) × AreWithin most lines

take_within : (most n : ℕ) (bytes : List ℕ) → length bytes ≤ most → length (take n bytes) ≤ most
take_within most n bytes within = omega (arith, length-take n bytes)

drop_within : (most n : ℕ) (bytes : List ℕ) → length bytes ≤ most → length (drop n bytes) ≤ most
drop_within most n bytes within = omega (arith, length-drop n bytes)

one_of : (most : ℕ) (b : Bool) (x y : List ℕ) → length x ≤ most → length y ≤ most → length (cond b x y) ≤ most
one_of most true x y first second = first
one_of most false x y first second = second

no_cr_within : (most : ℕ) (line : List ℕ) → length line ≤ most → length (no_cr line) ≤ most
no_cr_within most line within =
    one_of most (nat_lt 0 (length line) && slice_index line (length line - 1) == 13) (take (length line - 1) line) line
    (take_within most (length line - 1) line within) within

stripped_within : (most : ℕ) (line : List ℕ) → length line ≤ most → length (without_terminator line) ≤ most
stripped_within most line within =
    one_of most (nat_lt 0 (length line) && slice_index line (length line - 1) == 10) (no_cr (take (length line - 1) line)) line
    (no_cr_within most (take (length line - 1) line) (take_within most (length line - 1) line within)) within

lines_within : (fuel most : ℕ) (bytes : List ℕ) → length bytes ≤ most → AreWithin most (map without_terminator (lines_from fuel bytes))
unfolding lines_from
lines_within zero most bytes within = tt
lines_within (suc fuel) most [] within = tt
lines_within (suc fuel) most (b ∷ rest) within = (
  stripped_within most (take (line_len (b ∷ rest)) (b ∷ rest)) (take_within most (line_len (b ∷ rest)) (b ∷ rest) within),
  lines_within fuel most (drop (line_len (b ∷ rest)) (b ∷ rest)) (drop_within most (line_len (b ∷ rest)) (b ∷ rest) within),
)

-- the bytes without a mark are no more
pub unmarked_within : (most : ℕ) (bytes : List ℕ) → length bytes ≤ most → length (unmarked bytes) ≤ most
unmarked_within most bytes within =
    one_of most (starts_with nat_eq bytes mark) (drop 3 bytes) bytes (drop_within most 3 bytes within) within

-- no line of a file is longer than the file
pub file_lines_within : (most : ℕ) (bytes : List ℕ) → length bytes ≤ most → AreWithin most (file_lines bytes)
file_lines_within most bytes within =
    lines_within (length (unmarked bytes)) most (unmarked bytes) (unmarked_within most bytes within)
