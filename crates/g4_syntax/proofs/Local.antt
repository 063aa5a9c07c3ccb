-- What is read, or comes to a terminal, does so whatever follows, if no more can be read: only the next token counts.
use Rattle.std.proofs.Common.{◌≡◌, ◌⊎◌, List, [], ◌∷◌, ◌++◌, Bool, true, false, refl, sym, ap, subst, ◌∙◌, inl, inr, append_assoc}
use Rattle.g4_syntax.specs.Notation.{Spelled, Terminal, Expression, one, ◌▸◌, ◌∣◌, optional, repeated, part}
use Rattle.g4_syntax.specs.Productions.{production}
use Rattle.g4_syntax.specs.Trees.{Tree, leaf, both, left, right, absent, present, end, more, inner, begins_there, Reads, Comes, here, in_first, in_second, in_left, in_right, in_optional, in_turn, in_later_turn, in_part}
use Rattle.g4_syntax.proofs.Truths.{apart}
use Rattle.g4_syntax.proofs.Texts.{text, reads_text, read_before, comes_after, nothing_read}
use Rattle.g4_syntax.proofs.Extends.{extends_there, Covers, Bars, covers_second, covers_first, covers_left, covers_right, bars_left, covers_optional, bars_optional, covers_repeated, bars_repeated, covers_part}

-- the next token of both is the same, or there is none
abbrev pub Agrees : List Spelled → List Spelled → Type 0
Agrees rest other = (x : Expression) → begins_there x rest ≡ begins_there x other

-- a text of the expression cannot go on at its end with the next token
abbrev pub Allowed : Expression → List Spelled → Type 0
Allowed x rest = extends_there x rest ≡ false

-- the others may follow a text of the expression as well
abbrev pub Alike : Expression → List Spelled → List Spelled → Type 0
Alike x rest other = Agrees rest other ⊎ Allowed x other

-- what may follow an expression may follow one that goes on with no more tokens
pub allowed_of : (x y : Expression) (rest : List Spelled) → Covers x y → Allowed x rest → Allowed y rest
allowed_of x y [] covers allowed = refl
allowed_of x y (token ∷ _) covers allowed = covers token allowed

-- what may follow an expression does not begin what it could go on with
pub barred : (x y : Expression) (rest : List Spelled) → Bars x y → Allowed x rest → begins_there y rest ≡ false
barred x y [] bars allowed = refl
barred x y (token ∷ _) bars allowed = bars token allowed

-- the others may follow as well an expression that goes on with no more tokens
alike_of : (x y : Expression) (rest other : List Spelled) → Covers x y → Alike x rest other → Alike y rest other
alike_of x y rest other covers (inl agrees) = inl agrees
alike_of x y rest other covers (inr allowed) = inr (allowed_of x y other covers allowed)

-- what did not begin at the end does not begin with others there
still_not : (x y : Expression) (rest other : List Spelled) → Bars x y → Alike x rest other → begins_there y rest ≡ false
    → begins_there y other ≡ false
still_not x y rest other bars (inl agrees) none = sym (agrees y) ∙ none
still_not x y rest other bars (inr allowed) none = barred x y other bars allowed

-- with the same tokens before them they agree
pub agrees_after : (from w rest other : List Spelled) → from ≡ w ++ rest → Agrees rest other → Agrees from (w ++ other)
agrees_after from [] rest other is agrees = λ x. ap (begins_there x) is ∙ agrees x
agrees_after from (token ∷ w) rest other is agrees = λ x. ap (begins_there x) is

-- where a token is left the next one is the same
pub alike_after : (x z : Expression) (from w rest other : List Spelled) → from ≡ w ++ rest → (w ≡ [] → Covers z x)
    → Alike z rest other → Alike x from (w ++ other)
alike_after x z from w rest other is covers (inl agrees) = inl (agrees_after from w rest other is agrees)
alike_after x z from [] rest other is covers (inr allowed) = inr (allowed_of z x other (covers refl) allowed)
alike_after x z from (token ∷ w) rest other is covers (inr allowed) = inl (λ y. ap (begins_there y) is)

-- what begins there, or does not, does so with others after it
pub kept : (b : Bool) (x : Expression) (from w rest other : List Spelled) → from ≡ w ++ rest → begins_there x from ≡ b
    → (w ≡ [] → begins_there x rest ≡ b → begins_there x other ≡ b) → begins_there x (w ++ other) ≡ b
kept b x from [] rest other is so at_end = at_end refl (sym (ap (begins_there x) is) ∙ so)
kept b x from (token ∷ w) rest other is so at_end = sym (ap (begins_there x) is) ∙ so

-- what begins there and is read begins there with others after it
pub begun : {x : Expression} (a : Tree x) (from to other : List Spelled) → begins_there x from ≡ true → Reads a from to
    → begins_there x (text a ++ other) ≡ true
begun {x} a from to other so reads =
    kept true x from (text a) to other (reads_text a from to reads) so
    (λ none at. absurd (apart (begins_there x from) so (nothing_read a from to reads none).1))

-- a tree is read with others after it
pub reads_again : {x : Expression} (a : Tree x) (from to other : List Spelled) → Reads a from to → Alike x to other
    → Reads a (text a ++ other) other
reads_again (leaf token) from to other reads alike = (refl, reads.1)
reads_again (both {x} {y} a b) from to other reads alike =
    let covers : text b ≡ [] → Covers (x ▸ y) x = λ none. covers_first x y (nothing_read b reads.0 to reads.2 none).0 in
    let first = reads_again a from reads.0 (text b ++ other) reads.1
    (alike_after x (x ▸ y) reads.0 (text b) to other (reads_text b reads.0 to reads.2) covers alike) in
    let second = reads_again b reads.0 to other reads.2 (alike_of (x ▸ y) y to other (covers_second x y) alike) in
    (text b ++ other, subst (λ (l : List Spelled). Reads a l (text b ++ other)) (sym (append_assoc (text a) (text b) other)) first, second)
reads_again (left {x} {y} a) from to other reads alike =
    (begun a from to other reads.0 reads.1, reads_again a from to other reads.1 (alike_of (x ∣ y) x to other (covers_left x y) alike))
reads_again (right {x} {y} b) from to other reads alike =
    let bars : text b ≡ [] → Bars (x ∣ y) x = λ none. bars_left x y (nothing_read b from to reads.1 none).0 in (
      kept false x from (text b) to other (reads_text b from to reads.1) reads.0
          (λ none at. still_not (x ∣ y) x to other (bars none) alike at),
      reads_again b from to other reads.1 (alike_of (x ∣ y) y to other (covers_right x y) alike),
    )
reads_again (absent {x}) from to other reads alike =
    (kept false x from [] to other reads.1 reads.0 (λ _ at. still_not (optional x) x to other (bars_optional x) alike at), refl)
reads_again (present {x} a) from to other reads alike = (
  begun a from to other reads.0 reads.1,
  reads_again a from to other reads.1
      (alike_of (optional x) x to other (covers_optional x) alike),
)
reads_again (end {x}) from to other reads alike =
    (kept false x from [] to other reads.1 reads.0 (λ _ at. still_not (repeated x) x to other (bars_repeated x) alike at), refl)
reads_again (more {x} a tail) from to other reads alike =
    let covers : text tail ≡ [] → Covers (repeated x) x = λ none. covers_repeated x in
    let first = reads_again a from reads.1 (text tail ++ other) reads.2
    (alike_after x (repeated x) reads.1 (text tail) to other (reads_text tail reads.1 to reads.3) covers alike) in
    let second = reads_again tail reads.1 to other reads.3 alike in
    let whole : Reads (more a tail) (text a ++ (text tail ++ other)) other =
    (begun a from reads.1 (text tail ++ other) reads.0 reads.2, text tail ++ other, first, second) in
    subst (λ (l : List Spelled). Reads (more a tail) l other) (sym (append_assoc (text a) (text tail) other)) whole
reads_again (inner {n} a) from to other reads alike =
    reads_again a from to other reads (alike_of (part n) (production n) to other (covers_part n) alike)

-- what begins before a terminal, or does not, does so with others after it
still : (b : Bool) (x : Expression) {t : Terminal} {y : Expression} {from rest : List Spelled} (comes : Comes t y from rest)
    (other : List Spelled) → Agrees rest other → begins_there x from ≡ b → begins_there x (read_before comes ++ other) ≡ b
still b x {from = from} {rest = rest} comes other agrees so =
    sym (agrees_after from (read_before comes) rest other (comes_after comes) agrees x) ∙ so

-- reading comes to a terminal with others after it, if the next token is the same
pub comes_again : {t : Terminal} {x : Expression} {from rest : List Spelled} (comes : Comes t x from rest) (other : List Spelled)
    → Agrees rest other → Comes t x (read_before comes ++ other) other
comes_again (here rest) other agrees = here other
comes_again (in_first from rest comes) other agrees = in_first (read_before comes ++ other) other (comes_again comes other agrees)
comes_again {t} (in_second {x} {y} from between rest a reads comes) other agrees =
    let after = read_before comes ++ other in
    let first = reads_again a from between after reads
    (inl (agrees_after between (read_before comes) rest other (comes_after comes) agrees)) in
    subst (λ (l : List Spelled). Comes t (x ▸ y) l other) (sym (append_assoc (text a) (read_before comes) other))
    (in_second (text a ++ after) after other a first (comes_again comes other agrees))
comes_again (in_left {x} from rest so comes) other agrees =
    in_left (read_before comes ++ other) other (still true x comes other agrees so) (comes_again comes other agrees)
comes_again (in_right {x} from rest so comes) other agrees =
    in_right (read_before comes ++ other) other (still false x comes other agrees so) (comes_again comes other agrees)
comes_again (in_optional {x} from rest so comes) other agrees =
    in_optional (read_before comes ++ other) other (still true x comes other agrees so) (comes_again comes other agrees)
comes_again (in_turn {x} from rest so comes) other agrees =
    in_turn (read_before comes ++ other) other (still true x comes other agrees so) (comes_again comes other agrees)
comes_again {t} (in_later_turn {x} from between rest a so reads comes) other agrees =
    let after = read_before comes ++ other in
    let first = reads_again a from between after reads
    (inl (agrees_after between (read_before comes) rest other (comes_after comes) agrees)) in
    subst (λ (l : List Spelled). Comes t (repeated x) l other) (sym (append_assoc (text a) (read_before comes) other))
    (in_later_turn (text a ++ after) after other a (begun a from between after so reads) first (comes_again comes other agrees))
comes_again (in_part from rest comes) other agrees = in_part (read_before comes ++ other) other (comes_again comes other agrees)
