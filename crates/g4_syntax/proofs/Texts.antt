-- The tokens of a tree, and those that are read before a terminal.
use Rattle.std.proofs.Common.{◌≡◌, List, [], ◌∷◌, ◌++◌, true, false, ◌&&◌, refl, sym, ap, subst, ◌∙◌, true≢false, append_assoc}
use Rattle.g4_syntax.specs.Notation.{Spelled, Terminal, Nonterminal, element, token_set, lexer_element, character_set, more_names, Expression, ◌▸◌, ◌∣◌, optional, repeated}
use Rattle.g4_syntax.specs.Productions.{production}
use Rattle.g4_syntax.specs.Trees.{Tree, leaf, both, left, right, absent, present, end, more, inner, begins, can_be_empty, begins_there, Reads, Comes, here, in_first, in_second, in_left, in_right, in_optional, in_turn, in_later_turn, in_part}
use Rattle.g4_syntax.proofs.Truths.{apart, or_false, false_and, and_true, or_second_true}

-- the tokens of a tree
abbrev pub text : {x : Expression} → Tree x → List Spelled
text (leaf token) = token ∷ []
text (both a b) = text a ++ text b
text (left a) = text a
text (right b) = text b
text absent = []
text (present a) = text a
text end = []
text (more a as_before) = text a ++ text as_before
text (inner a) = text a

-- a tree is read of its tokens
pub reads_text : {x : Expression} (a : Tree x) (from to : List Spelled) → Reads a from to → from ≡ text a ++ to
reads_text (leaf token) from to reads = reads.0
reads_text (both a b) from to reads = reads_text a from reads.0 reads.1 ∙ ap (λ l. text a ++ l) (reads_text b reads.0 to reads.2)
    ∙ sym (append_assoc (text a) (text b) to)
reads_text (left a) from to reads = reads_text a from to reads.1
reads_text (right b) from to reads = reads_text b from to reads.1
reads_text absent from to reads = reads.1
reads_text (present a) from to reads = reads_text a from to reads.1
reads_text end from to reads = reads.1
reads_text (more a tail) from to reads = reads_text a from reads.1 reads.2
    ∙ ap (λ l. text a ++ l) (reads_text tail reads.1 to reads.3) ∙ sym (append_assoc (text a) (text tail) to)
reads_text (inner a) from to reads = reads_text a from to reads

-- the tokens that are read before a terminal to which reading comes
abbrev pub read_before : {t : Terminal} {x : Expression} {from rest : List Spelled} → Comes t x from rest → List Spelled
read_before (here _) = []
read_before (in_first _ _ comes) = read_before comes
read_before (in_second _ _ _ a _ comes) = text a ++ read_before comes
read_before (in_left _ _ _ comes) = read_before comes
read_before (in_right _ _ _ comes) = read_before comes
read_before (in_optional _ _ _ comes) = read_before comes
read_before (in_turn _ _ _ comes) = read_before comes
read_before (in_later_turn _ _ _ a _ _ comes) = text a ++ read_before comes
read_before (in_part _ _ comes) = read_before comes

-- the tokens that are read before a terminal are followed by those that are left at it
pub comes_after : {t : Terminal} {x : Expression} {from rest : List Spelled} (comes : Comes t x from rest)
    → from ≡ read_before comes ++ rest
comes_after (here rest) = refl
comes_after (in_first _ _ comes) = comes_after comes
comes_after (in_second from between rest a reads comes) =
    reads_text a from between reads ∙ ap (λ l. text a ++ l) (comes_after comes) ∙ sym (append_assoc (text a) (read_before comes) rest)
comes_after (in_left _ _ _ comes) = comes_after comes
comes_after (in_right _ _ _ comes) = comes_after comes
comes_after (in_optional _ _ _ comes) = comes_after comes
comes_after (in_turn _ _ _ comes) = comes_after comes
comes_after (in_later_turn from between rest a _ reads comes) =
    reads_text a from between reads ∙ ap (λ l. text a ++ l) (comes_after comes) ∙ sym (append_assoc (text a) (read_before comes) rest)
comes_after (in_part _ _ comes) = comes_after comes

-- if two texts together are empty, the first is
pub first_empty : (v w : List Spelled) → v ++ w ≡ [] → v ≡ []
first_empty [] w none = refl
first_empty (t ∷ v) w none = cc

-- if two texts together are empty, the second is
pub second_empty : (v w : List Spelled) → v ++ w ≡ [] → w ≡ []
second_empty [] w none = none
second_empty (t ∷ v) w none = cc

-- no part is empty
pub never_empty : (n : Nonterminal) → can_be_empty (production n) ≡ true → ⊥
never_empty element can = true≢false (sym can)
never_empty token_set can = true≢false (sym can)
never_empty lexer_element can = true≢false (sym can)
never_empty character_set can = true≢false (sym can)
never_empty more_names can = true≢false (sym can)

-- what begins neither of two does not begin both, one after the other
begins_neither : (x y : Expression) (from : List Spelled) → begins_there x from ≡ false → begins_there y from ≡ false
    → begins_there (x ▸ y) from ≡ false
begins_neither x y [] first second = refl
begins_neither x y (t ∷ _) first second = or_false (begins x t) (can_be_empty x && begins y t) first
    (false_and (can_be_empty x) (begins y t) second)

-- what begins neither of two does not begin one or the other
begins_no_other : (x y : Expression) (from : List Spelled) → begins_there x from ≡ false → begins_there y from ≡ false
    → begins_there (x ∣ y) from ≡ false
begins_no_other x y [] first second = refl
begins_no_other x y (t ∷ _) first second = or_false (begins x t) (begins y t) first second

-- what does not begin an expression does not begin one that begins no more
same_begins : (y x : Expression) (from : List Spelled) → ((t : Spelled) → begins x t ≡ false → begins y t ≡ false)
    → begins_there x from ≡ false → begins_there y from ≡ false
same_begins y x [] no_more none = refl
same_begins y x (t ∷ _) no_more none = no_more t none

-- what does not begin with some tokens does not begin with the same ones
not_begun : (x : Expression) (from to : List Spelled) → from ≡ to → begins_there x to ≡ false → begins_there x from ≡ false
not_begun x from to same none = subst (λ (l : List Spelled). begins_there x l ≡ false) (sym same) none

-- a tree with no token is one of an expression that can be empty, which does not begin there
pub nothing_read : {x : Expression} (a : Tree x) (from to : List Spelled) → Reads a from to → text a ≡ []
    → (can_be_empty x ≡ true) × (begins_there x from ≡ false)
nothing_read (leaf {t} token) from to reads none = cc
nothing_read (both {x} {y} a b) from to reads none =
    let first = nothing_read a from reads.0 reads.1 (first_empty (text a) (text b) none) in
    let second = nothing_read b reads.0 to reads.2 (second_empty (text a) (text b) none) in
    let same : from ≡ reads.0 = reads_text a from reads.0 reads.1
    ∙ ap (λ (w : List Spelled). w ++ reads.0) (first_empty (text a) (text b) none) in
    (and_true (can_be_empty x) (can_be_empty y) first.0 second.0, begins_neither x y from first.1 (not_begun y from reads.0 same second.1))
nothing_read (left {x} {y} a) from to reads none =
    let inside = nothing_read a from to reads.1 none in
    absurd (apart (begins_there x from) reads.0 inside.1)
nothing_read (right {x} {y} b) from to reads none =
    let inside = nothing_read b from to reads.1 none in
    (or_second_true (can_be_empty x) (can_be_empty y) inside.0, begins_no_other x y from reads.0 inside.1)
nothing_read (absent {x}) from to reads none = (refl, same_begins (optional x) x from (λ t is. is) reads.0)
nothing_read (present {x} a) from to reads none = absurd (apart (begins_there x from) reads.0 (nothing_read a from to reads.1 none).1)
nothing_read (end {x}) from to reads none = (refl, same_begins (repeated x) x from (λ t is. is) reads.0)
nothing_read (more {x} a tail) from to reads none =
    absurd (apart (begins_there x from) reads.0 (nothing_read a from reads.1 reads.2 (first_empty (text a) (text tail) none)).1)
nothing_read (inner {n} a) from to reads none = absurd (never_empty n (nothing_read a from to reads none).0)
