-- What has to be known for an expression to be read: how its parts are, unless none comes first.
use Rattle.std.proofs.Common.{◌≡◌, ◌⊎◌, ◌<◌, List, length, Bool, true, false, not, ◌&&◌, ◌||◌, refl, sym, inl, inr, true≢false}
use Rattle.g4_syntax.specs.Notation.{Spelled, Nonterminal, element, token_set, lexer_element, character_set, more_names, Expression, one, ◌▸◌, ◌∣◌, optional, repeated, part}
use Rattle.g4_syntax.specs.Productions.{production}
use Rattle.g4_syntax.specs.Trees.{Tree, can_be_empty, Reads, Stops}
use Rattle.g4_syntax.proofs.Truths.{and_first_true, and_second_true, or_not_true}

-- the expression is read of the first tokens, or reading it stops
abbrev pub Outcome : Expression → List Spelled → Type 0
Outcome x from = ((a : Tree x) × (to : List Spelled) × Reads a from to) ⊎ ((rest : List Spelled) × Stops x from rest)

-- whether no part comes in the expression before a token is read
abbrev pub is_guarded : Expression → Bool
is_guarded (one t) = true
is_guarded (x ▸ y) = is_guarded x && (not (can_be_empty x) || is_guarded y)
is_guarded (x ∣ y) = is_guarded x && is_guarded y
is_guarded (optional x) = is_guarded x
is_guarded (repeated x) = is_guarded x
is_guarded (part n) = false

-- in no production a part comes before a token is read
pub part_guarded : (n : Nonterminal) → is_guarded (production n) ≡ true
part_guarded element = refl
part_guarded token_set = refl
part_guarded lexer_element = refl
part_guarded character_set = refl
part_guarded more_names = refl

-- no part comes first there, or how each part is read there is known
abbrev pub Known : Expression → List Spelled → Type 0
Known x from = (is_guarded x ≡ true) ⊎ ((n : Nonterminal) → Outcome (part n) from)

-- how every expression is read of fewer tokens is known
abbrev pub ShorterKnown : List Spelled → Type 0
ShorterKnown from = (x : Expression) (to : List Spelled) → length to < length from → Outcome x to

-- what is known for two is known for the first
pub first_known : (x y : Expression) (from : List Spelled) → Known (x ▸ y) from → Known x from
first_known x y from (inl guarded) = inl (and_first_true (is_guarded x) (not (can_be_empty x) || is_guarded y) guarded)
first_known x y from (inr parts) = inr parts

-- what is known for two is known for the second, where the first can be empty
pub second_known : (x y : Expression) (from : List Spelled) → Known (x ▸ y) from → can_be_empty x ≡ true → Known y from
second_known x y from (inl guarded) can =
    inl (or_not_true (can_be_empty x) (is_guarded y) can (and_second_true (is_guarded x) (not (can_be_empty x) || is_guarded y) guarded))
second_known x y from (inr parts) can = inr parts

-- what is known for two alternatives is known for the first
pub left_known : (x y : Expression) (from : List Spelled) → Known (x ∣ y) from → Known x from
left_known x y from (inl guarded) = inl (and_first_true (is_guarded x) (is_guarded y) guarded)
left_known x y from (inr parts) = inr parts

-- what is known for two alternatives is known for the second
pub right_known : (x y : Expression) (from : List Spelled) → Known (x ∣ y) from → Known y from
right_known x y from (inl guarded) = inl (and_second_true (is_guarded x) (is_guarded y) guarded)
right_known x y from (inr parts) = inr parts

-- what is known for a part is how it is read
pub part_known : (n : Nonterminal) (from : List Spelled) → Known (part n) from → Outcome (part n) from
part_known n from (inl guarded) = absurd (true≢false (sym guarded))
part_known n from (inr parts) = parts n
