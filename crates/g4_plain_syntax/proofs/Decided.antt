-- In each production one token decides.
use Rattle.std.proofs.Common.{◌≡◌, Bool, true, not, ◌&&◌, refl}
use Rattle.g4_syntax.specs.Notation.{Nonterminal, element, token_set, lexer_element, character_set, more_names, Expression, one, ◌▸◌, ◌∣◌, optional, repeated, part}
use Rattle.g4_syntax.specs.Productions.{production, grammar}
use Rattle.g4_syntax.specs.Trees.{can_be_empty}
use Rattle.g4_plain_syntax.proofs.Apart.{excludes}
use Rattle.g4_plain_syntax.proofs.Ends.{firsts, lasts}

-- whether no token with which the second begins begins the first
abbrev pub begin_apart : Expression → Expression → Bool
begin_apart x y = firsts (λ other. firsts (λ t. excludes t other) x) y

-- whether no token with which the second begins extends the first
abbrev pub ends_before : Expression → Expression → Bool
ends_before x y = firsts (λ other. lasts (λ t. excludes t other) x) y

-- whether one token decides in the expression: which of two alternatives there is, and where what is optional or repeated ends
abbrev pub is_decided : Expression → Bool
is_decided (one t) = true
is_decided (x ▸ y) = is_decided x && (is_decided y && ends_before x y)
is_decided (x ∣ y) = is_decided x && (is_decided y && (not (can_be_empty x) && begin_apart x y))
is_decided (optional x) = is_decided x && not (can_be_empty x)
is_decided (repeated x) = is_decided x && (not (can_be_empty x) && ends_before x x)
is_decided (part n) = true

-- one token decides in the grammar
pub grammar_decided : is_decided grammar ≡ true
grammar_decided = refl

-- one token decides in the productions
pub part_decided : (n : Nonterminal) → is_decided (production n) ≡ true
part_decided element = refl
part_decided token_set = refl
part_decided lexer_element = refl
part_decided character_set = refl
part_decided more_names = refl
