-- The tokens with which a text of an expression can go on at its end.
use Rattle.std.proofs.Common.{◌≡◌, List, [], ◌∷◌, Bool, true, false, ◌&&◌, ◌||◌, ℕ, refl, sym, ◌∙◌}
use Rattle.g4_base.specs.declared.place.Place.{Place}
use Rattle.g4_grammar_tokens.specs.declared.token.Kind.{Kind}
use Rattle.g4_grammar_tokens.specs.declared.token.Kind.TheVariants as kinds
use Rattle.g4_syntax.specs.Notation.{Spelled, Nonterminal, element, token_set, lexer_element, character_set, more_names, Expression, one, ◌▸◌, ◌∣◌, optional, repeated, part}
use Rattle.g4_syntax.specs.Productions.{production}
use Rattle.g4_syntax.specs.Trees.{can_be_empty, is_one_of, begins}
use Rattle.g4_syntax.proofs.Truths.{or_first_false, or_second_false, and_second_false}

-- the kinds of token with which the part can go on at its end
abbrev pub last_kinds : Nonterminal → List Kind
last_kinds element = kinds.Arguments ∷ kinds.Less ∷ kinds.Equals ∷ kinds.PlusEquals ∷ kinds.Question ∷ kinds.Star ∷ kinds.Plus ∷ []
last_kinds token_set = kinds.Less ∷ []
last_kinds lexer_element = kinds.Less ∷ kinds.DoubleDot ∷ kinds.Equals ∷ kinds.PlusEquals ∷ kinds.Question ∷ kinds.Star ∷ kinds.Plus ∷ []
last_kinds character_set = kinds.DoubleDot ∷ []
last_kinds more_names = kinds.Lower ∷ kinds.Upper ∷ kinds.Comma ∷ []

-- whether a text of the expression can go on at its end with the token
abbrev pub extends : Expression → Spelled → Bool
extends (one t) token = false
extends (x ▸ y) token = extends y token || (can_be_empty y && extends x token)
extends (x ∣ y) token = extends x token || (extends y token || (can_be_empty y && begins x token))
extends (optional x) token = begins x token || extends x token
extends (repeated x) token = begins x token || extends x token
extends (part n) token = is_one_of (last_kinds n) token.kind

-- whether a text of the expression can go on at its end with the first of these tokens
abbrev pub extends_there : Expression → List Spelled → Bool
extends_there x [] = false
extends_there x (token ∷ _) = extends x token

-- no token extends the one expression that does not extend the other
abbrev pub Covers : Expression → Expression → Type 0
Covers x y = (token : Spelled) → extends x token ≡ false → extends y token ≡ false

-- the token is one that does not begin the expression where it does not extend the other
abbrev pub Bars : Expression → Expression → Type 0
Bars x y = (token : Spelled) → extends x token ≡ false → begins y token ≡ false

-- what extends the second of two extends both
pub covers_second : (x y : Expression) → Covers (x ▸ y) y
covers_second x y token none = or_first_false (extends y token) (can_be_empty y && extends x token) none

-- where the second of two can be empty, what extends the first extends both
pub covers_first : (x y : Expression) → can_be_empty y ≡ true → Covers (x ▸ y) x
covers_first x y can token none =
    and_second_false (can_be_empty y) (extends x token) can (or_second_false (extends y token) (can_be_empty y && extends x token) none)

-- what extends the first alternative extends both
pub covers_left : (x y : Expression) → Covers (x ∣ y) x
covers_left x y token none = or_first_false (extends x token) (extends y token || (can_be_empty y && begins x token)) none

-- what does not extend two alternatives neither extends the second nor, where this can be empty, begins the first
right_end : (x y : Expression) (token : Spelled) → extends (x ∣ y) token ≡ false
    → (extends y token || (can_be_empty y && begins x token)) ≡ false
right_end x y token none = or_second_false (extends x token) (extends y token || (can_be_empty y && begins x token)) none

-- what extends the second alternative extends both
pub covers_right : (x y : Expression) → Covers (x ∣ y) y
covers_right x y token none = or_first_false (extends y token) (can_be_empty y && begins x token) (right_end x y token none)

-- where the second alternative can be empty, what begins the first extends both
pub bars_left : (x y : Expression) → can_be_empty y ≡ true → Bars (x ∣ y) x
bars_left x y can token none =
    and_second_false (can_be_empty y) (begins x token) can
    (or_second_false (extends y token) (can_be_empty y && begins x token) (right_end x y token none))

-- what extends an expression extends it where it is optional
pub covers_optional : (x : Expression) → Covers (optional x) x
covers_optional x token none = or_second_false (begins x token) (extends x token) none

-- what begins an expression extends it where it is optional
pub bars_optional : (x : Expression) → Bars (optional x) x
bars_optional x token none = or_first_false (begins x token) (extends x token) none

-- what extends an expression extends it where it is repeated
pub covers_repeated : (x : Expression) → Covers (repeated x) x
covers_repeated x token none = or_second_false (begins x token) (extends x token) none

-- what begins an expression extends it where it is repeated
pub bars_repeated : (x : Expression) → Bars (repeated x) x
bars_repeated x token none = or_first_false (begins x token) (extends x token) none

-- the table says for each kind of token what the productions say
same_end : (n : Nonterminal) (kind : Kind) (place : Place) (bytes : List ℕ)
    → extends (part n) (record { kind = kind; place = place; bytes = bytes })
    ≡ extends (production n) (record { kind = kind; place = place; bytes = bytes })
same_end element kinds.Lower place bytes = refl
same_end token_set kinds.Lower place bytes = refl
same_end lexer_element kinds.Lower place bytes = refl
same_end character_set kinds.Lower place bytes = refl
same_end more_names kinds.Lower place bytes = refl
same_end _ _ place bytes = refl

-- a part can go on at its end as what is in it can
pub covers_part : (n : Nonterminal) → Covers (part n) (production n)
covers_part n token none = sym (same_end n token.kind token.place token.bytes) ∙ none
