-- A part begins with the tokens with which its production begins.
use Rattle.std.proofs.Common.{◌≡◌, List, ℕ, refl}
use Rattle.g4_base.specs.declared.place.Place.{Place}
use Rattle.g4_grammar_tokens.specs.declared.token.Kind.{Kind}
use Rattle.g4_grammar_tokens.specs.declared.token.Kind.TheVariants as kinds
use Rattle.g4_syntax.specs.Notation.{Spelled, Nonterminal, element, token_set, lexer_element, character_set, more_names, part}
use Rattle.g4_syntax.specs.Productions.{production}
use Rattle.g4_syntax.specs.Trees.{begins}

-- the table says for each kind of token what the productions say
same_first : (n : Nonterminal) (kind : Kind) (place : Place) (bytes : List ℕ)
    → begins (part n) (record { kind = kind; place = place; bytes = bytes })
    ≡ begins (production n) (record { kind = kind; place = place; bytes = bytes })
same_first element kinds.Lower place bytes = refl
same_first token_set kinds.Lower place bytes = refl
same_first lexer_element kinds.Lower place bytes = refl
same_first character_set kinds.Lower place bytes = refl
same_first more_names kinds.Lower place bytes = refl
same_first _ _ place bytes = refl

-- a part begins with a token where its production does
pub begins_part : (n : Nonterminal) (token : Spelled) → begins (part n) token ≡ begins (production n) token
begins_part n token = same_first n token.kind token.place token.bytes
