-- Trees with no lookahead, and names that are spelled like no keyword that can appear in their place.
use Rattle.std.specs.Prelude.{◌≡◌, ℕ, List, [], ◌∷◌, Bool, true, false, ◌&&◌, codes, bytes_eq}
use Rattle.std.specs.List.{list_any}
use Rattle.g4_grammar_tokens.specs.declared.token.Kind.TheVariants as kinds
use Rattle.g4_syntax.specs.Notation.{Spelled, is_kind, Terminal, of_kind, fits, Expression}
use Rattle.g4_syntax.specs.Trees.{Tree, leaf, both, left, right, absent, present, end, more, inner}

-- The tree is that of the first tokens of the one list up to the other. Whatever the next token can begin, any alternative may
-- be taken, what is optional may be left out, and what is repeated may end.
abbrev pub Derives : {x : Expression} → Tree x → List Spelled → List Spelled → Type 0
Derives (leaf {t} token) from to = (from ≡ token ∷ to) × (fits t token ≡ true)
Derives (both a b) from to = (between : List Spelled) × Derives a from between × Derives b between to
Derives (left a) from to = Derives a from to
Derives (right b) from to = Derives b from to
Derives absent from to = from ≡ to
Derives (present a) from to = Derives a from to
Derives end from to = from ≡ to
Derives (more a as_before) from to = (between : List Spelled) × Derives a from between × Derives as_before between to
Derives (inner a) from to = Derives a from to

-- The keywords that can appear where a lower-case name can be a parser rule's name, a reference to one or a label of an element.
-- The others, `returns`, `throws`, `locals`, `mode`, `grammar`, `lexer` and `parser`, appear where no such name can.
abbrev pub contested : List (List ℕ)
contested =
    codes "options"
    ∷ codes "import"
    ∷ codes "tokens"
    ∷ codes "channels"
    ∷ codes "public"
    ∷ codes "private"
    ∷ codes "protected"
    ∷ codes "catch"
    ∷ codes "finally"
    ∷ codes "fragment"
    ∷ []

-- whether the token is a lower-case name that is spelled like a contested keyword
abbrev pub is_contested : Spelled → Bool
is_contested token = is_kind kinds.Lower token.kind && list_any (bytes_eq token.bytes) contested

-- The token is not contested, where its terminal asks for a kind: for lower-case names it does so where they name or call parser
-- rules or are labels of elements. Any other name, as of an option, an action or a mode, may be spelled like any keyword.
abbrev pub IsPlain : Terminal → Spelled → Type 0
IsPlain (of_kind _) token = is_contested token ≡ false
IsPlain _ token = Unit {0}

-- no parser rule's name, reference to one or label of an element in the tree is spelled like a contested keyword
abbrev pub NamesArePlain : {x : Expression} → Tree x → Type 0
NamesArePlain (leaf {t} token) = IsPlain t token
NamesArePlain (both a b) = NamesArePlain a × NamesArePlain b
NamesArePlain (left a) = NamesArePlain a
NamesArePlain (right b) = NamesArePlain b
NamesArePlain absent = Unit {0}
NamesArePlain (present a) = NamesArePlain a
NamesArePlain end = Unit {0}
NamesArePlain (more a as_before) = NamesArePlain a × NamesArePlain as_before
NamesArePlain (inner a) = NamesArePlain a
