-- Trees of expressions, and which tokens have which tree.
use Rattle.std.specs.Prelude.{◌≡◌, List, [], ◌∷◌, ◌++◌, Bool, true, false, ◌&&◌, ◌||◌}
use Rattle.g4_grammar_tokens.specs.declared.token.Kind.{Kind}
use Rattle.g4_grammar_tokens.specs.declared.token.Kind.TheVariants as kinds
use Rattle.g4_syntax.specs.Notation.{Spelled, is_kind, Terminal, fits, Nonterminal, element, token_set, lexer_element, character_set, more_names, Expression, one, ◌▸◌, ◌∣◌, optional, repeated, part}
use Rattle.g4_syntax.specs.Productions.{production, grammar}

-- a tree of an expression: a leaf holds a token
pub data Tree : Expression → Type 0 where
  leaf : {t : Terminal} → Spelled → Tree (one t)
  both : {x y : Expression} → Tree x → Tree y → Tree (x ▸ y)
  left : {x y : Expression} → Tree x → Tree (x ∣ y)
  right : {x y : Expression} → Tree y → Tree (x ∣ y)
  absent : {x : Expression} → Tree (optional x)
  present : {x : Expression} → Tree x → Tree (optional x)
  end : {x : Expression} → Tree (repeated x)
  more : {x : Expression} → Tree x → Tree (repeated x) → Tree (repeated x)
  inner : {n : Nonterminal} → Tree (production n) → Tree (part n)

-- whether the expression can be no token at all
abbrev pub can_be_empty : Expression → Bool
can_be_empty (one t) = false
can_be_empty (x ▸ y) = can_be_empty x && can_be_empty y
can_be_empty (x ∣ y) = can_be_empty x || can_be_empty y
can_be_empty (optional x) = true
can_be_empty (repeated x) = true
can_be_empty (part n) = false

-- whether the kind is one of these
abbrev pub is_one_of : List Kind → Kind → Bool
is_one_of [] kind = false
is_one_of (k ∷ ks) kind = is_kind k kind || is_one_of ks kind

-- the kinds of token that the part can begin with
abbrev pub first_kinds : Nonterminal → List Kind
first_kinds element = kinds.Lower ∷ kinds.Upper ∷ kinds.Literal ∷ kinds.Dot ∷ kinds.Tilde ∷ kinds.LeftParenthesis ∷ kinds.Action ∷ []
first_kinds token_set = kinds.Upper ∷ kinds.Literal ∷ kinds.LeftParenthesis ∷ []
first_kinds lexer_element = kinds.Lower ∷ kinds.Upper ∷ kinds.Literal ∷ kinds.Set ∷ kinds.Dot ∷ kinds.Tilde ∷ kinds.LeftParenthesis
    ∷ kinds.Action ∷ []
first_kinds character_set = kinds.Literal ∷ kinds.Set ∷ kinds.LeftParenthesis ∷ []
first_kinds more_names = kinds.Comma ∷ []

-- whether the expression can begin with the token
abbrev pub begins : Expression → Spelled → Bool
begins (one t) token = fits t token
begins (x ▸ y) token = begins x token || (can_be_empty x && begins y token)
begins (x ∣ y) token = begins x token || begins y token
begins (optional x) token = begins x token
begins (repeated x) token = begins x token
begins (part n) token = is_one_of (first_kinds n) token.kind

-- whether the expression can begin with the first of these tokens
abbrev pub begins_there : Expression → List Spelled → Bool
begins_there x [] = false
begins_there x (token ∷ _) = begins x token

-- The tree is that of the tokens `from` up to the tokens `to`, by looking one token ahead: of two alternatives the first is taken
-- if the next token can begin it, and what is optional is left out, and what is repeated ends, only where the next token cannot
-- begin it. So a name that is spelled like a keyword is the keyword wherever one may come: `catch` after a rule begins a handler,
-- and never a rule with that name.
abbrev pub Reads : {x : Expression} → Tree x → List Spelled → List Spelled → Type 0
Reads (leaf {t} token) from to = (from ≡ token ∷ to) × (fits t token ≡ true)
Reads (both a b) from to = (between : List Spelled) × Reads a from between × Reads b between to
Reads (left {x} {y} a) from to = (begins_there x from ≡ true) × Reads a from to
Reads (right {x} {y} b) from to = (begins_there x from ≡ false) × Reads b from to
Reads (absent {x}) from to = (begins_there x from ≡ false) × (from ≡ to)
Reads (present {x} a) from to = (begins_there x from ≡ true) × Reads a from to
Reads (end {x}) from to = (begins_there x from ≡ false) × (from ≡ to)
Reads (more {x} a as_before) from to = (begins_there x from ≡ true) × (between : List Spelled) × Reads a from between
    × Reads as_before between to
Reads (inner a) from to = Reads a from to

-- reading the expression from the tokens `from` on asks for the terminal `t` when the tokens `rest` are left
pub data Comes (t : Terminal) : Expression → List Spelled → List Spelled → Type 0 where
  here : (rest : List Spelled) → Comes t (one t) rest rest
  in_first : {x y : Expression} (from rest : List Spelled) → Comes t x from rest → Comes t (x ▸ y) from rest
  in_second : {x y : Expression} (from between rest : List Spelled) (a : Tree x) → Reads a from between → Comes t y between rest
      → Comes t (x ▸ y) from rest
  in_left : {x y : Expression} (from rest : List Spelled) → begins_there x from ≡ true → Comes t x from rest → Comes t (x ∣ y) from rest
  in_right : {x y : Expression} (from rest : List Spelled) → begins_there x from ≡ false → Comes t y from rest → Comes t (x ∣ y) from rest
  in_optional : {x : Expression} (from rest : List Spelled) → begins_there x from ≡ true → Comes t x from rest
      → Comes t (optional x) from rest
  in_turn : {x : Expression} (from rest : List Spelled) → begins_there x from ≡ true → Comes t x from rest → Comes t (repeated x) from rest
  in_later_turn : {x : Expression} (from between rest : List Spelled) (a : Tree x) → begins_there x from ≡ true → Reads a from between
      → Comes t (repeated x) between rest → Comes t (repeated x) from rest
  in_part : {n : Nonterminal} (from rest : List Spelled) → Comes t (production n) from rest → Comes t (part n) from rest

-- reading the expression from the tokens `from` on stops when `rest` is left: it asks for a terminal that the next token is not,
-- or no token is left
pub record Stops (x : Expression) (from rest : List Spelled) : Type 0 where
  pub terminal : Terminal
  pub comes : Comes terminal x from rest
  pub none : begins_there (one terminal) rest ≡ false

-- the tokens are a grammar text with this tree
abbrev pub HasTree : List Spelled → Tree grammar → Type 0
HasTree tokens tree = Reads tree tokens []

-- some grammar text begins with these tokens
abbrev pub BeginsText : List Spelled → Type 0
BeginsText tokens = (others : List Spelled) × (tree : Tree grammar) × HasTree (tokens ++ others) tree

-- reading a grammar text stops when these tokens are left: within the text, or after it because it is complete
pub data TextStops (tokens : List Spelled) : List Spelled → Type 0 where
  within : (rest : List Spelled) → Stops grammar tokens rest → TextStops tokens rest
  after : (token : Spelled) (rest : List Spelled) (tree : Tree grammar) → Reads tree tokens (token ∷ rest) → TextStops tokens (token ∷ rest)

-- no grammar text continues the first tokens with the next of the others; or, if there are no others, the tokens are not a whole
-- grammar text
abbrev pub Ends : List Spelled → List Spelled → Type 0
Ends tokens [] = (tree : Tree grammar) → ¬ (HasTree tokens tree)
Ends tokens (token ∷ _) = ¬ (BeginsText (tokens ++ token ∷ []))
