-- Which rule the earlier tokens are in, and what brackets and braces after them are. Earlier tokens are listed from the last
-- one on.
use Rattle.std.specs.Prelude.{ℕ, Bool, true, false, List, [], ◌∷◌, ◌&&◌, ◌||◌, not, codes, bytes_eq, if◌then◌else◌}
use Rattle.g4_grammar_tokens.specs.declared.token.Kind.{Kind}
use Rattle.g4_grammar_tokens.specs.declared.token.Kind.TheVariants.{Lower, Upper, LeftBrace, RightBrace, Colon, DoubleColon, Semicolon, LeftParenthesis, At}
use Rattle.g4_grammar_tokens.specs.declared.statement.Named.{Named}
use Rattle.g4_grammar_tokens.specs.declared.statement.Named.TheVariants.{NoName, LowerName, UpperName}

-- a token's kind and its characters
pub record Word : Type 0 where
  pub kind : Kind
  pub characters : List ℕ

-- `@` or `::`, after which a name is no rule's
abbrev pub is_mark : Kind → Bool
is_mark At = true
is_mark DoubleColon = true
is_mark _ = false

abbrev pub is_left_parenthesis : Kind → Bool
is_left_parenthesis LeftParenthesis = true
is_left_parenthesis _ = false

abbrev pub is_semicolon : Kind → Bool
is_semicolon Semicolon = true
is_semicolon _ = false

abbrev pub is_lower : Kind → Bool
is_lower Lower = true
is_lower _ = false

-- `options`
abbrev pub is_options : List ℕ → Bool
is_options word = bytes_eq word (codes "options")

-- `tokens` or `channels`
abbrev pub is_list_word : List ℕ → Bool
is_list_word word = bytes_eq word (codes "tokens") || bytes_eq word (codes "channels")

-- a modifier of a rule
abbrev pub is_modifier : List ℕ → Bool
is_modifier word = ((bytes_eq word (codes "public") || bytes_eq word (codes "private")) || bytes_eq word (codes "protected"))
    || bytes_eq word (codes "fragment")

-- a word that begins what follows a rule
abbrev pub is_handler : List ℕ → Bool
is_handler word = bytes_eq word (codes "catch") || bytes_eq word (codes "finally")

-- a word that names no rule
abbrev pub is_reserved : List ℕ → Bool
is_reserved word = (is_modifier word || is_handler word) || (is_options word || is_list_word word)

-- the kind of the token directly before; the start of the text counts as an end
abbrev pub last_kind : List Word → Kind
last_kind [] = Semicolon
last_kind (w ∷ _) = w.kind

-- whether braces are open after a token of this kind, given whether they are before it
abbrev pub braces_past : Kind → Bool → Bool
braces_past LeftBrace inside = true
braces_past RightBrace inside = false
braces_past _ inside = inside

-- the last brace is a left one
abbrev pub in_braces : List Word → Bool
in_braces [] = false
in_braces (w ∷ ws) = braces_past w.kind (in_braces ws)

-- a colon begins a body and a semicolon ends it
abbrev pub body_past : Kind → Bool → Bool
body_past Colon body = true
body_past Semicolon body = false
body_past _ body = body

-- outside of braces, a `:` comes after the last `;`
abbrev pub in_body : List Word → Bool
in_body [] = false
in_body (w ∷ ws) = if in_braces ws then in_body ws else body_past w.kind (in_body ws)

-- the first of two names
abbrev pub first_of : Named → Named → Named
first_of NoName next = next
first_of first _ = first

-- what the kind says of a name
abbrev pub name_of : Kind → Named
name_of Lower = LowerName
name_of Upper = UpperName
name_of _ = NoName

-- the name of a rule that the word is, after a token of this kind
abbrev pub own_name : Kind → Kind → List ℕ → Named
own_name before kind word = if is_mark before || is_reserved word then NoName else name_of kind

-- the name of the rule: outside of braces, the first between the last `;` and the `:` after it
abbrev pub rule_name : List Word → Named
rule_name [] = NoName
rule_name (w ∷ ws) =
    if in_braces ws then rule_name ws
    else (if is_semicolon w.kind then NoName
    else (if in_body ws then rule_name ws
    else first_of (rule_name ws) (own_name (last_kind ws) w.kind w.characters)))

abbrev pub is_upper_name : Named → Bool
is_upper_name UpperName = true
is_upper_name _ = false

abbrev pub is_no_name : Named → Bool
is_no_name NoName = true
is_no_name _ = false

-- `options`, before the rule's `:` or directly after `(`
abbrev pub begins_options : Kind → Bool → List ℕ → Bool
begins_options before body word = is_options word && (not body || is_left_parenthesis before)

-- `tokens` or `channels`, outside of rules and braces
abbrev pub begins_list : Bool → Bool → Named → List ℕ → Bool
begins_list inside body name word = is_list_word word && ((not inside && not body) && is_no_name name)

-- the last token is a name after which a `{` is a brace and begins no action
abbrev pub names_braces : List Word → Bool
names_braces [] = false
names_braces (w ∷ ws) =
    (is_lower w.kind && not (is_mark (last_kind ws)))
    && (begins_options (last_kind ws) (in_body ws) w.characters || begins_list (in_braces ws) (in_body ws) (rule_name ws) w.characters)

-- a `[` after these tokens begins a set: they end in the body of a rule with an upper-case name
abbrev pub in_lexer_rule : List Word → Bool
in_lexer_rule ws = in_body ws && is_upper_name (rule_name ws)
