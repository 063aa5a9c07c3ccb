-- What a scanner keeps of the earlier tokens.
use Rattle.std.specs.Prelude.{ℕ, Bool, List, ◌&&◌, ◌||◌, not, if◌then◌else◌}
use Rattle.g4_grammar_tokens.specs.declared.token.Kind.{Kind}
use Rattle.g4_grammar_tokens.specs.declared.statement.Named.{Named}
use Rattle.g4_grammar_tokens.specs.declared.statement.Named.TheVariants.{NoName}
use Rattle.g4_grammar_tokens.specs.declared.statement.Statement.{Statement}
use Rattle.g4_grammar_tokens.specs.Statements.{Word, in_braces, in_body, rule_name, last_kind, names_braces, braces_past, body_past, first_of, own_name, is_semicolon, is_lower, is_mark, is_upper_name, begins_options, begins_list}

-- all of it
abbrev pub statement_of : List Word → Statement
statement_of ws = record {
  named = rule_name ws;
  in_body = in_body ws;
  in_braces = in_braces ws;
  last = last_kind ws;
  names_braces = names_braces ws;
}

-- the name of the rule after one more token
abbrev pub named_past : Statement → Kind → List ℕ → Named
named_past s kind word =
    if s.in_braces then s.named
    else (if is_semicolon kind then NoName
    else (if s.in_body then s.named
    else first_of s.named (own_name s.last kind word)))

-- whether the token is a name after which a `{` is a brace
abbrev pub braces_named : Statement → Kind → List ℕ → Bool
braces_named s kind word =
    (is_lower kind && not (is_mark s.last)) && (begins_options s.last s.in_body word || begins_list s.in_braces s.in_body s.named word)

-- whether a body is open after one more token
abbrev pub body_open : Statement → Kind → Bool
body_open s kind = if s.in_braces then s.in_body else body_past kind s.in_body

-- the statement after one more token
abbrev pub statement_past : Statement → Kind → List ℕ → Statement
statement_past s kind word = record {
  named = named_past s kind word;
  in_body = body_open s kind;
  in_braces = braces_past kind s.in_braces;
  last = kind;
  names_braces = braces_named s kind word;
}

-- brackets hold a set
abbrev pub holds_sets : Statement → Bool
holds_sets s = s.in_body && is_upper_name s.named
