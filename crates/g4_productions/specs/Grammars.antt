-- The grammar that a tree is: `read_grammar` rests on `IsGrammarText`, and on what `Rules`, `ParserElements`, `LexerElements` and
-- `Elements` beside it say of parts of the tree.
use Rattle.std.specs.Prelude.{◌≡◌, ℕ, List, [], ◌++◌, map, Result, Ok, Err}
use Rattle.std.specs.List.{flat_map}
use Rattle.g4_base.specs.declared.place.Place.{Place}
use Rattle.g4_source.specs.declared.prequel.Prequel.{Prequel}
use Rattle.g4_source.specs.declared.source.Source.{Source}
use Rattle.g4_source.specs.declared.source.GrammarKind.TheVariants as grammar_kinds
use Rattle.g4_grammar_tokens.specs.declared.token.Token.{Token}
use Rattle.g4_syntax.specs.Notation.{Spelled}
use Rattle.g4_syntax.specs.Productions.{heading, combined_grammar, lexer_grammar, parser_grammar, grammar}
use Rattle.g4_syntax.specs.Trees.{Tree, both, left, right, HasTree, TextStops}
use Rattle.g4_cursor.specs.Prequels.{prequels_of}
use Rattle.g4_cursor.specs.Sets.{HasNoBad, HasFirstBad}
use Rattle.g4_cursor.specs.Texts.{from, spelled, place_of, token_of, text_of}
use Rattle.g4_productions.specs.Nesting.{NoneTooDeep, NoneTooDeepBefore, IsNested}
use Rattle.g4_productions.specs.declared.reader.Stop.{Stop}
use Rattle.g4_productions.specs.declared.reader.Stop.TheVariants as stops
use Rattle.g4_productions.specs.Rules.{combined_rules, default_rules, parser_rules, section_rules, sections_of}

-- the name of a grammar text
abbrev pub heading_name : Tree heading → List ℕ
heading_name (both n (both semicolon ps)) = text_of n

-- the prequels of a grammar text
abbrev pub heading_prequels : Tree heading → List Prequel
heading_prequels (both n (both semicolon ps)) = prequels_of ps

-- a combined grammar
abbrev pub combined_of : Tree combined_grammar → Source
combined_of (both keyword (both h rs)) =
    record {
      place = (token_of keyword).place;
      kind = grammar_kinds.Combined;
      name = heading_name h;
      prequels = heading_prequels h;
      rules = combined_rules rs;
      modes = [];
    }

-- a lexer grammar: its rules in order of the text, those after `mode` with the name after it
abbrev pub lexer_grammar_of : Tree lexer_grammar → Source
lexer_grammar_of (both keyword (both other (both h (both rs ms)))) =
    record {
      place = (token_of keyword).place;
      kind = grammar_kinds.Lexer;
      name = heading_name h;
      prequels = heading_prequels h;
      rules = default_rules rs ++ flat_map section_rules (sections_of ms);
      modes = map (λ section. section.name) (sections_of ms);
    }

-- a parser grammar
abbrev pub parser_grammar_of : Tree parser_grammar → Source
parser_grammar_of (both keyword (both other (both h rs))) =
    record {
      place = (token_of keyword).place;
      kind = grammar_kinds.Parser;
      name = heading_name h;
      prequels = heading_prequels h;
      rules = parser_rules rs;
      modes = [];
    }

-- a grammar
abbrev pub source_of : Tree grammar → Source
source_of (left x) = combined_of x
source_of (right (left x)) = lexer_grammar_of x
source_of (right (right x)) = parser_grammar_of x

-- the tokens are a grammar text, which is this grammar
abbrev pub IsGrammarText : List Spelled → Source → Type 0
IsGrammarText tokens source = (tree : Tree grammar) × HasTree tokens tree × (source ≡ source_of tree)

-- the first bad set to which reading a grammar text comes begins at this place, and no bracket opens too deep before it
abbrev pub HasBadSetAt : List Spelled → Place → Type 0
HasBadSetAt tokens place = (rest : List Spelled) × HasFirstBad grammar tokens rest × NoneTooDeepBefore tokens rest
    × (place ≡ place_of rest)

-- the call gives the grammar that the tokens are, in which no set is bad and no bracket opens too deep; or the index of those
-- where reading stops, the place of the first bad set, or that a bracket opens too deep, whichever comes first; unless memory
-- runs out
abbrev pub ReadsText : List ℕ → List Token → Result Source Stop → Type 0
ReadsText text tokens (Ok source) = IsGrammarText (spelled text tokens) source × HasNoBad grammar (spelled text tokens)
    × NoneTooDeep (spelled text tokens)
ReadsText text tokens (Err (stops.At index)) = TextStops (spelled text tokens) (from text tokens index)
    × HasNoBad grammar (spelled text tokens) × NoneTooDeepBefore (spelled text tokens) (from text tokens index)
ReadsText text tokens (Err (stops.BadSet place)) = HasBadSetAt (spelled text tokens) place
ReadsText text tokens (Err stops.Nesting) = IsNested (spelled text tokens)
ReadsText text tokens (Err stops.NoMemory) = Unit {0}
