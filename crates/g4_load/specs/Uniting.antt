-- A grammar of several files as one: a parser grammar with its lexer grammar.
use Rattle.std.specs.Prelude.{◌≡◌, ℕ, List, [], Option, Some, None, Result, Ok, Err}
use Rattle.g4_source.specs.declared.source.GrammarKind.{GrammarKind}
use Rattle.g4_source.specs.declared.source.GrammarKind.TheVariants as kinds
use Rattle.g4_source.specs.declared.source.Source.{Source}
use Rattle.g4_token_file.specs.declared.entry.TokenEntry.{TokenEntry}
use Rattle.g4_attach.specs.Attaching.{IsAttached}
use Rattle.g4_attach.specs.declared.attaching.Attached.{Attached}
use Rattle.g4_imports.specs.declared.composite.Composite.{Composite}
use Rattle.g4_imports.specs.declared.composite.Composites.{Composites}
use Rattle.g4_load.specs.Faults.{of_attach}
use Rattle.g4_load.specs.Stages.{Gives, Then}
use Rattle.g4_load.specs.declared.fault.GrammarFault.{GrammarFault}
use Rattle.g4_load.specs.declared.whole.Origin.{Origin}
use Rattle.g4_load.specs.declared.whole.United.{United}

-- which file each rule of a grammar is from
abbrev pub origin_of : Composite → Origin
origin_of composite = record { files = composite.merged.files; names = composite.names }

abbrev pub no_origin : Origin
no_origin = record { files = []; names = [] }

-- of a lexer grammar, if there is one
abbrev pub lexer_origin : Option Composite → Origin
lexer_origin None = no_origin
lexer_origin (Some composite) = origin_of composite

abbrev pub lexer_source : Option Composite → Option Source
lexer_source None = None
lexer_source (Some composite) = Some composite.merged.source

-- a parser grammar that is attached to its lexer grammar
abbrev pub united_of : Composite → Option Composite → Attached → United
united_of parser lexer attached = record {
  whole = record { source = attached.source; own = origin_of parser; lexer = lexer_origin lexer };
  table = attached.table;
}

-- a parser grammar with its lexer grammar as one, whose types begin with those of the lexer grammar by itself; or why it has none
abbrev pub Attaches : List TokenEntry → Composite → Option Composite → Result United GrammarFault → Type 0
Attaches table parser lexer = Then (Gives (IsAttached table parser.merged.source (lexer_source lexer)) of_attach)
    (λ attached result. result ≡ Ok (united_of parser lexer attached))

-- a grammar whose types begin with these
abbrev pub united_alone : List TokenEntry → Composite → United
united_alone table grammar = record {
  whole = record { source = grammar.merged.source; own = origin_of grammar; lexer = no_origin };
  table = table;
}

-- A grammar of this kind as one.
abbrev pub Unites : List TokenEntry → Composites → GrammarKind → Result United GrammarFault → Type 0
Unites table composites kinds.Combined result = result ≡ Ok (united_alone table composites.grammar)
Unites table composites kinds.Lexer result = result ≡ Ok (united_alone table composites.grammar)
Unites table composites kinds.Parser result = Attaches table composites.grammar composites.lexer result
