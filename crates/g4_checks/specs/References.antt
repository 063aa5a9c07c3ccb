-- The faults of what a grammar names, in the order in which they are looked for.
use Rattle.std.specs.Prelude.{ℕ, List, map}
use Rattle.g4_source.specs.declared.atom.Atom.{Atom}
use Rattle.g4_source.specs.declared.rule.Command.{Command}
use Rattle.g4_source.specs.declared.rule.LexerRule.{LexerRule}
use Rattle.g4_source.specs.declared.rule.ParserRule.{ParserRule}
use Rattle.g4_source.specs.declared.source.Source.{Source}
use Rattle.g4_source.specs.Rules.{lexer_rules, parser_rules}
use Rattle.g4_checks.specs.declared.references.ReferenceFault.{ReferenceFault}
use Rattle.g4_checks.specs.declared.references.ReferenceFault.TheVariants.{UndefinedRule, UnknownMode, UnknownCommand, UnknownChannel, LexerPredicate, UnknownPredicate, LabelClash}
use Rattle.g4_source.specs.First.{IsFirst, IsNone}
use Rattle.g4_checks.specs.Names.{channel_names, is_one_of, mode_names}
use Rattle.g4_source.specs.Atoms.{AtomIn, all_atoms}
use Rattle.g4_checks.specs.Uses.{IsLexerPredicate, IsUndefined, IsUnknownPredicate}
use Rattle.g4_checks.specs.Commands.{IsUnknownChannel, IsUnknownCommand, IsUnknownMode, all_commands}
use Rattle.g4_checks.specs.Labels.{HasClash, clashes}

module _ (source : Source) where
  -- the rules of the grammar of both kinds in order
  abbrev pub parsers_in : List (ParserRule Atom)
  parsers_in = parser_rules source.rules

  abbrev pub lexers_in : List LexerRule
  lexers_in = lexer_rules source.rules

  -- their names
  abbrev pub parser_names : List (List ℕ)
  parser_names = map (λ rule. rule.name) parsers_in

  abbrev pub lexer_names : List (List ℕ)
  lexer_names = map (λ rule. rule.name) lexers_in

  -- the atoms of the rules in order
  abbrev pub atoms_in : List AtomIn
  atoms_in = all_atoms source.rules

  -- the commands of the rules in order
  abbrev pub commands_in : List Command
  commands_in = all_commands source.rules

  -- an atom names a rule n that the grammar has not
  abbrev pub NamesNoRule : AtomIn → List ℕ → Type 0
  NamesNoRule = IsUndefined (is_one_of parser_names) (is_one_of lexer_names)

  -- a command takes a mode n that the grammar has not
  abbrev pub TakesNoMode : Command → List ℕ → Type 0
  TakesNoMode = IsUnknownMode (is_one_of (mode_names source))

  -- a command takes a channel n that the grammar has not
  abbrev pub TakesNoChannel : Command → List ℕ → Type 0
  TakesNoChannel = IsUnknownChannel (is_one_of (channel_names source))

  -- a parser rule has a clash n
  abbrev pub LabelsClash : ParserRule Atom → List ℕ → Type 0
  LabelsClash = HasClash (clashes parsers_in)

  -- each rule that an atom names is there
  abbrev pub HasRules : Type 0
  HasRules = IsNone NamesNoRule atoms_in

  -- and each mode that a command takes
  abbrev pub HasModes : Type 0
  HasModes = HasRules × IsNone TakesNoMode commands_in

  -- and each command
  abbrev pub HasCommands : Type 0
  HasCommands = HasModes × IsNone IsUnknownCommand commands_in

  -- and each channel that a command takes
  abbrev pub HasChannels : Type 0
  HasChannels = HasCommands × IsNone TakesNoChannel commands_in

  -- and no lexer rule has a predicate
  abbrev pub HasNoLexerPredicate : Type 0
  HasNoLexerPredicate = HasChannels × IsNone IsLexerPredicate atoms_in

  -- and each predicate of a parser rule has a text that is a predicate
  abbrev pub HasPredicates : Type 0
  HasPredicates = HasNoLexerPredicate × IsNone IsUnknownPredicate atoms_in

  -- and no label clashes
  abbrev pub HasNoClash : Type 0
  HasNoClash = HasPredicates × IsNone LabelsClash parsers_in

-- this is the fault that is reported: the first of the first kind that has one
abbrev pub IsFault : Source → ReferenceFault → Type 0
IsFault source (UndefinedRule n) = IsFirst (NamesNoRule source) (atoms_in source) n
IsFault source (UnknownMode n) = HasRules source × IsFirst (TakesNoMode source) (commands_in source) n
IsFault source (UnknownCommand n) = HasModes source × IsFirst IsUnknownCommand (commands_in source) n
IsFault source (UnknownChannel n) = HasCommands source × IsFirst (TakesNoChannel source) (commands_in source) n
IsFault source (LexerPredicate place) = HasChannels source × IsFirst IsLexerPredicate (atoms_in source) place
IsFault source (UnknownPredicate place) = HasNoLexerPredicate source × IsFirst IsUnknownPredicate (atoms_in source) place
IsFault source (LabelClash n) = HasPredicates source × IsFirst (LabelsClash source) (parsers_in source) n
