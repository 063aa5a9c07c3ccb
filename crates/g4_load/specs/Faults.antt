-- The faults of a grammar, from those of the stages.
use Rattle.std.specs.Prelude.{ℕ, List}
use Rattle.g4_attach.specs.declared.fault.AttachFault.{AttachFault}
use Rattle.g4_attach.specs.declared.fault.AttachFault.TheVariants as attaching
use Rattle.g4_vocab.specs.declared.fault.NumberFault.{NumberFault}
use Rattle.g4_vocab.specs.declared.fault.NumberFault.TheVariants as numbering
use Rattle.g4_checks.specs.declared.fault.CheckFault.{CheckFault}
use Rattle.g4_source.specs.declared.refused.Refused.{Refused}
use Rattle.g4_source.specs.declared.refused.Refused.TheVariants as refusals
use Rattle.g4_build.specs.declared.builder.BuildFault.{BuildFault}
use Rattle.g4_build.specs.declared.builder.BuildFault.TheVariants as building
use Rattle.g4_lexer_rules.specs.declared.lex_net.LexFault.{LexFault}
use Rattle.g4_lexer_rules.specs.declared.lex_net.LexFault.TheVariants as lexing
use Rattle.g4_load.specs.declared.fault.GrammarFault.TheVariants as faults
use Rattle.g4_load.specs.declared.fault.CheckError.{CheckError}
use Rattle.g4_load.specs.declared.fault.CheckError.TheVariants as errors

-- of a parser grammar that is not attached to its lexer grammar
abbrev pub of_attach : AttachFault → CheckError
of_attach (attaching.NotALexer name) = errors.Fault (faults.NotALexer name)
of_attach (attaching.LiteralWithoutToken literal) = errors.Fault (faults.LiteralWithoutToken literal)
of_attach attaching.Rules = errors.Fault faults.Rules
of_attach attaching.Types = errors.Fault faults.Types
of_attach attaching.NoMemory = errors.NoMemory

-- of a grammar that is not numbered
abbrev pub of_number : NumberFault → CheckError
of_number numbering.Rules = errors.Fault faults.Rules
of_number numbering.Types = errors.Fault faults.Types
of_number numbering.NoMemory = errors.NoMemory

-- of a grammar that cannot be run
abbrev pub of_check : Refused CheckFault → CheckError
of_check (refusals.Fault fault) = errors.Fault (faults.Check fault)
of_check refusals.NoMemory = errors.NoMemory

-- of a numbered grammar without a network from this start rule
abbrev pub of_build : List ℕ → BuildFault → CheckError
of_build start building.UnknownStart = errors.Fault (faults.UnknownStart start)
of_build start building.Alternatives = errors.Fault faults.Alternatives
of_build start building.States = errors.Fault faults.States
of_build start building.NoMemory = errors.NoMemory

-- of a lexer without a network
abbrev pub of_lexer : LexFault → CheckError
of_lexer lexing.States = errors.Fault faults.States
of_lexer lexing.NoMemory = errors.NoMemory
