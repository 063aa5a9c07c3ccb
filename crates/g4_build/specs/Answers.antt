-- What building a network answers.
use Rattle.std.specs.Prelude.{◌≡◌, ◌<◌, ℕ, List, [], ◌∷◌, map, true, false, Result, Ok, Err}
use Rattle.g4_tokens.specs.Symbols.{eof}
use Rattle.g4_source.specs.Rules.{alternatives_of}
use Rattle.g4_grammar.specs.declared.step.Numbering.{Numbering}
use Rattle.g4_grammar.specs.StepRules.{StepRule}
use Rattle.g4_net.specs.Network.{ParserNetwork}
use Rattle.g4_layout.specs.Built.{IsBuilt}
use Rattle.g4_layout.specs.Decisions.{AreNarrow, IsTooWide}
use Rattle.g4_layout.specs.Rules.{has_parser_rule, state_count}
use Rattle.g4_build.specs.declared.builder.BuildFault.{BuildFault}
use Rattle.g4_build.specs.declared.builder.BuildFault.TheVariants.{UnknownStart, Alternatives, States, NoMemory}
use Rattle.g4_net.specs.declared.network.TheConstants.{MOST_STATES}

-- the causes of the faults of building
abbrev pub CausesBuildFault : List StepRule → List ℕ → BuildFault → Type 0
CausesBuildFault rules start UnknownStart = has_parser_rule rules start ≡ false
CausesBuildFault rules start Alternatives = (has_parser_rule rules start ≡ true) × IsTooWide (map alternatives_of rules)
CausesBuildFault rules start States = (has_parser_rule rules start ≡ true) × AreNarrow (map alternatives_of rules)
    × (MOST_STATES < state_count rules)
CausesBuildFault rules start NoMemory = Unit {0}

-- building gives the network that the rules have with their numberings, whose added rule takes EOF, or a fault with its cause
abbrev pub GivesNetwork : List StepRule → List Numbering → List ℕ → Result ParserNetwork BuildFault → Type 0
GivesNetwork rules numberings start (Ok net) = IsBuilt (eof ∷ []) rules numberings start net
GivesNetwork rules numberings start (Err fault) = CausesBuildFault rules start fault
