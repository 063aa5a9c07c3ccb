-- The network of a lexer, and what building it answers.
use Rattle.std.specs.Prelude.{◌≡◌, ◌≤◌, ◌<◌, ℕ, List, Result, Ok, Err}
use Rattle.g4_source.specs.declared.rule.LexerRule.{LexerRule}
use Rattle.g4_net.specs.declared.network.TheConstants.{MOST_STATES}
use Rattle.g4_layout.specs.Numbered.{IsNumberedNetworkOf}
use Rattle.g4_lexer_rules.specs.declared.lex_net.LexFault.{LexFault}
use Rattle.g4_lexer_rules.specs.declared.lex_net.LexFault.TheVariants.{States, NoMemory}
use Rattle.g4_lexer_rules.specs.declared.lex_net.LexNet.{LexNet}
use Rattle.g4_lexer_rules.specs.NetworkRules.{all_rules, trees_of, numberings_of, commands_of, lexer_states}
use Rattle.g4_lexer_rules.specs.Starts.{mode_starts}

-- The network of the rules of literals and of lexer rules in modes of these names: it is small enough, it has their states and no
-- others, and says where a match may begin in each mode and which commands each alternative has.
pub record IsLexNet (literals rules : List LexerRule) (modes : List (List ℕ)) (made : LexNet) : Type 0 where
  pub fits : lexer_states (all_rules literals rules) ≤ MOST_STATES
  pub network : IsNumberedNetworkOf (trees_of (all_rules literals rules)) (numberings_of (all_rules literals rules)) made.net
  pub starts : made.modes ≡ mode_starts made.net.states literals rules modes
  pub commands : made.commands ≡ commands_of (all_rules literals rules)

-- building gives that network, or says that it would have too many states
abbrev pub GivesLexNet : List LexerRule → List LexerRule → List (List ℕ) → Result LexNet LexFault → Type 0
GivesLexNet literals rules modes (Ok made) = IsLexNet literals rules modes made
GivesLexNet literals rules modes (Err States) = MOST_STATES < lexer_states (all_rules literals rules)
GivesLexNet literals rules modes (Err NoMemory) = Unit {0}
