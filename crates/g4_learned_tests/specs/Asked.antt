-- Questions of decisions, as the tests ask them.
use Rattle.std.specs.Prelude.{◌<◌, ◌^◌, List, All, length}
use Rattle.g4_classes.specs.Classes.{IsSymbol}
use Rattle.g4_net.specs.Network.{ParserNetwork}
use Rattle.g4_net.specs.Prediction.{Sll, Verdict}
use Rattle.g4_predict.specs.declared.path.Path.{Path}
use Rattle.g4_predict.specs.Paths.{path_of}
use Rattle.g4_tokens.specs.declared.token.Token.{Token}
use Rattle.g4_tokens.specs.TokenList.{EndsInEnd, word_of}
use Rattle.g4_guards.specs.Levels.{AllowedAt, IsCondition, IsDecision}

-- The path is that of its decision on these tokens, under condition 0.
pub record IsAsked (net : ParserNetwork) (tokens : List Token) (path : Path) : Type 0 where
  pub decision : IsDecision net path.decision
  pub condition : IsCondition net path.decision 0
  pub sll : (v : Verdict) × Sll net path.decision (AllowedAt net path.decision 0) (word_of tokens) v (path_of path)
  pub symbols : All IsSymbol (word_of tokens)
  pub ends : EndsInEnd (word_of tokens)
  pub some : 0 < length tokens
  pub few : length tokens < 2 ^ 32
