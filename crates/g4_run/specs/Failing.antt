-- Where a run ends with a failed predicate.
use Rattle.std.specs.Prelude.{◌≡◌, ℕ, List, false, Some}
use Rattle.g4_net.specs.Network.{ParserNetwork, state_at}
use Rattle.g4_net.specs.declared.network.State.TheVariants.{Predicate}
use Rattle.g4_run.specs.Running.{Run, Values, Reaches, open_rules, rule_of}

-- The run over the word comes to a state that is a predicate, and it is false there: at this place of the word, in the open rule of this
-- number.
pub record FailsAtPredicate (net : ParserNetwork) (values : Values) (word : List ℕ) (at rule : ℕ) : Type 0 where
  pub moment : Run
  pub reached : Reaches net values word moment
  pub number : ℕ
  pub target : ℕ
  pub predicate : state_at net moment.state ≡ Some (Predicate number target)
  pub is_false : values number (open_rules moment) moment.place ≡ false
  pub place : moment.place ≡ at
  pub newest : rule_of moment.frames ≡ rule
