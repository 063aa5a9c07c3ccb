-- What deciding comes to where the parser is.
use Rattle.std.proofs.Common.{◌≡◌, ℕ, List, Option, Some, None, Ok, Err, drop, reverse, sym, subst}
use Rattle.std.specs.Prelude.{IfSome, Result}
use Rattle.g4_decide.specs.Deciding.{IsChosen, IsDecided, IsSensitive}
use Rattle.g4_decide.specs.declared.fault.DecideFault.{DecideFault}
use Rattle.g4_decide.specs.declared.within.Decided.{Decided}
use Rattle.g4_decide.specs.declared.within.Decided.TheVariants.{Chosen, Far}
use Rattle.g4_fits.specs.Fitting.{IsLeastThatFits}
use Rattle.g4_guards.specs.Levels.{AllowedAt, IsDecision}
use Rattle.g4_net.specs.Network.{ParserNetwork}
use Rattle.g4_run.specs.Running.{Run, Values}
use Rattle.g4_parse.specs.Foresight.{IsForeseen, IsNextOf}
use Rattle.g4_parse.specs.Standing.{StandsFor}
use Rattle.g4_parse.specs.Teaching.{IsConditionAt}
use Rattle.g4_parse.specs.declared.parser.Parser.{Parser}
use Rattle.g4_parse.specs.declared.trial.Trial.{Trial}
use Rattle.g4_parse.specs.Deciding.{IsPredicted}
use Rattle.g4_parse.proofs.Foreseeing.{known_here}
use Rattle.g4_parse.proofs.Turns.{predicted_by, under_here}

-- what is said of an alternative, if there is one
pub some_then : {P Q : ℕ → Type 0} (x : Option ℕ) → ((i : ℕ) → P i → Q i) → IfSome x P → IfSome x Q
some_then None to h = tt
some_then (Some i) to h = to i h

-- the alternative that a trial has found, if it has, is the least that fits
pub known_option : (net : ParserNetwork) (values : Values) (word : List ℕ) (p : Parser) (t : Trial) (condition : ℕ) (returns : List ℕ)
    (known : Option ℕ) → returns ≡ p.returns.items → IfSome known (IsNextOf t) → IsDecision net p.state
    → ((r : Run) → StandsFor p r → IsConditionAt net values word r condition) → IsForeseen net values word p t
    → IfSome known (IsLeastThatFits net p.state (AllowedAt net p.state condition) (reverse returns) (drop p.place word))
known_option net values word p t condition returns known are next (targets, at) under foreseen =
    some_then known
    (λ i is. subst (λ (rs : List ℕ). IsLeastThatFits net p.state (AllowedAt net p.state condition) (reverse rs) (drop p.place word) i)
    (sym are) (known_here net values word p t condition i targets is at under foreseen)) next

module _ (net : ParserNetwork) (values : Values) (word : List ℕ) (p : Parser) (condition : ℕ)
    (under : (r : Run) → StandsFor p r → IsConditionAt net values word r condition) (r : Run) (h : StandsFor p r) where
  -- what is chosen under the condition is what prediction says
  pub chosen_predicts : (x : Result ℕ DecideFault)
      → IsChosen net p.state condition (reverse p.returns.items) (drop p.place word) p.place x → IsPredicted net values word r x
  chosen_predicts x said =
      predicted_by net values word r p (AllowedAt net p.state condition) x
      (under_here net values word r p condition h (under r h)).1 h said

  -- so it is with what deciding comes to
  pub decided_predicts : (returns : List ℕ) (d : Decided) (i : ℕ) → returns ≡ p.returns.items → d ≡ Chosen i
      → IsDecided net p.state condition (reverse returns) (drop p.place word) p.place (Ok d) → IsPredicted net values word r (Ok i)
  decided_predicts returns d i are is said =
      chosen_predicts (Ok i)
      (subst (λ (rs : List ℕ). IsChosen net p.state condition (reverse rs) (drop p.place word) p.place (Ok i)) are
      (subst (λ (x : Decided). IsDecided net p.state condition (reverse returns) (drop p.place word) p.place (Ok x)) is said))

  pub fault_predicts : (returns : List ℕ) (fault : DecideFault) → returns ≡ p.returns.items
      → IsDecided net p.state condition (reverse returns) (drop p.place word) p.place (Err fault)
      → IsPredicted net values word r (Err fault)
  fault_predicts returns fault are said =
      chosen_predicts (Err fault)
      (subst (λ (rs : List ℕ). IsChosen net p.state condition (reverse rs) (drop p.place word) p.place (Err fault)) are said)

-- where it is far, the stack matters
pub far_matters : (net : ParserNetwork) (d condition from : ℕ) (returns w : List ℕ) (x : Decided) → x ≡ Far
    → IsDecided net d condition returns w from (Ok x) → IsSensitive net d condition w
far_matters net d condition from returns w x is said = subst (λ (y : Decided). IsDecided net d condition returns w from (Ok y)) is said
