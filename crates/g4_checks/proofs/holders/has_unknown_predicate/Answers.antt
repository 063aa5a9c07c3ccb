use Rattle.std.proofs.Common.{map, ap, ◌∙◌}
use Rattle.g4_source.specs.Atoms.{rule_atoms}
use Rattle.g4_source.specs.Views.{rule_view}
use Rattle.g4_checks.specs.Uses.{IsUnknownPredicate}
use Rattle.g4_checks.specs.Views.{use_view}
use Rattle.g4_checks.proofs.OneHolder.{holds_where}
use Rattle.g4_checks.proofs.holders.has_unknown_predicate.Goals as goal

pub returns : goal.returns
returns c =
    holds_where IsUnknownPredicate (map use_view c.as_slice.result.now) (rule_atoms (rule_view c.args.rule)) c.in_ok-first.first
    c.is_some.result
    c.is_some.ensures (ap (map use_view) c.as_slice.ensures.value ∙ c.in_ok-atoms.ensures) c.in_ok-first.ensures
