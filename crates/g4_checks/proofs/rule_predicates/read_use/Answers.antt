use Rattle.std.proofs.Common.{subst, sym}
use Rattle.g4_source.specs.declared.kind.RuleKind.{RuleKind}
use Rattle.g4_checks.specs.Uses.{KindIsUnknownPredicate}
use Rattle.g4_checks.proofs.rule_predicates.read_use.Goals as goal

pub read_atom-requires : goal.read_atom-requires
read_atom-requires c = λ place unknown.
    c.requires place (subst (λ (k : RuleKind). KindIsUnknownPredicate k c.args.atom.now place) (sym c.in-Parser.is) unknown)
