use Rattle.std.proofs.Common.{ℕ, List, Some, sym, ap, ◌∙◌}
use Rattle.g4_source.specs.Rules.{rule_name}
use Rattle.g4_source.specs.Views.{rule_view}
use Rattle.g4_recursion.specs.Grammars.{rules_in}
use Rattle.g4_recursion.proofs.Over.{mapped_at}
use Rattle.g4_recursion.proofs.Read.{rule_at}
use Rattle.g4_recursion.proofs.grammar.Grammar.name.Goals as goal

pub returns : goal.returns
returns c =
    mapped_at rule_name (rules_in c.args.self.now) c.args.rule (rule_view c.index.result.now)
    (rule_at c.args.self.now c.args.rule c.index.result.now c.requires c.index.ensures)
    ∙ ap (λ (n : List ℕ). Some n) (sym (c.in_ok-name.ensures ∙ c.name_of.ensures))
