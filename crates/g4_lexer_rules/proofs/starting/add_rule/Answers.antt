use Rattle.std.proofs.Common.{◌*◌, List, Some, ◌++◌, sym, ◌∙◌, ap, arith}
use Rattle.std.proofs.lemmas.List.{append-nil}
use Rattle.std.proofs.lemmas.Option.{slice_get-get_or}
use Rattle.g4_ordered.specs.declared.start.Start.{Start}
use Rattle.g4_lexer_rules.specs.Starts.{decided_starts}
use Rattle.g4_lexer_rules.proofs.Starts.{several_starts, undecided}
use Rattle.g4_lexer_rules.proofs.starting.add_rule.Goals as goal

pub returns-in_default : goal.returns-in_default
returns-in_default c =
    let read = slice_get-get_or c.args.states.now (2 * c.args.rule) c.index-states-rule.result c.requires.within
    ∙ ap Some (sym c.index-states-rule.is) in
    let nothing = several_starts c.args.states.now c.args.rule c.args.alternatives.now (grind arith)
    ∙ (ap (decided_starts c.args.rule) read ∙ undecided c.args.rule c.index-states-rule.result c.in_default.not-Decision) in
    sym (ap (λ (xs : List Start). c.args.starts.now.items ++ xs) nothing ∙ append-nil c.args.starts.now.items)
