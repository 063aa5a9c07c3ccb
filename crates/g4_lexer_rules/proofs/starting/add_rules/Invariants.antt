use Rattle.std.proofs.Common.{◌≡◌, ◌+◌, ◌++◌, drop}
use Rattle.g4_lexer_rules.specs.Starts.{AllCanStart, starts_from}
use Rattle.g4_lexer_rules.proofs.starting.add_rules.Given as goal

abbrev pub invariant-loop-rule : goal.invariant-loop-rule
invariant-loop-rule l = record {
  counted : l.next ≡ l.number + l.rule-index;
  can : AllCanStart l.states l.next (drop l.rule-index l.rules);
  made : l.starts.items ++ starts_from l.states l.next (drop l.rule-index l.rules)
      ≡ l.initial.starts.items ++ starts_from l.states l.number l.rules;
}
