use Rattle.std.proofs.Common.{◌≡◌, ◌+◌, drop}
use Rattle.g4_lexer_rules.specs.Starts.{AllCanStart, with_rules}
use Rattle.g4_lexer_rules.proofs.starting.add_by_modes.Given as goal

abbrev pub invariant-loop-rule : goal.invariant-loop-rule
invariant-loop-rule l = record {
  counted : l.next ≡ l.number + l.rule-index;
  can : AllCanStart l.states l.next (drop l.rule-index l.rules);
  made : with_rules l.states l.modes.names.now l.next (drop l.rule-index l.rules) l.all.items
      ≡ with_rules l.states l.modes.names.now l.number l.rules l.initial.all.items;
}
