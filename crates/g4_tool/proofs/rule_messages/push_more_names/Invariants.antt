use Rattle.std.proofs.Common.{◌≡◌, ◌++◌, drop}
use Rattle.g4_tool.specs.Texts.{more_names}
use Rattle.g4_tool.proofs.rule_messages.push_more_names.Given as goal

abbrev pub invariant-loop-name : goal.invariant-loop-name
invariant-loop-name l = l.out.items ++ more_names (drop l.name-index l.names) ≡ l.initial.out.items ++ more_names l.names
