use Rattle.std.proofs.Common.{◌≡◌, ◌+◌, ◌++◌, drop}
use Rattle.g4_lexer_rules.specs.Starts.{numbered_starts}
use Rattle.g4_lexer_rules.proofs.starting.add_numbered.Given as goal

abbrev pub invariant-loop-first : goal.invariant-loop-first
invariant-loop-first l = record {
  counted : l.alternative ≡ l.first-index + 1;
  made : l.starts.items ++ numbered_starts l.rule l.alternative (drop l.first-index l.firsts)
      ≡ l.initial.starts.items ++ numbered_starts l.rule 1 l.firsts;
}
