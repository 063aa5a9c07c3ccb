use Rattle.std.proofs.Common.{◌↔◌, ◌-◌}
use Rattle.g4_lookahead.specs.Ways.{EndsAtOnce, EndsWithin}
use Rattle.g4_lookahead.proofs.ways.ends_at_once.Given as goal

abbrev pub invariant-loop : goal.invariant-loop
invariant-loop l = record {
  ends : EndsAtOnce l.net l.at → EndsAtOnce l.net l.state;
  exact : EndsWithin l.net (64 - l.counter) l.at ↔ EndsWithin l.net 64 l.state;
}
