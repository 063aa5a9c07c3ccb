use Rattle.std.proofs.Common.{◌<◌, ◌-◌, length, List}
use Rattle.g4_ordered.specs.Configurations.{LexerConfig}
use Rattle.g4_matching.specs.Automaton.{Has, IsSound, starts_in}
use Rattle.g4_matching.proofs.Matched.{SoFar}
use Rattle.g4_matching.proofs.automaton.Automaton.longest_match.Given as goal

abbrev pub invariant-loop-at : goal.invariant-loop-at
invariant-loop-at l = record {
  within : l.at < length l.text;
  sound : IsSound l.modes l.self;
  listed : (list : List LexerConfig) × Has l.self l.list list
      × SoFar l.modes.net.now (starts_in l.modes.starts.now l.mode) l.text l.at list l.best;
}

abbrev pub decreases-loop-at : goal.decreases-loop-at
decreases-loop-at l = length l.text - l.at
