-- Where matches may begin.
use Rattle.std.specs.Prelude.{List, map}
use Rattle.g4_ordered.specs.declared.start.Start.{Start}
use Rattle.g4_ordered.specs.Configurations.{LexerConfig, start}

-- the configurations with which a match begins at these starts
abbrev pub starts_of : List Start → List LexerConfig
starts_of starts = map (λ s. start s.rule s.alternative s.state) starts
