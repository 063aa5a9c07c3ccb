-- The values of predicates where a grammar has none.
use Rattle.std.specs.Prelude.{true}
use Rattle.g4_run.specs.Running.{Values}

-- each is true
abbrev pub always : Values
always predicate rules place = true
