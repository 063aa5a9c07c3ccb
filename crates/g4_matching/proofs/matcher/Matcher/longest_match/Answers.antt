use Rattle.std.proofs.Common.{List, [], slice_index_or, subst}
use Rattle.g4_ordered.specs.declared.start.Start.{Start}
use Rattle.g4_ordered.specs.Network.{LexerNetwork}
use Rattle.g4_ordered.specs.Starts.{starts_of}
use Rattle.g4_matching.specs.Matcher.{IsFound}
use Rattle.g4_matching.proofs.matcher.Matcher.longest_match.Goals as goal

pub returns-clause-found : goal.returns-clause-found
returns-clause-found c = subst (λ (v : LexerNetwork × List (List Start)).
    IsFound v.0 (starts_of (slice_index_or v.1 c.args.mode [])) c.args.text.now c.in_ok-found.found) c.self.view_is
    c.in_ok-found.ensures.found
