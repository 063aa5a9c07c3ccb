use Rattle.std.proofs.Common.{◌≡◌, ◌++◌, replicate}
use Rattle.g4_tags.proofs.joining.push_places.Given as goal

abbrev pub invariant-loop : goal.invariant-loop
invariant-loop l = l.places.items ≡ l.initial.places.items ++ replicate l.counter l.place
