use Rattle.std.proofs.Common.{◌≡◌, drop}
use Rattle.g4_base.specs.Place.{place_after}
use Rattle.g4_tags.proofs.joining.past.Given as goal

abbrev pub invariant-loop-c : goal.invariant-loop-c
invariant-loop-c l = place_after l.after (drop l.c-index l.characters) ≡ place_after l.fn.place l.characters
