-- What a hand has of one deque, by whose end it is.
use Rattle.std.specs.Prelude.{◌≡◌, true, false}
use Rattle.g4_hands.specs.declared.seat.Way.{Way}
use Rattle.g4_hands.specs.declared.seat.Way.TheVariants.{Own, Other}
use Rattle.g4_hands.specs.Reaches.{Reach}

abbrev pub way_reach : Way → Reach
way_reach (Own pile) = pile
way_reach (Other thief) = thief

abbrev pub IsWay : Way → Type 0
IsWay (Own pile) = pile.own ≡ true
IsWay (Other thief) = thief.own ≡ false
