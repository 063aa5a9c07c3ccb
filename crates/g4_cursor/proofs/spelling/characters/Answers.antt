use Rattle.std.proofs.Common.{◌∙◌, ap}
use Rattle.std.specs.Str.{chars}
use Rattle.g4_cursor.proofs.spelling.characters.Goals as goal

pub returns : goal.returns
returns c = c.in_ok-characters.ensures ∙ ap chars c.part.ensures
