use Rattle.g4_syntax.specs.Notation.{element}
use Rattle.g4_productions.proofs.Listing.{kinds_tell}
use Rattle.g4_productions.proofs.parser_element.is_at_element.Goals as goal

pub returns : goal.returns
returns c = rw (
  c.is_at.ensures,
  c.is_at-2.ensures,
  c.is_at-3.ensures,
  c.is_at-4.ensures,
  c.is_at-5.ensures,
  c.is_at-6.ensures,
  c.is_at-7.ensures,
) (kinds_tell element c.args.cursor.now)
