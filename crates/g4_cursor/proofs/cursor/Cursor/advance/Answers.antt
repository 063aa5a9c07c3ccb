use Rattle.g4_cursor.proofs.Tokens.{first_part, other_parts}
use Rattle.g4_cursor.proofs.cursor.Cursor.advance.Goals as goal

pub part-requires : goal.part-requires
part-requires c = record { part = first_part c.in-Some.token.now _ c.in-Some.ensures.cases.0 c.self.invariant }

pub invariant_of-self : goal.invariant_of-self
invariant_of-self c = other_parts c.in-Some.token.now c.in-Some.rest.now c.in-Some.ensures.cases.0 c.self.invariant
