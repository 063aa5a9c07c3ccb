use Rattle.g4_checks.proofs.ParserPredicates.{atom_read}
use Rattle.g4_checks.proofs.rule_predicates.read_atom.Goals as goal

pub returns-in_ok-predicate-in-Predicate : goal.returns-in_ok-predicate-in-Predicate
returns-in_ok-predicate-in-Predicate c =
    atom_read c.args.atom.now c.in-Predicate.written c.in_ok-predicate-in-Predicate.predicate c.in-Predicate.is c.requires
    c.in_ok-predicate-in-Predicate.ensures
