use Rattle.std.proofs.Common.{ap, ◌∙◌}
use Rattle.g4_checks.specs.Predicates.{text_of_predicate}
use Rattle.g4_checks.proofs.Missing.{no_tree}
use Rattle.g4_checks.proofs.readings.predicate_of.Goals as goal

pub returns-in-Err-Unknown : goal.returns-in-Err-Unknown
returns-in-Err-Unknown c =
    no_tree c.args.written.now c.text_of.result.now c.args.written.now.place c.in-Err-Unknown.field-0-0 c.in-Err-Unknown.field-0
    (c.text_of.ensures ∙ ap text_of_predicate c.as_str.ensures) c.in-Err-Unknown.field-0-is c.in-Err-Unknown.ensures
