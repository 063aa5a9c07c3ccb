use Rattle.g4_tool.specs.Ends.{no_command}
use Rattle.g4_tool.proofs.report.run_words.Goals as goal

pub returns-in-Err-Usage-clause-content : goal.returns-in-Err-Usage-clause-content
returns-in-Err-Usage-clause-content g c = λ files told. no_command (rw c.in-Err-Usage.field-0-is at c.in-Err-Usage.ensures)

pub returns-in-Ok-Check-clause-content : goal.returns-in-Ok-Check-clause-content
returns-in-Ok-Check-clause-content g c = λ files told.
    c.run_check.ensures.content files _ told (rw c.in-Ok-Check.field-0-is at c.in-Ok-Check.ensures)

pub returns-in-Ok-Parse-clause-content : goal.returns-in-Ok-Parse-clause-content
returns-in-Ok-Parse-clause-content g c = λ files told.
    c.run_parse.ensures.content files _ told (rw c.in-Ok-Parse.field-0-is at c.in-Ok-Parse.ensures)
