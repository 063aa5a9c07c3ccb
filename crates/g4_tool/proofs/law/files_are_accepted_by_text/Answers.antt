use Rattle.g4_tool.proofs.Accepted.{by_report}
use Rattle.g4_tool.proofs.law.files_are_accepted_by_text.Goals as goal

pub returns : goal.returns
returns c = λ files words report parse is command.
    by_report files parse (λ f g united made unifies builds. (
      c.lists_are_derived_by_name.ensures.derived files parse.library parse.grammar parse.start f g united made unifies builds parse.start,
      c.lists_are_derived_by_name.ensures.untested files parse.library parse.grammar parse.start f g united made unifies builds,
    ))
    words report is command
