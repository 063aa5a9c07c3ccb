use Rattle.std.proofs.Common.{Vec, Global, sym, ap, ◌∙◌}
use Rattle.g4_lexer.specs.declared.command.LexerCommand.{LexerCommand}
use Rattle.g4_source.proofs.Lists.{picks_more, picks_same}
use Rattle.g4_lexer_rules.specs.Commands.{command_of}
use Rattle.g4_lexer_rules.proofs.making.commands_of.Goals as goal
use Rattle.g4_lexer_rules.proofs.making.commands_of.Goals.{in-Some+in_ok-push, in_default}

pub loop-command-preserved : goal.loop-command-preserved
loop-command-preserved c =
    let does = command_of c.args.numbers.now.tables.now in
    let old = c.loop-command.made.items in
    let new = c.match-command_of.made.items in
    elim c.match-command_of.branch [
      | in-Some+in_ok-push w ↦ picks_more does c.args.commands.now c.loop-command.command-index c.command-item.result old
          c.loop-command-test.true c.command-item.is c.loop-command.invariant w.in-Some.done new
          (sym c.command_of.ensures ∙ w.in-Some.is) (ap (λ (v : Vec LexerCommand Global). v.items) w.made-is ∙ w.in_ok-push.ensures.items)
      | in_default w ↦ ap (λ (v : Vec LexerCommand Global). v.items) w.made-is
          ∙ picks_same does c.args.commands.now c.loop-command.command-index c.command-item.result old c.loop-command-test.true
          c.command-item.is c.loop-command.invariant
          (sym c.command_of.ensures ∙ w.in_default.is)
    ]
