use Rattle.std.proofs.Common.{ℕ, List, sym, ap, ◌∙◌}
use Rattle.std.specs.Borrow.{Bor}
use Rattle.g4_source.specs.declared.rule.Command.{Command}
use Rattle.g4_checks.specs.Commands.{IsUnknownCommand, is_command}
use Rattle.std.proofs.lemmas.Bool.{both_ways}
use Rattle.g4_source.proofs.Firsts.{one_passed, one_reported, all_passed}
use Rattle.g4_checks.proofs.commands.first_unknown.Goals as goal

pub returns-then-not-is_command : goal.returns-then-not-is_command
returns-then-not-is_command c =
    let argument = c.command-item.result.now.argument in
    one_reported IsUnknownCommand (λ (x : Bor Command). x.now) c.args.commands.now c.loop-command.command-index c.command-item.result
    c.as_str-name.result.now c.loop-command-test.true c.command-item.is (
      c.as_str-name.ensures,
      ap (λ (name : List ℕ). is_command name argument) (sym c.as_str-name.ensures)
          ∙ (sym c.is_command.ensures ∙ c.if-not-is_command.true),
    ) c.loop-command.invariant

pub loop-command-preserved : goal.loop-command-preserved
loop-command-preserved c =
    let argument = c.command-item.result.now.argument in
    one_passed IsUnknownCommand (λ (x : Bor Command). x.now) c.args.commands.now c.loop-command.command-index c.command-item.result
    c.loop-command-test.true c.command-item.is
    (λ n told. both_ways (is_command c.command-item.result.now.name.text argument) told.1
    (ap (λ (name : List ℕ). is_command name argument) (sym c.as_str-name.ensures)
    ∙ (sym c.is_command.ensures ∙ c.if-not-is_command.false))) c.loop-command.invariant

pub returns : goal.returns
returns c =
    all_passed IsUnknownCommand (λ (x : Bor Command). x.now) c.args.commands.now c.loop-command.command-index
    c.loop-command-test.false c.loop-command.invariant
