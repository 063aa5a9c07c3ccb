use Rattle.std.proofs.Common.{ℕ, List, sym, subst}
use Rattle.std.specs.Borrow.{Bor}
use Rattle.g4_source.specs.declared.rule.Command.{Command}
use Rattle.g4_checks.specs.Commands.{ArgumentIsUnknownChannel, IsUnknownChannel}
use Rattle.g4_checks.specs.Names.{is_one_of}
use Rattle.g4_source.proofs.Firsts.{one_passed, one_reported, all_passed}
use Rattle.g4_checks.proofs.channels.first_unknown.Goals as goal

pub returns-in-Some : goal.returns-in-Some
returns-in-Some c =
    one_reported (IsUnknownChannel (is_one_of c.args.channels.now)) (λ (x : Bor Command). x.now) c.args.commands.now
    c.loop-command.command-index c.command-item.result c.in-Some.channel.now c.loop-command-test.true c.command-item.is
    (subst (λ (name : List ℕ). ArgumentIsUnknownChannel (is_one_of c.args.channels.now) name c.command-item.result.now.argument
    c.in-Some.channel.now) c.as_str-name.ensures c.in-Some.ensures) c.loop-command.invariant

pub loop-command-preserved : goal.loop-command-preserved
loop-command-preserved c =
    one_passed (IsUnknownChannel (is_one_of c.args.channels.now)) (λ (x : Bor Command). x.now) c.args.commands.now
    c.loop-command.command-index c.command-item.result c.loop-command-test.true c.command-item.is
    (λ n told. c.in_default.ensures n (subst (λ (name : List ℕ).
    ArgumentIsUnknownChannel (is_one_of c.args.channels.now) name c.command-item.result.now.argument n)
    (sym c.as_str-name.ensures) told)) c.loop-command.invariant

pub returns : goal.returns
returns c =
    all_passed (IsUnknownChannel (is_one_of c.args.channels.now)) (λ (x : Bor Command). x.now) c.args.commands.now
    c.loop-command.command-index c.loop-command-test.false c.loop-command.invariant
