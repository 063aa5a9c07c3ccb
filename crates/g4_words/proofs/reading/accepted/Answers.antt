use Rattle.std.proofs.Common.{rules, map, string_bytes}
use Rattle.clap.specs.Words.{app_of}
use Rattle.g4_words.proofs.Refused.{refused}
use Rattle.g4_words.proofs.Taken.{no_fault, same_subcommand}
use Rattle.g4_words.proofs.reading.accepted.Goals as goal

pub returns : goal.returns
returns c =
    refused (app_of c.in_ok-command.command) (map string_bytes c.args.words.now) c.in-Err.error c.in_ok-command.ensures
    c.in-Err.ensures.kinds (search rules)

pub returns-in-Ok : goal.returns-in-Ok
returns-in-Ok c =
    let app = app_of c.in_ok-command.command in
    let words = map string_bytes c.args.words.now in (
      no_fault app words c.in_ok-command.ensures c.in-Ok.ensures.kinds,
      same_subcommand app words c.in-Ok.matches c.in_ok-command.ensures c.in-Ok.ensures.matches,
    )
