use Rattle.g4_outcome.specs.Grammars.{with_net}
use Rattle.g4_pool.specs.Files.{Files, files_of}
use Rattle.std.proofs.Common.{refl}
use Rattle.g4_tool.proofs.files.parse_opened.Goals as goal

pub learned_of-requires : goal.learned_of-requires
learned_of-requires g c = record { whole = λ complete. (c.in_ok-finished.ensures.learned complete).whole }

pub returns-clause-parsed : goal.returns-clause-parsed
returns-clause-parsed g c =
    c.in_ok-parsed.ensures (files_of c.args.output (with_net c.args.grammar.now g.B.Home.plan.net.net) c.args.names.now
    c.args.inputs.items) c.requires.paired c.in_ok-finished.ensures.reports

pub returns-clause-told : goal.returns-clause-told
returns-clause-told g c =
    c.in_ok-learned.ensures (files_of c.args.output (with_net c.args.grammar.now g.B.Home.plan.net.net) c.args.names.now
    c.args.inputs.items) refl c.in_ok-finished.ensures.learned
