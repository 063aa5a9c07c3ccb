use Rattle.std.proofs.Common.{map, ap, ◌∙◌, option_map}
use Rattle.std.specs.Borrow.{Bor}
use mathlib.Core.Path.{fun_ext}
use Rattle.g4_source.specs.declared.rule.Command.{Command}
use Rattle.g4_checks.specs.References.{commands_in}
use Rattle.g4_checks.specs.Commands.{IsUnknownChannel}
use Rattle.g4_checks.specs.Names.{is_one_of, channel_names}
use Rattle.g4_source.proofs.Firsts.{found_same}
use Rattle.g4_checks.proofs.channels.first_unknown_channel.Goals as goal

pub returns : goal.returns
returns c =
    found_same IsUnknownChannel (is_one_of c.in_ok-channels.channels) (is_one_of (channel_names c.args.source.now))
    (map (λ (x : Bor Command). x.now) c.as_slice.result.now) (commands_in c.args.source.now)
    (option_map (λ n. n.now) c.first_unknown.result) c.in_ok-found.found
    (fun_ext c.in_ok-channels.ensures) (ap (map (λ (x : Bor Command). x.now)) c.as_slice.ensures.value ∙ c.requires.commands)
    c.in_ok-found.ensures c.first_unknown.ensures
