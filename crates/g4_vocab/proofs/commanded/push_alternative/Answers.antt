use Rattle.std.proofs.Common.{◌≡◌, None, map, option_map, sym, ap, ◌∙◌, rules}
use Rattle.std.proofs.lemmas.List.{map-append}
use Rattle.g4_vocab.specs.Numbering.{commanded_token}
use Rattle.g4_vocab.specs.Tables.{reference_of}
use Rattle.g4_vocab.proofs.Lists.{picks_more, picks_same}
use Rattle.g4_vocab.proofs.commanded.push_alternative.Goals as goal
use Rattle.g4_vocab.proofs.commanded.push_alternative.Goals.{in-Some+in_ok-push, in_default}

pub loop-command-preserved : goal.loop-command-preserved
loop-command-preserved c = elim c.match-commanded_token.branch [
  | in-Some+in_ok-push w ↦
      rw w.found-is
      (picks_more commanded_token c.as_slice-command-items.result.now c.loop-command.command-index c.command-item.result _
      (map reference_of c.args.found.now.items) (map reference_of c.loop-command.found.items) _ c.loop-command-test.true
      c.command-item.is
      (sym c.commanded_token.ensures ∙ ap (option_map reference_of) w.in-Some.is)
      (ap (map reference_of) w.in_ok-push.ensures.items ∙ map-append reference_of c.loop-command.found.items _)
      c.loop-command.invariant)
  | in_default w ↦
      let none : c.commanded_token.result ≡ None = search rules in
      rw w.found-is
      (picks_same commanded_token c.as_slice-command-items.result.now c.loop-command.command-index c.command-item.result
      (map reference_of c.args.found.now.items) (map reference_of c.loop-command.found.items) c.loop-command-test.true c.command-item.is
      (sym c.commanded_token.ensures ∙ ap (option_map reference_of) none) c.loop-command.invariant)
]
