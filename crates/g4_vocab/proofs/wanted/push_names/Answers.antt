use Rattle.std.proofs.Common.{◌≡◌, None, map, option_map, sym, ap, ◌∙◌, rules}
use Rattle.std.proofs.lemmas.List.{map-append}
use Rattle.g4_vocab.specs.Numbering.{token_name}
use Rattle.g4_vocab.specs.Tables.{reference_of, wanted_of}
use Rattle.g4_vocab.proofs.Lists.{sights_more, sights_same}
use Rattle.g4_vocab.proofs.wanted.push_names.Goals as goal
use Rattle.g4_vocab.proofs.wanted.push_names.Goals.{in-Some+in_ok-push, in_default}

pub loop-token-preserved : goal.loop-token-preserved
loop-token-preserved c = elim c.match-token_name.branch [
  | in-Some+in_ok-push w ↦
      rw w.found-is
      (sights_more token_name reference_of c.args.tokens.now c.loop-token.token-index c.token-item.result _
      (map wanted_of c.args.found.now.items) (map wanted_of c.loop-token.found.items) _ c.loop-token-test.true c.token-item.is
      (sym c.token_name.ensures ∙ ap (option_map wanted_of) w.in-Some.is)
      (ap (map wanted_of) w.in_ok-push.ensures.items ∙ map-append wanted_of c.loop-token.found.items _) c.loop-token.invariant)
  | in_default w ↦
      let none : c.token_name.result ≡ None = search rules in
      rw w.found-is
      (sights_same token_name reference_of c.args.tokens.now c.loop-token.token-index c.token-item.result
      (map wanted_of c.args.found.now.items) (map wanted_of c.loop-token.found.items) c.loop-token-test.true c.token-item.is
      (sym c.token_name.ensures ∙ ap (option_map wanted_of) none) c.loop-token.invariant)
]
