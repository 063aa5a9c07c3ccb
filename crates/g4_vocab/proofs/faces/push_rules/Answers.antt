use Rattle.std.proofs.Common.{◌≡◌, List, None, map, option_map, sym, ap, ◌∙◌, rules}
use Rattle.std.proofs.lemmas.List.{map-append}
use Rattle.g4_source.specs.declared.rule.LexerRule.{LexerRule}
use Rattle.g4_vocab.specs.Shown.{rule_face}
use Rattle.g4_vocab.specs.Tables.{face_of}
use Rattle.g4_vocab.proofs.Lists.{sights_more, sights_same}
use Rattle.g4_vocab.proofs.faces.push_rules.Goals as goal
use Rattle.g4_vocab.proofs.faces.push_rules.Goals.{in-Some+in_ok-push, in_default}

pub loop-rule-preserved : goal.loop-rule-preserved
loop-rule-preserved c =
    let lexers : List LexerRule = map (λ r. r.now) c.args.wholes.now.rules.items in
    elim c.match-rule_face.branch [
      | in-Some+in_ok-push w ↦
          rw w.found-is
          (sights_more (rule_face lexers c.args.types.now) (λ r. r.now) c.args.rules.now c.loop-rule.rule-index c.rule-item.result _
          (map face_of c.args.found.now.items) (map face_of c.loop-rule.found.items) _ c.loop-rule-test.true c.rule-item.is
          (sym c.rule_face.ensures ∙ ap (option_map face_of) w.in-Some.is)
          (ap (map face_of) w.in_ok-push.ensures.items ∙ map-append face_of c.loop-rule.found.items _) c.loop-rule.invariant)
      | in_default w ↦
          let none : c.rule_face.result ≡ None = search rules in
          rw w.found-is
          (sights_same (rule_face lexers c.args.types.now) (λ r. r.now) c.args.rules.now c.loop-rule.rule-index c.rule-item.result
          (map face_of c.args.found.now.items) (map face_of c.loop-rule.found.items) c.loop-rule-test.true c.rule-item.is
          (sym c.rule_face.ensures ∙ ap (option_map face_of) none) c.loop-rule.invariant)
    ]
