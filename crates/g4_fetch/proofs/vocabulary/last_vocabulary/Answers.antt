use Rattle.std.proofs.Common.{List, ℕ, Option, sym, ap, ◌∙◌, arith}
use Rattle.std.specs.Option.{option_map, option_or}
use Rattle.std.proofs.lemmas.List.{take_all}
use Rattle.g4_fetch.specs.Vocabularies.{last_some, setting_vocabulary}
use Rattle.g4_fetch.proofs.Lasts.{last_more, last_none, map_or}
use Rattle.g4_fetch.proofs.vocabulary.last_vocabulary.Goals as goal

pub loop-setting-init : goal.loop-setting-init
loop-setting-init c = sym (last_none setting_vocabulary)

pub loop-setting-preserved : goal.loop-setting-preserved
loop-setting-preserved c =
    ap (option_map (λ n. n.now)) c.or-last.ensures
    ∙ (map_or (λ n. n.now) c.setting_vocabulary.result c.loop-setting.last
    ∙ (ap (λ (o : Option (List ℕ)). option_or o (option_map (λ n. n.now) c.loop-setting.last)) c.setting_vocabulary.ensures
    ∙ (ap (option_or (setting_vocabulary c.setting-item.result)) c.loop-setting.invariant
    ∙ sym (last_more setting_vocabulary c.args.settings.now c.loop-setting.setting-index c.setting-item.result (omega arith)
    c.setting-item.is))))

pub returns : goal.returns
returns c = c.loop-setting.invariant
    ∙ ap (last_some setting_vocabulary) (take_all c.loop-setting.setting-index c.args.settings.now (omega arith))
