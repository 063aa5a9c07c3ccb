use Rattle.std.proofs.Common.{◌≡◌, List, ℕ, Option, get_or, length, subst, sym, ap, ◌∙◌, arith}
use Rattle.std.specs.List.{flat_map}
use Rattle.std.specs.Option.{option_map, option_or}
use Rattle.std.proofs.lemmas.List.{take_all}
use Rattle.g4_source.specs.declared.prequel.Prequel.{Prequel}
use Rattle.g4_fetch.specs.Vocabularies.{last_some, setting_vocabulary, settings_in}
use Rattle.g4_fetch.proofs.Lasts.{last_none, last_of_more, map_or}
use Rattle.g4_fetch.proofs.vocabulary.vocabulary_of.Goals as goal

pub loop-prequel-init : goal.loop-prequel-init
loop-prequel-init c = sym (last_none setting_vocabulary)

pub loop-prequel-preserved : goal.loop-prequel-preserved
loop-prequel-preserved c =
    let prequels = c.args.source.now.prequels in
    let item = c.prequel-item.result in
    let is : item ≡ get_or prequels c.loop-prequel.prequel-index item =
    subst (λ (ps : List Prequel). item ≡ get_or ps c.loop-prequel.prequel-index item) c.as_slice-prequel-items.ensures c.prequel-item.is in
    ap (option_map (λ n. n.now)) c.or-last.ensures
    ∙ (map_or (λ n. n.now) c.prequel_vocabulary.result c.loop-prequel.last
    ∙ (ap (λ (o : Option (List ℕ)). option_or o (option_map (λ n. n.now) c.loop-prequel.last)) c.prequel_vocabulary.ensures
    ∙ (ap (option_or (last_some setting_vocabulary (settings_in item))) c.loop-prequel.invariant
    ∙ sym (last_of_more setting_vocabulary settings_in prequels c.loop-prequel.prequel-index item
    (omega (arith, ap length c.as_slice-prequel-items.ensures)) is))))

pub returns : goal.returns
returns c = c.loop-prequel.invariant
    ∙ ap (λ (ps : List Prequel). last_some setting_vocabulary (flat_map settings_in ps))
    (take_all c.loop-prequel.prequel-index c.args.source.now.prequels (omega (arith, ap length c.as_slice-prequel-items.ensures)))
