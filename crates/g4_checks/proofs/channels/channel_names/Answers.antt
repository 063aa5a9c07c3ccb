use Rattle.std.proofs.Common.{ℕ, List, [], ◌∷◌, codes, refl, subst, ◌∙◌}
use Rattle.std.specs.List.{flat_map}
use Rattle.std.proofs.lemmas.List.{take_all}
use Rattle.g4_source.specs.declared.prequel.Prequel.{Prequel}
use Rattle.g4_checks.specs.Known.{AddsAll}
use Rattle.g4_checks.specs.Names.{declared_channels}
use Rattle.g4_checks.proofs.Known.{adds_list, adds_more, adds_name}
use Rattle.g4_checks.proofs.channels.channel_names.Goals as goal

pub loop-prequel-init : goal.loop-prequel-init
loop-prequel-init c =
    adds_more [] c.add.new.self c.add-2.new.self (codes "HIDDEN" ∷ []) (codes "DEFAULT_TOKEN_CHANNEL" ∷ [])
    (codes "HIDDEN" ∷ codes "DEFAULT_TOKEN_CHANNEL" ∷ []) refl
    (subst (λ (old : List (List ℕ)). AddsAll old (codes "HIDDEN" ∷ []) c.add.new.self) c.new-names.ensures
    (adds_name c.new-names.result c.add.new.self (codes "HIDDEN") c.in_ok-add.ensures.added))
    (adds_name c.add.new.self c.add-2.new.self (codes "DEFAULT_TOKEN_CHANNEL") c.in_ok-add-2.ensures.added)

pub loop-prequel-preserved : goal.loop-prequel-preserved
loop-prequel-preserved c =
    adds_list declared_channels (codes "HIDDEN" ∷ codes "DEFAULT_TOKEN_CHANNEL" ∷ []) [] c.as_slice-prequel-items.result.now
    c.loop-prequel.prequel-index c.prequel-item.result c.loop-prequel.names c.add_declared.new.names
    c.loop-prequel-test.true c.prequel-item.is c.loop-prequel.invariant c.in_ok-add_declared.ensures

pub returns : goal.returns
returns c =
    subst (λ (prequels : List Prequel). AddsAll []
    (codes "HIDDEN" ∷ codes "DEFAULT_TOKEN_CHANNEL" ∷ flat_map declared_channels prequels) c.loop-prequel.names)
    (take_all c.loop-prequel.prequel-index c.as_slice-prequel-items.result.now c.loop-prequel-test.false
    ∙ c.as_slice-prequel-items.ensures) c.loop-prequel.invariant
