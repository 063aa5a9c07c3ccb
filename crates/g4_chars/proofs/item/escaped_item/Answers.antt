use Rattle.std.proofs.Common.{◌≡◌, ◌+◌, ◌-◌, ap, ◌∙◌, sym, take, drop, arith}
use Rattle.g4_chars.specs.declared.item.Item.TheVariants.{Named}
use Rattle.g4_chars.specs.Properties.{property_named}
use Rattle.g4_chars.specs.SetText.{escaped_item}
use Rattle.g4_chars.proofs.item.escaped_item.Goals as goal

pub returns-in_ok-property-in-Property : goal.returns-in_ok-property-in-Property
returns-in_ok-property-in-Property c =
    let n = c.in-Property.length in
    let rest = c.args.rest.now in
    let count : 2 + n - 2 ≡ n = omega arith in
    ap (Named c.in-Property.complement) (c.in_ok-property-in-Property.ensures ∙ ap (λ k. property_named (take k (drop 2 rest))) count)
    ∙ ap (λ m. escaped_item m rest) (sym c.in-Property.is)
