use Rattle.std.proofs.Common.{ℕ, List, ap, ◌∙◌, arith}
use Rattle.std.proofs.lemmas.List.{take_all, length-map}
use Rattle.g4_names.specs.Places.{first_place}
use Rattle.g4_names.proofs.Firsts.{one_more}
use Rattle.g4_lexer_rules.specs.NetworkRules.{names_of}
use Rattle.g4_lexer_rules.proofs.Lists.{name_at}
use Rattle.g4_lexer_rules.proofs.lowering.places_of.Goals as goal

pub loop-place-init : goal.loop-place-init
loop-place-init c = c.new-places.ensures

pub loop-place-preserved : goal.loop-place-preserved
loop-place-preserved c =
    let many = length-map c.args.rules.now (λ rule. rule.name) in
    one_more (names_of c.args.rules.now) c.loop-place.place c.index-rules-place.result.name c.as_str.result.now c.loop-place.places
    c.add.new.self (omega (arith, many, c.loop-place-test.true))
    (name_at c.args.rules.now c.loop-place.place c.index-rules-place.result c.loop-place-test.true c.index-rules-place.is)
    c.as_str.ensures c.loop-place.invariant c.in_ok-add.ensures.added

pub returns : goal.returns
returns c =
    let many = length-map c.args.rules.now (λ rule. rule.name) in
    λ name. c.loop-place.invariant name ∙ ap (λ (names : List (List ℕ)). first_place names name)
    (take_all c.loop-place.place (names_of c.args.rules.now) (omega (arith, many, c.loop-place-test.false)))
