use Rattle.std.proofs.Common.{◌<◌, ℕ, List, map, sym, ap, ◌∙◌}
use Rattle.std.proofs.lemmas.List.Elements.{All-same}
use Rattle.g4_classes.specs.Indices.{class_in, symbol_at}
use Rattle.g4_classes.proofs.Dividing.{least_within}
use Rattle.g4_classes.proofs.Naming.{are_classes}
use Rattle.g4_classes.proofs.classes.classes_of.Goals as goal

pub named-requires-clause-within : goal.named-requires-clause-within
named-requires-clause-within c =
    let p = c.in_ok-partition.partition in
    All-same (λ x. x < 4098) c.as_slice.result.now c.in_ok-least.least.items c.as_slice.ensures.value
    (least_within p.blocks.items c.in_ok-least.least.items 4098 (sym p.count) c.in_ok-least.ensures)

pub returns : goal.returns
returns c =
    let p = c.in_ok-partition.partition in
    let least = c.in_ok-least.least.items in
    are_classes c.args.net.now p.blocks.items least p.count c.in_ok-partition.ensures c.in_ok-least.ensures
    (class_in c.in_ok-classes.classes)
    (λ a. ap (λ (xs : List ℕ). class_in xs a) (c.in_ok-classes.ensures ∙ ap (map symbol_at) c.as_slice.ensures.value))
