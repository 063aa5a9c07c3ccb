use Rattle.std.proofs.Common.{rules, ◌≡◌, ◌++◌, ◌∙◌, ap, sym, drop, length}
use Rattle.std.proofs.lemmas.List.{append-nil}
use Rattle.g4_merge.specs.Merging.{chosen}
use Rattle.g4_merge.proofs.Known.{no_length, none_chosen}
use Rattle.g4_merge.proofs.merging.chosen.Goals as goal

pub returns-in-None : goal.returns-in-None
returns-in-None g c =
    let empty : length c.loop-wanted.rest.rest.items ≡ 0 = search rules in
    sym (append-nil c.loop-wanted.found.items)
    ∙ (ap (λ ys. c.loop-wanted.found.items ++ ys) (sym (none_chosen (drop c.loop-wanted.wanted-index c.args.which.now)))
    ∙ (ap (λ xs. c.loop-wanted.found.items ++ chosen (drop c.loop-wanted.wanted-index c.args.which.now) xs)
    (sym (no_length c.loop-wanted.rest.rest.items empty))
    ∙ c.loop-wanted.invariant))
