use Rattle.std.proofs.Common.{rules, ◌≡◌, [], List, length, sym, ◌∙◌, ap}
use Rattle.g4_trees.specs.Kept.{entries_from}
use Rattle.g4_trees.specs.Unwinding.{known}
use Rattle.g4_trees.specs.declared.builder.Wrap.{Wrap}
use Rattle.g4_trees.proofs.Unwound.{grown_items, no_wraps}
use Rattle.g4_trees.proofs.Steps.{all_grown, none_of}
use Rattle.g4_trees.proofs.builder.TreeBuilder.finish.Goals as goal

pub returns-then-is_empty : goal.returns-then-is_empty
returns-then-is_empty c = λ trees h.
    let zero : length c.args.self.wraps.items ≡ 0 = search rules in
    let none : c.args.self.wraps.items ≡ [] = none_of c.args.self.wraps.items zero in
    c.new.ensures ∙ sym (no_wraps 0 c.args.self.items.items)
    ∙ ap (λ (ws : List Wrap). (known (entries_from 0 c.args.self.items.items ws)).out) (sym none)
    ∙ grown_items (entries_from 0 c.args.self.items.items c.args.self.wraps.items) trees (all_grown c.args.self trees h)

pub returns : goal.returns
returns c = λ trees h. c.new-2.ensures ∙ (rw (c.as_slice.ensures.value, c.as_slice-2.ensures.value) at c.in_ok-items.ensures)
    h.ordered ∙ grown_items (entries_from 0 c.args.self.items.items c.args.self.wraps.items) trees (all_grown c.args.self trees h)
