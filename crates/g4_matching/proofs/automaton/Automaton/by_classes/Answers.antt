use Rattle.std.proofs.Common.{◌≡◌, ℕ, replicate, Option, None, slice_get, ap, ◌∙◌, List, sym, length, rules}
use Rattle.g4_matching.specs.Listing.{returns_of}
use Rattle.g4_matching.proofs.Learning.{learned_none, none_noted}
use Rattle.g4_matching.proofs.automaton.Automaton.by_classes.Goals as goal

pub returns : goal.returns
returns c =
    let firsts : c.in_ok-firsts.firsts.items ≡ replicate (length c.args.modes.now.starts.now) None =
    c.in_ok-firsts.ensures.items_if_clones_equal (search rules) in
    learned_none c.args.modes.now.net.now c.args.modes.now.starts.now c.args.classes (returns_of c.new.result)
    c.new-2.result.items c.new-3.result.items c.in_ok-firsts.firsts.items c.requires c.new-2.ensures.items
    c.new-3.ensures.items
    (λ mode n is. none_noted (length c.args.modes.now.starts.now) mode n (ap (λ (l : List (Option ℕ)). slice_get l mode) (sym firsts) ∙ is))
