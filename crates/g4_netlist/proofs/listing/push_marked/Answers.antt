use Rattle.std.proofs.Common.{◌≡◌, ◌++◌, ℕ, List, true, false, slice_index_or, sym, ◌∙◌, ap, append_assoc, rules}
use Rattle.g4_netlist.specs.Listing.{line_of, lines_of}
use Rattle.g4_netlist.specs.Searching.{marked}
use Rattle.g4_netlist.proofs.Marked.{lines_more, lines_same}
use Rattle.g4_netlist.proofs.listing.push_marked.Goals as goal

pub loop-number-preserved-then-not-found-number : goal.loop-number-preserved-then-not-found-number
loop-number-preserved-then-not-found-number c =
    let i = c.loop-number.number in
    let unset : slice_index_or c.args.found.now i false ≡ false = search rules in
    c.loop-number.invariant ∙ ap (λ (xs : List ℕ). c.args.out.now.items ++ xs)
    (sym (lines_same c.args.names.now c.args.shown.now c.args.net.now c.args.found.now i unset))

pub loop-number-preserved : goal.loop-number-preserved
loop-number-preserved c =
    let i = c.loop-number.number in
    let is_set : slice_index_or c.args.found.now i false ≡ true = search rules in
    let line = line_of c.args.names.now c.args.shown.now c.args.net.now i in
    c.in_ok-push_state.ensures ∙ ap (λ (xs : List ℕ). xs ++ line) c.loop-number.invariant
    ∙ append_assoc c.args.out.now.items (lines_of c.args.names.now c.args.shown.now c.args.net.now (marked c.args.found.now i)) line
    ∙ ap (λ (xs : List ℕ). c.args.out.now.items ++ xs)
    (sym (lines_more c.args.names.now c.args.shown.now c.args.net.now c.args.found.now i is_set))
