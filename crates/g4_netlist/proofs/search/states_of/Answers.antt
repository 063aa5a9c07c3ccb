use Rattle.std.proofs.Common.{◌∷◌, [], ℕ, List, Bool, sym, subst}
use Rattle.g4_net.specs.Network.{end_of}
use Rattle.g4_netlist.specs.Searching.{AreMarks, IsUnderWay, Known}
use Rattle.g4_netlist.proofs.Ends.{search_begins, search_ends}
use Rattle.g4_netlist.proofs.search.states_of.Goals as goal

pub loop-state-init : goal.loop-state-init
loop-state-init c =
    let first = c.in_ok-search.search in
    c.in_ok-reach-2.ensures.under_way c.args.net.now c.args.rule []
    (c.in_ok-reach.ensures.under_way c.args.net.now c.args.rule (end_of c.args.rule ∷ [])
    (search_begins c.args.net.now c.args.rule c.len.result first.found.items first.waiting.items c.len.ensures
    c.in_ok-search.ensures.found c.in_ok-search.ensures.waiting))

pub loop-state-preserved : goal.loop-state-preserved
loop-state-preserved c =
    c.in_ok-reach_all.ensures.under_way c.args.net.now c.args.rule
    (subst (λ (left : List ℕ). IsUnderWay c.args.net.now c.args.rule left c.next.new.self) (sym c.targets_at.ensures)
    (c.in-Some.ensures.under_way c.args.net.now c.args.rule c.loop-state.invariant))

pub returns : goal.returns
returns c =
    let now = c.loop-state.search in
    let known : Known c.args.net.now c.args.rule [] now.found.items [] =
    subst (λ (ws : List ℕ). Known c.args.net.now c.args.rule [] now.found.items ws) c.in_default.ensures.done c.loop-state.invariant in
    subst (λ (found : List Bool). AreMarks c.args.net.now c.args.rule found) (sym c.in_default.ensures.same)
    (search_ends c.args.net.now c.args.rule now.found.items known)
