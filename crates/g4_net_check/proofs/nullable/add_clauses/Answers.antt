use Rattle.std.proofs.Common.{◌∷◌, [], ℕ, refl, sym, ap, ◌∙◌, subst}
use Rattle.g4_net.specs.declared.network.State.{State}
use Rattle.g4_net.specs.Network.{start_of}
use Rattle.g4_net_check.specs.Clauses.{NeedsOf, AddsClauses}
use Rattle.g4_net_check.proofs.Clauses.{adds_this, adds_other}
use Rattle.g4_net_check.proofs.nullable.add_clauses.Goals as goal

pub returns-in_ok-push-in-End : goal.returns-in_ok-push-in-End
returns-in_ok-push-in-End g c =
    let before = c.args.clauses.now.items in
    let after = c.push.new.self.items in
    subst (λ (s : State g.row.L.Denot). AddsClauses c.args.head (NeedsOf s) before after) (sym c.in-End.is)
    (adds_this c.args.head [] before after (record { head = c.args.head; needs = c.new-needs.result })
    c.in_ok-push-in-End.ensures.items refl c.new-needs.ensures.items)

pub returns-in_ok-push-in-Call : goal.returns-in_ok-push-in-Call
returns-in_ok-push-in-Call g c =
    let before = c.args.clauses.now.items in
    let after = c.push-in-Call.new.self.items in
    let start = start_of c.in-Call.rule in
    subst (λ (s : State g.row.L.Denot). AddsClauses c.args.head (NeedsOf s) before after) (sym c.in-Call.is)
    (adds_this c.args.head (start ∷ c.in-Call.back ∷ []) before after
    (record { head = c.args.head; needs = c.in_ok-needs-in-Call.needs }) c.in_ok-push-in-Call.ensures.items refl
    (c.in_ok-needs-in-Call.ensures.items ∙ ap (λ (x : ℕ). x ∷ c.in-Call.back ∷ []) c.start_of.ensures))

pub returns-in_ok-add_edges-in_default : goal.returns-in_ok-add_edges-in_default
returns-in_ok-add_edges-in_default g c = adds_other c.args.head c.args.state.now c.epsilon_targets.result.now c.args.clauses.now.items
    c.add_edges.new.clauses.items c.in_default.not-End c.in_default.not-Call c.epsilon_targets.ensures c.in_ok-add_edges-in_default.ensures
