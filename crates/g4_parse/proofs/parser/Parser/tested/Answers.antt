use Rattle.std.proofs.Common.{◌≡◌, ◌∙◌, ◌≤◌, ℕ, List, ap, sym, arith}
use Rattle.std.specs.Prelude.{Some}
use Rattle.g4_net.specs.Network.{state_at}
use Rattle.g4_net.specs.declared.network.State.{State}
use Rattle.g4_net.specs.declared.network.State.TheVariants.{Level, Predicate}
use Rattle.g4_run.specs.Running.{level_of}
use Rattle.g4_parse.proofs.Passing.{fails_predicate, passes_level, passes_predicate}
use Rattle.g4_parse.proofs.Turns.{held}
use Rattle.g4_parse.proofs.parser.Parser.tested.Goals as goal

pub returns-then-not-holds-clause-tested : goal.returns-then-not-holds-clause-tested
returns-then-not-holds-clause-tested g c = λ word r h.
    let values = g.P.Predicates.values c.args.predicates.now in
    let is : state_at c.args.net.now c.args.state ≡ Some (Predicate c.in-Predicate.number c.in-Predicate.target) =
    c.state_of.ensures ∙ ap (λ (s : State (List ℕ)). Some s) c.in-Predicate.is in
    fails_predicate c.args.net.now values word r c.args.state c.in-Predicate.number c.in-Predicate.target is
    (sym (held values r c.args.self.now c.deref.result.now c.in-Predicate.number c.deref.ensures.value h)
    ∙ sym c.holds.ensures ∙ c.if-not-holds.true)

pub returns-else-not-holds-clause-tested : goal.returns-else-not-holds-clause-tested
returns-else-not-holds-clause-tested g c = λ word r h.
    let values = g.P.Predicates.values c.args.predicates.now in
    let is : state_at c.args.net.now c.args.state ≡ Some (Predicate c.in-Predicate.number c.in-Predicate.target) =
    c.state_of.ensures ∙ ap (λ (s : State (List ℕ)). Some s) c.in-Predicate.is in
    passes_predicate c.args.net.now values word r c.args.state c.in-Predicate.number c.in-Predicate.target is
    (sym (held values r c.args.self.now c.deref.result.now c.in-Predicate.number c.deref.ensures.value h)
    ∙ sym c.holds.ensures ∙ c.if-not-holds.false)

pub returns-else-newest-most-clause-tested : goal.returns-else-newest-most-clause-tested
returns-else-newest-most-clause-tested g c = λ word r h.
    let values = g.P.Predicates.values c.args.predicates.now in
    let is : state_at c.args.net.now c.args.state ≡ Some (Level c.in-Level.most c.in-Level.target) =
    c.state_of.ensures ∙ ap (λ (s : State (List ℕ)). Some s) c.in-Level.is in
    let low : level_of r.frames ≤ c.in-Level.most = omega (arith, (c.newest.ensures r h).1, c.if-newest-most.false) in
    passes_level c.args.net.now values word r c.args.state c.in-Level.most c.in-Level.target is low
