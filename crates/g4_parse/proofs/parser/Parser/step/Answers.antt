use Rattle.std.proofs.Common.{◌∙◌, ℕ, List, ap, refl}
use Rattle.std.specs.Prelude.{Some, Ok}
use Rattle.g4_net.specs.declared.network.State.{State}
use Rattle.g4_net.specs.declared.network.State.TheVariants.{Call, End, Level, Predicate, Action, Empty}
use Rattle.g4_tokens.specs.TokenList.{word_of}
use Rattle.g4_run.specs.Running.{Run}
use Rattle.g4_parse.proofs.Turns.{turned}
use Rattle.g4_parse.proofs.parser.Parser.step.Goals as goal

pub returns-in-Call : goal.returns-in-Call
returns-in-Call g c = λ r h. turned c.args.net.now (g.P.Predicates.values c.args.predicates.now)
    (word_of c.args.tokens.now) r c.args.self.now _
    (Call c.in-Call.rule c.in-Call.level c.in-Call.back) _ h (c.state_of.ensures ∙ ap (λ (s : State (List ℕ)). Some s) c.in-Call.is)
    (c.call.ensures (g.P.Predicates.values c.args.predicates.now) (word_of c.args.tokens.now) r h)

pub returns-in-End : goal.returns-in-End
returns-in-End g c = λ r h. turned c.args.net.now (g.P.Predicates.values c.args.predicates.now)
    (word_of c.args.tokens.now) r c.args.self.now _ (End c.in-End.field-0) _ h
    (c.state_of.ensures ∙ ap (λ (s : State (List ℕ)). Some s) c.in-End.is)
    (c.close.ensures c.args.net.now (g.P.Predicates.values c.args.predicates.now) (word_of c.args.tokens.now) c.in-End.field-0 r h)

pub returns-in-Edge : goal.returns-in-Edge
returns-in-Edge g c = λ r h. turned c.args.net.now (g.P.Predicates.values c.args.predicates.now)
    (word_of c.args.tokens.now) r c.args.self.now _ _ _ h
    (c.state_of.ensures ∙ ap (λ (s : State (List ℕ)). Some s) c.in-Edge.is) (c.take.ensures c.args.net.now
    (g.P.Predicates.values c.args.predicates.now) r h)

pub returns-in-Action : goal.returns-in-Action
returns-in-Action g c = λ r h.
    let after : Run = record { state = c.in-Action.target; place = r.place; frames = r.frames; tree = r.tree } in
    turned c.args.net.now (g.P.Predicates.values c.args.predicates.now) (word_of c.args.tokens.now) r c.args.self.now _
    (Action c.in-Action.target) (Ok tt) h
    (c.state_of.ensures ∙ ap (λ (s : State (List ℕ)). Some s) c.in-Action.is)
    (after, refl, record { state = refl; place = h.place; returns = h.returns; opened = h.opened; tree = h.tree })

pub returns-in-Empty : goal.returns-in-Empty
returns-in-Empty g c = λ r h.
    let after : Run = record { state = c.in-Empty.target; place = r.place; frames = r.frames; tree = r.tree } in
    turned c.args.net.now (g.P.Predicates.values c.args.predicates.now) (word_of c.args.tokens.now) r c.args.self.now _
    (Empty c.in-Empty.target) (Ok tt) h
    (c.state_of.ensures ∙ ap (λ (s : State (List ℕ)). Some s) c.in-Empty.is)
    (after, refl, record { state = refl; place = h.place; returns = h.returns; opened = h.opened; tree = h.tree })

pub returns-in-Level : goal.returns-in-Level
returns-in-Level g c = λ r h. turned c.args.net.now (g.P.Predicates.values c.args.predicates.now)
    (word_of c.args.tokens.now) r c.args.self.now _
    (Level c.in-Level.most c.in-Level.target) _ h (c.state_of.ensures ∙ ap (λ (s : State (List ℕ)). Some s) c.in-Level.is)
    (c.pass_level.ensures (g.P.Predicates.values c.args.predicates.now) (word_of c.args.tokens.now) r h)

pub returns-in-Predicate : goal.returns-in-Predicate
returns-in-Predicate g c = λ r h.
    turned c.args.net.now (g.P.Predicates.values c.args.predicates.now) (word_of c.args.tokens.now) r c.args.self.now _
    (Predicate c.in-Predicate.number c.in-Predicate.target) _ h
    (c.state_of.ensures ∙ ap (λ (s : State (List ℕ)). Some s) c.in-Predicate.is)
    (c.pass_predicate.ensures c.args.net.now (word_of c.args.tokens.now) r h)
