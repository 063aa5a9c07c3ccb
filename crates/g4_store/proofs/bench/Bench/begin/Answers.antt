use Rattle.std.proofs.Common.{◌≡◌, [], ◌∷◌, ap, ◌∙◌, subst}
use mathlib.Core.Option as maybe
use Rattle.g4_store.specs.declared.automaton.Fact.TheVariants.{Start}
use Rattle.g4_store.specs.declared.view.View.{View}
use Rattle.g4_store.specs.Numbers.{Among, has}
use Rattle.g4_store.specs.Views.{saw}
use Rattle.g4_store.specs.Paths.{TakesOr}
use Rattle.g4_store.proofs.Following.{found_takes}
use Rattle.g4_store.proofs.bench.Bench.begin.Goals as goal

pub returns-then-reread_start : goal.returns-then-reread_start
returns-then-reread_start g c =
    let e = c.if-reread_start.ensures in
    let is : e.1 ≡ c.args.content = g.A.Automaton.one_start g.B.Home.plan.net c.args.start e.1 c.args.content e.2 c.requires.start.1 in
    found_takes g.B.Home.plan.rows (Start c.args.start c.args.content) c.args.content e.0 c.args.self.now c.reread_start.new.self
    c.find.result c.requires.guest.0
    (subst (λ y. Among (Start c.args.start y) c.args.self.now.facts) is e.4)
    (e.3 ∙ ap maybe.some is)
    (e.5 ∙ ap (λ z. saw (Start c.args.start z) ((e.0, z) ∷ []) c.args.self.now) is)
    c.find.ensures.some c.find.ensures.none

pub place_start-requires-clause-empty : goal.place_start-requires-clause-empty
place_start-requires-clause-empty g c = let e = c.if-reread_start.ensures in
    λ y m. e.1 y (subst (λ (v : View _). Among (Start c.args.start y) v.facts) e.0 m)

pub place_start-requires-clause-guest : goal.place_start-requires-clause-guest
place_start-requires-clause-guest g c =
    let e = c.if-reread_start.ensures in
    let r = c.requires.guest in
    (ap (λ (v : View _). v.loose) e.0 ∙ r.0, (r.1.0, ap (λ (v : View _). has r.1.0 v.holds) e.0 ∙ r.1.1))

pub returns : goal.returns
returns g c =
    subst (λ (v : View _). TakesOr g.B.Home.plan.rows (Start c.args.start c.args.content) c.args.content v c.place_start.new.self
    c.place_start.result) (c.if-reread_start.ensures.0) c.place_start.ensures
