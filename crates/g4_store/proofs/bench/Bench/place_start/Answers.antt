use Rattle.g4_store.specs.declared.automaton.Fact.TheVariants.{Start}
use Rattle.g4_store.proofs.Following.{fill_takes}
use Rattle.g4_store.proofs.bench.Bench.place_start.Goals as goal

pub returns-in-Some : goal.returns-in-Some
returns-in-Some g c =
    fill_takes g.B.Home.plan.rows (Start c.args.start c.args.content) c.args.content c.in-Some.target c.args.self.now
    c.fill_start.new.self (c.requires.empty c.args.content)
    (c.fill_start.ensures c.args.content c.in-Some.ensures.some) c.in-Some.ensures.some
