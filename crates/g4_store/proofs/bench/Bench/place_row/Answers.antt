use Rattle.g4_store.specs.declared.automaton.Led.TheVariants.{Row}
use Rattle.g4_store.specs.declared.automaton.Fact.TheVariants.{Cell}
use Rattle.g4_store.proofs.Following.{fill_takes}
use Rattle.g4_store.proofs.bench.Bench.place_row.Goals as goal

pub returns-in-Some : goal.returns-in-Some
returns-in-Some g c = λ x row.
    fill_takes g.B.Home.plan.rows (Cell x c.args.column (Row c.args.content c.args.mark)) c.args.content c.in-Some.target
    c.args.self.now c.fill_row.new.self (c.requires.empty x row (Row c.args.content c.args.mark))
    (c.fill_row.ensures x c.args.content row c.in-Some.ensures.some) c.in-Some.ensures.some
