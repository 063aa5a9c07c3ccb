use Rattle.std.proofs.Common.{◌≡◌, List, ℕ, sym, subst}
use Rattle.g4_net.specs.Network.{ParserNetwork}
use Rattle.g4_tally.specs.Tallies.{IsTally}
use Rattle.g4_tool.proofs.files.learned_of.Goals as goal

pub tally_of-requires : goal.tally_of-requires
tally_of-requires g c = record { whole = c.requires.whole c.if-not-complete.false }

pub returns : goal.returns
returns g c = λ files same learned.
    let h = learned c.if-not-complete.false in (
      c.if-not-asked.false,
      (
        h.runs,
        h.are,
        subst (λ (net : ParserNetwork). IsTally g.B.Home.plan.rows net h.runs c.in_ok-tally.tally) (sym same)
            (c.in_ok-tally.ensures h.runs h.symbols h.passed),
      ),
    )
