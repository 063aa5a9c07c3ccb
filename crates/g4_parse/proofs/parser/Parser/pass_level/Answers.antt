use Rattle.std.proofs.Common.{ℕ, refl, arith, ap, ◌∙◌}
use Rattle.g4_net.specs.Network.{written_at}
use Rattle.g4_run.specs.Running.{wrapped, failed_predicate}
use Rattle.g4_parse.proofs.Turns.{passes_level}
use Rattle.g4_parse.proofs.parser.Parser.pass_level.Goals as goal

pub returns : goal.returns
returns c = λ values word r h.
    let alternative = written_at c.args.net.now r.state in (
      record { state = c.args.target; place = r.place; frames = wrapped alternative r.frames; tree = r.tree },
      (omega (arith, (c.newest-newest.ensures r h).1), refl),
      passes_level r c.args.self.now _ c.args.target alternative h refl refl refl refl
          (rw (c.as_slice.ensures, h.state) at c.in_ok-wrap.ensures),
    )

pub returns-then-newest-most : goal.returns-then-newest-most
returns-then-newest-most c = λ values word r h.
    let newest = c.newest-newest.ensures r h in (
      omega (arith, newest.1),
      ap (λ (at : ℕ). failed_predicate at c.newest-newest.result.rule) h.place
          ∙ ap (failed_predicate r.place) newest.0,
    )
