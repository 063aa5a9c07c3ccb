use Rattle.std.proofs.Common.{◌≡◌, ap, ◌∙◌, ℕ, replicate, None, arith}
use Rattle.g4_workers.proofs.Placed.{no_slots, none_placed}
use Rattle.g4_workers.proofs.place.empty_slots.Goals as goal

pub returns : goal.returns
returns g c =
    let all : c.loop.counter ≡ c.args.files = omega (arith, c.loop-test.false, c.loop.auto.counter-end) in
    let same = c.loop.invariant ∙ ap (λ (n : ℕ). replicate n None) (all ∙ c.requires) in
    record {
      slots = no_slots (g.W.Work.is_outcome c.args._work.now) (g.W.Work.files c.args._work.now) c.loop.slots.items same;
      none = λ file placed. none_placed (g.W.Work.files c.args._work.now) c.loop.slots.items same file placed;
    }
