use Rattle.std.proofs.Common.{refl, arith}
use Rattle.std.proofs.lemmas.Option.{gets}
use Rattle.std.proofs.lemmas.Grind.{common_steps}
use Rattle.g4_horn.proofs.chaining.Chaining.wait_for.Goals as goal

pub returns-in_ok-push-clause-added : goal.returns-in_ok-push-clause-added
returns-in_ok-push-clause-added c = λ within. record {
  old = c.in-Some.waits.now;
  new = c.push.new.self;
  was = grind (arith, common_steps, gets);
  more = c.in_ok-push.ensures.items;
  waiting = refl;
  follows = refl;
  ready = refl;
}
