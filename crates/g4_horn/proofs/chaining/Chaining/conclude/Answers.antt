use Rattle.std.proofs.Common.{◌≡◌, ◌+◌, ◌<◌, length, arith, rules}
use Rattle.g4_horn.proofs.Lists.{one_fewer}
use Rattle.g4_horn.proofs.chaining.Chaining.conclude.Goals as goal

pub returns-in_ok-push-clause-work : goal.returns-in_ok-push-clause-work
returns-in_ok-push-clause-work c =
    let within : c.args.number < length c.args.self.now.follows.items = search rules in
    let fewer = one_fewer c.args.self.now.follows.items c.args.number within (λ said. search rules) in
    let longer : length c.push.new.self.items ≡ length c.args.self.now.ready.items + 1 = search rules in omega (arith, fewer, longer)
