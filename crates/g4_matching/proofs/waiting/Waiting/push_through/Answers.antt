use Rattle.std.proofs.Common.{map, refl, ap}
use Rattle.g4_matching.specs.Entries.{config_of}
use Rattle.g4_matching.proofs.Known.{adds_placed}
use Rattle.g4_matching.proofs.waiting.Waiting.push_through.Goals as goal

pub returns : goal.returns
returns c =
    adds_placed _ _ (record c.args.from { passed = c.passes-passed.result }) c.args.targets.now _ refl c.in_ok-push_each.ensures
    c.requires.known c.requires.waiting
    (ap (λ p. map (λ t. record {
      rule = c.args.from.rule;
      alternative = c.args.from.alternative;
      state = t;
      returns = (config_of c.args.self.now.returns c.args.from).returns;
      passed = p;
    }) c.args.targets.now) c.passes-passed.ensures)
