use Rattle.g4_matching.specs.Entries.{config_of}
use Rattle.g4_matching.proofs.Known.{adds_one, number_known, called}
use Rattle.g4_matching.proofs.waiting.Waiting.push_called.Goals as goal

pub returns : goal.returns
returns c =
    adds_one _ _ _ _ c.in_ok-returns.ensures.grows c.in_ok-push.ensures.items (number_known _ _ _ c.in_ok-returns.ensures.holds)
    c.requires.waiting
    (called (config_of c.args.self.now.returns c.args.from) c.args.rule c.args.back c.in_ok-returns.returns c.push.new.self
    c.in_ok-returns.ensures.holds)
