use Rattle.std.proofs.Common.{rules, ◌≡◌, [], get_or}
use Rattle.g4_matching.specs.Returns.{pushed}
use Rattle.g4_matching.specs.Entries.{config_of}
use Rattle.g4_matching.proofs.Known.{adds_one, grows_not, popped}
use Rattle.g4_matching.proofs.waiting.Waiting.push_returned.Goals as goal

pub returns-in_ok-push : goal.returns-in_ok-push
returns-in_ok-push c =
    let top : get_or c.args.self.now.returns c.args.from.returns []
    ≡ pushed c.args.self.now.returns c.in-Some.state c.in-Some.returns = search rules in
    adds_one _ _ _ _ (grows_not c.args.self.now.returns) c.in_ok-push.ensures.items (search rules) c.requires.waiting
    (popped c.args.self.now.returns (config_of c.args.self.now.returns c.args.from) _ c.in-Some.state c.in-Some.returns top)
