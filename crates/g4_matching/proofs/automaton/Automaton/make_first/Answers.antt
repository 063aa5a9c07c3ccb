use Rattle.g4_matching.proofs.Learning.{learned_grows}
use Rattle.g4_matching.specs.Listing.{returns_of}
use Rattle.g4_matching.proofs.automaton.Automaton.make_first.Goals as goal

pub returns-in-Ok-clause-sound : goal.returns-in-Ok-clause-sound
returns-in-Ok-clause-sound c =
    let a = c.args.self.now in
    learned_grows c.args.modes.now.net.now c.args.modes.now.starts.now a.classes (returns_of a.listing) (returns_of c.first.new.self)
    a.lists.items a.next.items a.firsts.items c.in-Ok.ensures.grows c.requires.sound
