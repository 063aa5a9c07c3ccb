use Rattle.std.proofs.Common.{List, subst, sym, refl}
use Rattle.g4_matching.specs.declared.entry.Entry.{Entry}
use Rattle.g4_matching.specs.Entries.{AreKnown, configs_of}
use Rattle.g4_matching.specs.Listing.{IsNext, listed, returns_of}
use Rattle.g4_matching.proofs.Known.{grown_configs}
use Rattle.g4_matching.proofs.Learning.{learned_grows}
use Rattle.g4_matching.proofs.Lookups.{got}
use Rattle.g4_matching.proofs.automaton.Automaton.make_next.Goals as goal

pub step-requires-clause-known : goal.step-requires-clause-known
step-requires-clause-known c =
    let a = c.args.self.now in
    let there = got a.lists.items a.lists.items c.args.from c.index.result.now refl c.requires.within c.index.ensures in
    subst (AreKnown (returns_of a.listing)) (sym c.as_slice-list.ensures.value)
    (c.requires.sound.known c.args.from c.index.result.now there)

pub returns-in-Ok-clause-sound : goal.returns-in-Ok-clause-sound
returns-in-Ok-clause-sound c =
    let a = c.args.self.now in
    learned_grows c.args.modes.now.net.now c.args.modes.now.starts.now a.classes (returns_of a.listing) (returns_of c.step.new.self)
    a.lists.items a.next.items a.firsts.items c.in-Ok.ensures.grows c.requires.sound

pub returns-in-Ok-clause-made : goal.returns-in-Ok-clause-made
returns-in-Ok-clause-made c =
    let a = c.args.self.now in
    let l = c.index.result.now in
    let there = got a.lists.items a.lists.items c.args.from l refl c.requires.within c.index.ensures in
    record {
      list = configs_of (returns_of a.listing) l.entries.items;
      before = (l, there, refl);
      stays = (
        l,
        there,
        grown_configs (returns_of a.listing) (returns_of c.step.new.self) l.entries.items c.in-Ok.ensures.grows
            (c.requires.sound.known c.args.from l there),
      );
      is_next = subst (λ (x : List Entry). IsNext c.args.modes.now.net.now c.args.last c.args.character
          (configs_of (returns_of a.listing) x) (listed c.step.new.self)) c.as_slice-list.ensures.value c.in-Ok.ensures.made;
    }
