use Rattle.std.proofs.Common.{◌≡◌, ◌+◌, ◌++◌, ◌∷◌, [], List, replicate, None, slice_get, length, ap, sym, ◌∙◌, subst, arith}
use Rattle.g4_matching.specs.declared.entry.Entry.{Entry}
use Rattle.g4_matching.specs.declared.learned.Learned.{Learned}
use Rattle.g4_matching.specs.Ends.{TellsEnd}
use Rattle.g4_matching.specs.Entries.{AreKnown, configs_of}
use Rattle.g4_matching.specs.Listing.{returns_of}
use Rattle.g4_matching.proofs.Learning.{learned_more, resized}
use Rattle.g4_matching.proofs.Lookups.{at_last}
use Rattle.g4_matching.proofs.automaton.Automaton.add.Goals as goal

pub returns-clause-sound : goal.returns-clause-sound
returns-clause-sound c =
    let a = c.args.self.now in
    let l : Learned = record { entries = c.in_ok-entries.entries; end = c.least_end-end.result; earlier = c.copied-earlier.result } in
    let lists : c.push_reserved.new.self.items ≡ a.lists.items ++ l ∷ [] =
    c.push_reserved.ensures.items ∙ ap (λ (x : List Learned). x ++ l ∷ []) c.in_ok-reserve.ensures.items in
    let cells : c.resize.new.self.items ≡ a.next.items ++ replicate a.classes.count None =
    resized (c.len.result + c.count.result) a.classes.count a.next.len a.next.items c.resize.new.self.items
    c.in_ok-resize.ensures.items a.next.ok.0 (omega (arith, c.len.ensures, c.count.ensures)) in
    let entries : c.in_ok-entries.entries.items ≡ a.listing.list.items = c.in_ok-entries.ensures.items ∙ c.as_slice.ensures.value in
    learned_more c.args.modes.now.net.now c.args.modes.now.starts.now a.classes (returns_of a.listing) a.lists.items
    c.push_reserved.new.self.items l a.next.items c.resize.new.self.items a.firsts.items c.requires.sound lists cells
    (subst (AreKnown (returns_of a.listing)) (sym entries) c.requires.ready)
    (subst (λ (x : List Entry). TellsEnd c.args.modes.now.net.now (configs_of (returns_of a.listing) x) c.least_end-end.result)
    (sym entries) c.least_end-end.ensures)

pub returns-clause-added : goal.returns-clause-added
returns-clause-added c =
    let a = c.args.self.now in
    let l : Learned = record { entries = c.in_ok-entries.entries; end = c.least_end-end.result; earlier = c.copied-earlier.result } in
    let lists : c.push_reserved.new.self.items ≡ a.lists.items ++ l ∷ [] =
    c.push_reserved.ensures.items ∙ ap (λ (x : List Learned). x ++ l ∷ []) c.in_ok-reserve.ensures.items in
    let number : c.len-number.result ≡ length a.lists.items = c.len-number.ensures ∙ a.lists.ok.0 in (
      l,
      ap (λ (x : List Learned). slice_get x c.len-number.result) lists ∙ ap (slice_get (a.lists.items ++ l ∷ [])) number
          ∙ at_last a.lists.items l,
      c.in_ok-entries.ensures.items ∙ c.as_slice.ensures.value,
    )
