use Rattle.std.proofs.Common.{ℕ, List, subst, sym}
use Rattle.g4_ordered.specs.Lists.{ReadAll}
use Rattle.g4_matching.specs.Entries.{configs_of, stacked}
use Rattle.g4_matching.specs.Expanding.{all_of}
use Rattle.g4_matching.specs.Listing.{returns_of}
use Rattle.g4_matching.specs.Returns.{Grows}
use Rattle.g4_matching.proofs.listing.Listing.step.Goals as goal

pub returns-clause-grows : goal.returns-clause-grows
returns-clause-grows c = subst (λ (r : List (List ℕ)). Grows r (returns_of c.keep.new.self)) c.in_ok-read.ensures.same
    (subst (Grows c.read.new.self.returns) (sym c.in_ok-keep.ensures.same) c.in_ok-expand.ensures.grows)

pub returns-clause-made : goal.returns-clause-made
returns-clause-made c =
    let read = stacked c.read.new.self.returns c.read.new.self.entries.items in
    let e = c.in_ok-expand.ensures.expanded in
    record {
      read = read;
      reads = subst (λ (r : List (List ℕ)). ReadAll c.args.net.now c.args.character (configs_of r c.args.list.now) read)
          c.in_ok-read.ensures.same c.in_ok-read.ensures.waiting;
      makes = record {
        expansion = e.expansion;
        all = all_of c.expand.new.self;
        expands = e.expands;
        appends = e.appends;
        keeps = c.in_ok-keep.ensures.keeps;
      };
    }
