use Rattle.std.proofs.Common.{◌∷◌, [], map, reverse, refl, subst, sym, ◌∙◌, ap}
use Rattle.std.proofs.lemmas.List.{map-append, reverse-reverse}
use Rattle.std.proofs.lemmas.Iterator.Adapters.{YieldsList-from_rev_slice}
use Rattle.std.proofs.lemmas.Iterator.Consumers.{YieldsList-end, YieldsList-turn}
use Rattle.g4_ordered.specs.Configurations.{In}
use Rattle.g4_ordered.specs.Lists.{ReadAll, all_read}
use Rattle.g4_matching.specs.Entries.{AreKnown, configs_of, stacked}
use Rattle.g4_matching.proofs.Lookups.{from_reverse, in_read}
use Rattle.g4_matching.proofs.Backwards.{read_on}
use Rattle.g4_matching.proofs.waiting.Waiting.read.Goals as goal

pub loop-entry-init : goal.loop-entry-init
loop-entry-init c = rw c.clear.ensures.items (refl, (λ e i. absurd i), all_read)

pub loop-entry-preserved : goal.loop-entry-preserved
loop-entry-preserved c =
    let t = YieldsList-turn (YieldsList-from_rev_slice {s = c.into_iter-entry-iterator.result} c.args.list.now cc)
    c.loop-entry.yielded _ c.loop-entry.yielded_by _ _ c.in-Some.entry c.in-Some.is c.next.ensures.steps in
    let there : In c.in-Some.entry.now c.args.list.now = from_reverse c.args.list.now _ (in_read (reverse c.args.list.now) _ _ t.0 t.1) in
    let on = read_on c.args.net.now c.args.character c.args.self.now.returns (map (λ y. y.now) c.loop-entry.yielded)
    c.loop-entry.self.entries.items c.push_moved.new.entries.items c.in-Some.entry.now c.read_to-target.result
    c.read_to-target.ensures c.in_ok-push_moved.ensures (c.requires c.in-Some.entry.now there)
    (c.loop-entry.invariant.1, c.loop-entry.invariant.2) in (
      c.loop-entry.invariant.0,
      on.0,
      subst (λ l. ReadAll c.args.net.now c.args.character (configs_of c.args.self.now.returns (reverse l))
          (stacked c.args.self.now.returns c.push_moved.new.entries.items))
          (sym (map-append (λ y. y.now) c.loop-entry.yielded (c.in-Some.entry ∷ []))) on.1,
    )

pub returns-clause-known : goal.returns-clause-known
returns-clause-known c = subst (λ l. AreKnown l c.loop-entry.self.entries.items) (sym c.loop-entry.invariant.0) c.loop-entry.invariant.1

pub returns-clause-waiting : goal.returns-clause-waiting
returns-clause-waiting c =
    let end = YieldsList-end (YieldsList-from_rev_slice {s = c.into_iter-entry-iterator.result} c.args.list.now cc)
    c.loop-entry.yielded c.loop-entry.entry-iterator c.loop-entry.yielded_by c.next.result c.next.new.self c.in-None.is
    c.next.ensures.steps in
    let all = ap reverse end.0 ∙ reverse-reverse c.args.list.now in
    subst (λ l. ReadAll c.args.net.now c.args.character (configs_of l c.args.list.now) (stacked l c.loop-entry.self.entries.items))
    (sym c.loop-entry.invariant.0)
    (subst (λ l. ReadAll c.args.net.now c.args.character (configs_of c.args.self.now.returns l)
    (stacked c.args.self.now.returns c.loop-entry.self.entries.items)) all c.loop-entry.invariant.2)
