use Rattle.std.proofs.Common.{◌≡◌, List, map, reverse, subst, sym, ◌∙◌, ap}
use Rattle.std.proofs.lemmas.List.{append-nil, reverse-reverse}
use Rattle.std.proofs.lemmas.Iterator.Adapters.{YieldsList-from_rev_slice}
use Rattle.std.proofs.lemmas.Iterator.Consumers.{YieldsList-end}
use Rattle.g4_matching.specs.Entries.{AreKnown, configs_of, stacked}
use Rattle.g4_matching.proofs.Known.{known_back}
use Rattle.g4_matching.proofs.Backwards.{entry_of, start_configs, starts_known}
use Rattle.g4_matching.proofs.waiting.Waiting.begin.Goals as goal

pub returns-clause-known : goal.returns-clause-known
returns-clause-known c =
    let end = YieldsList-end (YieldsList-from_rev_slice {s = c.into_iter-start-iterator.result} c.args.starts.now cc)
    c.loop-start.yielded c.loop-start.start-iterator c.loop-start.yielded_by c.next.result c.next.new.self c.in-None.is
    c.next.ensures.steps in
    let all : reverse c.loop-start.self.entries.items ≡ map entry_of c.args.starts.now =
    c.loop-start.invariant.1 ∙ append-nil _ ∙ ap (λ l. map entry_of (reverse l)) end.0
    ∙ ap (map entry_of) (reverse-reverse c.args.starts.now) in
    subst (λ l. AreKnown l c.loop-start.self.entries.items) (sym c.loop-start.invariant.0)
    (known_back _ _ (subst (AreKnown c.args.self.now.returns) (sym all)
    (starts_known c.args.self.now.returns c.args.starts.now c.is_whole.ensures.empty)))

pub returns-clause-waiting : goal.returns-clause-waiting
returns-clause-waiting c =
    let end = YieldsList-end (YieldsList-from_rev_slice {s = c.into_iter-start-iterator.result} c.args.starts.now cc)
    c.loop-start.yielded c.loop-start.start-iterator c.loop-start.yielded_by c.next.result c.next.new.self c.in-None.is
    c.next.ensures.steps in
    let all : reverse c.loop-start.self.entries.items ≡ map entry_of c.args.starts.now =
    c.loop-start.invariant.1 ∙ append-nil _ ∙ ap (λ l. map entry_of (reverse l)) end.0
    ∙ ap (map entry_of) (reverse-reverse c.args.starts.now) in
    ap (λ (l : List (List _)). stacked l c.loop-start.self.entries.items) c.loop-start.invariant.0
    ∙ ap (configs_of c.args.self.now.returns) all ∙ start_configs c.args.self.now.returns c.args.starts.now c.is_whole.ensures.empty
