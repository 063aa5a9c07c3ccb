use Rattle.std.proofs.Common.{rules, ◌≡◌, ◌∙◌, List, map, sym, ap}
use Rattle.std.proofs.lemmas.List.{map-id}
use Rattle.std.proofs.lemmas.Iterator.Adapters.{YieldsList-from_vec}
use Rattle.std.proofs.lemmas.Iterator.Consumers.{YieldsList-end}
use Rattle.g4_predict.specs.declared.path.Looked.{Looked}
use Rattle.g4_predict.specs.Paths.{looked_of}
use Rattle.g4_learned.specs.Stored.{stored_entry}
use Rattle.g4_learned.proofs.Storing.{entries_more}
use Rattle.g4_learned.proofs.path.stored_entries.Goals as goal

pub loop-entry-preserved : goal.loop-entry-preserved
loop-entry-preserved c =
    entries_more c.args.net.now c.loop-entry.entries.items _ c.loop-entry.yielded c.in-Some.entry c.in_ok-stored.stored
    c.in_ok-push_back.ensures.items c.in_ok-stored.ensures c.loop-entry.invariant

pub returns : goal.returns
returns c =
    let end = YieldsList-end (YieldsList-from_vec {s = c.into_iter-entry-iterator.result} c.args.looked.items (search rules)
    (search rules)) c.loop-entry.yielded c.loop-entry.entry-iterator c.loop-entry.yielded_by c.next.result c.next.new.self
    c.in-None.is c.next.ensures.steps in
    let all : c.loop-entry.yielded ≡ c.args.looked.items = sym (map-id c.loop-entry.yielded) ∙ end.0 in
    c.loop-entry.invariant ∙ ap (λ (entries : List Looked). map (stored_entry c.args.net.now) (map looked_of entries)) all
