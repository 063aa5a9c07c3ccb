use Rattle.std.proofs.Common.{◌≡◌, drop, length}
use Rattle.g4_states.specs.Drafts.{linked}
use Rattle.g4_states.proofs.draft.link.Given as goal

abbrev pub invariant-loop-last : goal.invariant-loop-last
invariant-loop-last g l = record {
  size : length l.states.items ≡ length l.initial.states.items;
  made : linked l.to (drop l.last-index l.lasts) l.states.items ≡ linked l.to l.lasts l.initial.states.items;
}
