use Rattle.std.proofs.Common.{ap, map, sym, subst, ◌∙◌, ◌+◌}
use Rattle.g4_configs.specs.Configs.{Holds}
use Rattle.g4_net.specs.Prediction.{SllFrom}
use Rattle.g4_tokens.specs.TokenList.{word_of}
use Rattle.g4_predict.specs.Paths.{looked_of, verdict_of}
use Rattle.g4_predict.proofs.Ending.{seen_ended, seen_onward}
use Rattle.g4_predict.proofs.Looking.{IsSimulating, more_entries, simulated, simulating_next, simulating_start}
use Rattle.g4_predict.proofs.sll.look_on.Goals as goal

pub loop-index-init : goal.loop-index-init
loop-index-init c =
    subst (IsSimulating c.args.net.now (Holds c.args.from) c.args.k c.args.tokens.now 0 (Holds c.args.from))
    (sym (ap (map looked_of) c.new-looked.ensures.items))
    (simulating_start c.args.net.now (Holds c.args.from) c.args.k c.args.tokens.now c.requires.ready c.requires.reached c.requires.ends)

pub loop-index-preserved : goal.loop-index-preserved
loop-index-preserved c =
    subst (IsSimulating c.args.net.now (Holds c.args.from) c.args.k c.args.tokens.now _ (Holds c.in-Onward.next))
    (sym (more_entries c.loop-index.looked.items _ _ c.in_ok-push-in-Onward.ensures.items))
    (simulating_next c.args.net.now (Holds c.args.from) c.args.k c.args.tokens.now c.loop-index.index _ (Holds c.loop-index.set)
    (Holds c.in-Onward.next) c.in_ok-row-in-Onward.row (map looked_of c.loop-index.looked.items) c.loop-index-test.true
    (seen_onward c.args.net.now _ (c.args.k + c.loop-index.index) c.in_ok-seen.seen c.in-Onward.next c.in-Onward.is c.in_ok-seen.ensures)
    c.in_ok-row-in-Onward.ensures c.loop-index.invariant)

pub returns-in-Ended : goal.returns-in-Ended
returns-in-Ended c =
    subst (SllFrom c.args.net.now (Holds c.args.from) (word_of c.args.tokens.now) c.args.k (verdict_of c.in-Ended.verdict))
    (sym (more_entries c.loop-index.looked.items _ _ (c.new.ensures ∙ c.in_ok-push-in-Ended.ensures.items)))
    (simulated c.args.net.now (Holds c.args.from) c.args.k c.args.tokens.now c.loop-index.index _ (Holds c.loop-index.set)
    (map looked_of c.loop-index.looked.items) c.in-Ended.verdict c.loop-index-test.true
    (seen_ended c.args.net.now _ (c.args.k + c.loop-index.index) c.in_ok-seen.seen c.in-Ended.verdict c.in-Ended.is c.in_ok-seen.ensures)
    c.loop-index.invariant)
