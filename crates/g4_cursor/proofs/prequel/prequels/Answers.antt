use Rattle.std.proofs.Common.{refl, sym, ◌∙◌, append-nil}
use Rattle.g4_cursor.proofs.Turning.{begun, turn, end_turns, fewer, one_item}
use Rattle.g4_cursor.specs.Prequels.{prequel_of, with_kept, prequels_of}
use Rattle.g4_cursor.proofs.prequel.prequels.Goals as goal

pub loop-cursor-init : goal.loop-cursor-init
loop-cursor-init c = begun (λ tree. rw c.new-prequels.ensures.items refl)

pub loop-cursor-preserved-in-Continue-branch-3 : goal.loop-cursor-preserved-in-Continue-branch-3
loop-cursor-preserved-in-Continue-branch-3 c =
    turn c.loop-cursor.invariant (sym c.is_at_prequel.ensures ∙ c.loop-cursor-test.true) c.in_ok-prequel.ensures
    (λ a rest p. one_item _ _ (prequels_of rest) (with_kept (prequel_of a) (prequels_of rest)) c.in-Some.prequel
    (rw (← p, c.in-Some.is) refl) c.in_ok-push.ensures.items)

pub loop-cursor-smaller-in-Continue-branch-3 : goal.loop-cursor-smaller-in-Continue-branch-3
loop-cursor-smaller-in-Continue-branch-3 c = fewer (sym c.is_at_prequel.ensures ∙ c.loop-cursor-test.true) c.in_ok-prequel.ensures

pub loop-cursor-preserved : goal.loop-cursor-preserved
loop-cursor-preserved c = turn c.loop-cursor.invariant (sym c.is_at_prequel.ensures ∙ c.loop-cursor-test.true) c.in_ok-prequel.ensures
    (λ a rest p. rw (← p, c.in_default.is) refl)

pub loop-cursor-smaller : goal.loop-cursor-smaller
loop-cursor-smaller c = fewer (sym c.is_at_prequel.ensures ∙ c.loop-cursor-test.true) c.in_ok-prequel.ensures

pub returns : goal.returns
returns c = end_turns c.loop-cursor.invariant (sym c.is_at_prequel.ensures ∙ c.loop-cursor-test.false) (c.new.ensures ∙ sym (append-nil _))
