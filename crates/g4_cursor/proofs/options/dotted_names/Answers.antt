use Rattle.std.proofs.Common.{refl, sym, ◌∙◌}
use Rattle.g4_cursor.proofs.Turning.{start_list, sign_turn, sign_end, fewer_then}
use Rattle.g4_cursor.specs.Options.{names_after_dots}
use Rattle.g4_cursor.proofs.options.dotted_names.Goals as goal

pub loop-cursor-init : goal.loop-cursor-init
loop-cursor-init c = start_list

pub loop-cursor-preserved : goal.loop-cursor-preserved
loop-cursor-preserved c = sign_turn names_after_dots c.loop-cursor.invariant (sym c.is_at.ensures ∙ c.loop-cursor-test.true)
    c.take.ensures c.in_ok-name.ensures (λ a b rest p. rw p refl) c.in_ok-push.ensures.items

pub loop-cursor-smaller : goal.loop-cursor-smaller
loop-cursor-smaller c = fewer_then (sym c.is_at.ensures ∙ c.loop-cursor-test.true) c.take.ensures c.in_ok-name.ensures

pub returns : goal.returns
returns c = sign_end names_after_dots c.in_ok-first.ensures c.loop-cursor.invariant (sym c.is_at.ensures ∙ c.loop-cursor-test.false)
    refl c.in_ok-names.ensures.items c.new.ensures (λ a b p. rw p refl)
