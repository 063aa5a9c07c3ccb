use Rattle.std.proofs.Common.{◌≡◌, refl, sym, ◌∙◌}
use Rattle.g4_cursor.proofs.Moving.{upon, so, two, led}
use Rattle.g4_cursor.proofs.Ors.{either_of_three, or_none}
use Rattle.g4_cursor.proofs.Turning.{start, sign_over, end_turns, fewer_then}
use Rattle.g4_cursor.specs.Options.{says_right, one_says_right, commas_say_right}
use Rattle.g4_cursor.proofs.options.element_options.Goals as goal

pub loop-cursor-init : goal.loop-cursor-init
loop-cursor-init c = start

pub loop-cursor-preserved : goal.loop-cursor-preserved
loop-cursor-preserved c = sign_over c.loop-cursor.invariant (sym c.is_at.ensures ∙ c.loop-cursor-test.true)
    c.take-in-loop-cursor.ensures c.in_ok-says.ensures
    (λ a b rest p. rw p (either_of_three c.loop-cursor.right (says_right b) (one_says_right rest)))

pub loop-cursor-smaller : goal.loop-cursor-smaller
loop-cursor-smaller c = fewer_then (sym c.is_at.ensures ∙ c.loop-cursor-test.true) c.take-in-loop-cursor.ensures c.in_ok-says.ensures

pub returns : goal.returns
returns c =
    let ended = end_turns {value = c.loop-cursor.right} c.loop-cursor.invariant
    (led _ _ _ refl ∙ sym c.is_at.ensures ∙ c.loop-cursor-test.false) (or_none _) in
    let options = two {R = λ tree. c.loop-cursor.right ≡ commas_say_right tree} c.in_ok-right.ensures ended (λ a b p q. q ∙ rw p refl) in
    upon c.take.ensures (upon options (so c.take-2.ensures (λ greater s os r less q. r)))
