use Rattle.std.proofs.Common.{refl, sym, ◌∙◌, ◌≡◌, append_assoc, append-nil, ◌++◌, arith}
use Rattle.g4_syntax.specs.Notation.{a_set, excluded}
use Rattle.g4_cursor.proofs.Moving.{so, two, upon, first, second, inside, led, ends, asks_same}
use Rattle.g4_cursor.proofs.Turning.{start, end_turns, sign_over, fewer, fewer_then, no_more}
use Rattle.g4_productions.specs.LexerElements.{excluded_ranges, ranges_between, excluded_after}
use Rattle.g4_productions.proofs.Listing.{all_more}
use Rattle.g4_productions.proofs.excluded.+brackets.Goals as goal

pub add_brackets-returns-then-not-open : goal.add_brackets-returns-then-not-open
add_brackets-returns-then-not-open t c = ends (sym c.open.ensures.opened ∙ c.if-not-open.true) c.open.ensures.moves

pub add_brackets-add_excluded-requires : goal.add_brackets-add_excluded-requires
add_brackets-add_excluded-requires t c = omega
    (arith, fewer (sym c.open.ensures.opened ∙ c.if-not-open.false) c.open.ensures.moves)

pub add_brackets-add_excluded-requires-in-loop-cursor : goal.add_brackets-add_excluded-requires-in-loop-cursor
add_brackets-add_excluded-requires-in-loop-cursor t c =
    omega (
      arith,
      fewer (sym c.open.ensures.opened ∙ c.if-not-open.false) c.open.ensures.moves,
      no_more c.in_ok-add_excluded.ensures,
      c.loop-cursor.invariant.less,
      no_more c.take.ensures,
    )

pub add_brackets-loop-cursor-init : goal.add_brackets-loop-cursor-init
add_brackets-loop-cursor-init t c = start

pub add_brackets-loop-cursor-preserved : goal.add_brackets-loop-cursor-preserved
add_brackets-loop-cursor-preserved t c = sign_over c.loop-cursor.invariant (sym c.is_at.ensures ∙ c.loop-cursor-test.true)
    c.take.ensures c.in_ok-add_excluded-2.ensures (λ bar s rest p. all_more _ (excluded_ranges s) _ (excluded_after rest) p)

pub add_brackets-loop-cursor-smaller : goal.add_brackets-loop-cursor-smaller
add_brackets-loop-cursor-smaller t c = fewer_then (sym c.is_at.ensures ∙ c.loop-cursor-test.true) c.take.ensures
    c.in_ok-add_excluded-2.ensures

pub add_brackets-returns : goal.add_brackets-returns
add_brackets-returns t c = upon c.open.ensures.moves
    (upon (two {R = λ tree. c.loop-cursor.ranges.items ≡ c.args.ranges.now.items ++ ranges_between tree} c.in_ok-add_excluded.ensures
    (end_turns c.loop-cursor.invariant (led _ _ _ refl ∙ sym c.is_at.ensures ∙ c.loop-cursor-test.false) (sym (append-nil _)))
    (λ s ss p q. q ∙ rw p (append_assoc _ (excluded_ranges s) (excluded_after ss)))) (so c.take-2.ensures
    (λ closing r sets q opening p. q)))

pub add_excluded-returns-then-is_at : goal.add_excluded-returns-then-is_at
add_excluded-returns-then-is_at t c = inside
    (first (led _ _ _ refl ∙ asks_same _ excluded _ (λ token. refl) ∙ sym c.is_at.ensures ∙ c.if-is_at.true) c.in_ok-add_characters.ensures)

pub add_excluded-returns-then-is_at-2 : goal.add_excluded-returns-then-is_at-2
add_excluded-returns-then-is_at-2 t c = inside
    (second (led _ _ _ refl ∙ asks_same _ excluded _ (λ token. refl) ∙ sym c.is_at.ensures ∙ c.if-is_at.false)
    (first (asks_same _ a_set _ (λ token. refl) ∙ sym c.is_at-2.ensures ∙ c.if-is_at-2.true)
    (so c.in_ok-set.ensures (λ tree p. c.in_ok-extend_from_slice.ensures.items ∙ rw (c.ranges-then-is_at-2.ensures.value, p) refl))))

pub add_excluded-returns : goal.add_excluded-returns
add_excluded-returns t c = inside (second (led _ _ _ refl ∙ asks_same _ excluded _ (λ token. refl) ∙ sym c.is_at.ensures
    ∙ c.if-is_at.false) (second (asks_same _ a_set _ (λ token. refl) ∙ sym c.is_at-2.ensures ∙ c.if-is_at-2.false)
    c.in_ok-add_brackets.ensures))
