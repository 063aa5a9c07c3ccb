use Rattle.std.proofs.Common.{◌≡◌, ◌+◌, ◌<◌, ◌≤◌, ℕ, List, Contains, length, get_or, take, true, sym, subst, slice_set, arith, rules}
use Rattle.g4_closure.specs.Marks.{AreMarks}
use Rattle.g4_closure.proofs.Marking.{marked_more, marked_past, take_next}
use Rattle.g4_closure.proofs.marks.marks_of.Goals as goal

pub loop-number-preserved-then-place-len : goal.loop-number-preserved-then-place-len
loop-number-preserved-then-place-len c =
    let k = c.loop-number.number-index in
    let numbers : List ℕ = c.args.numbers.now in
    let past : c.args.count ≤ get_or numbers k 0 =
    omega (arith, c.if-place-len.true, c.len.ensures, c.loop-number.invariant.count, c.loop-number.marks.ok.0) in
    subst (λ (xs : List ℕ). AreMarks (Contains xs) c.args.count c.loop-number.marks.items)
    (sym (take_next numbers k c.loop-number-test.true))
    (marked_past (take k numbers) (get_or numbers k 0) c.args.count c.loop-number.marks.items c.loop-number.invariant past)

pub loop-number-preserved : goal.loop-number-preserved
loop-number-preserved c =
    let k = c.loop-number.number-index in
    let numbers : List ℕ = c.args.numbers.now in
    let within : get_or numbers k 0 < c.args.count =
    omega (arith, c.if-place-len.false, c.len.ensures, c.loop-number.invariant.count, c.loop-number.marks.ok.0) in
    subst (λ (xs : List ℕ). AreMarks (Contains xs) c.args.count (slice_set c.loop-number.marks.items (get_or numbers k 0) true))
    (sym (take_next numbers k c.loop-number-test.true))
    (marked_more (take k numbers) (get_or numbers k 0) c.args.count c.loop-number.marks.items c.loop-number.invariant within)
