use Rattle.std.proofs.Common.{◌≡◌, ℕ, ◌+◌, drop, length, arith, sym, subst}
use Rattle.g4_states.specs.Numberings.{AreWrittenBefore, CanAllBeNumbered}
use Rattle.g4_states.proofs.Numbered.{all_written, can_within, next_can, none_can, one_more_written, still_blank}
use Rattle.g4_states.proofs.numbering.number_rules.Goals as goal

pub overflow_cast-k : goal.overflow_cast-k
overflow_cast-k g c =
    let room = can_within c.args.states.now c.args.first _ c.args.ends.now c.args.numberings.now c.requires.fit in
    omega (arith, room, c.requires.heads, c.requires.few, c.loop-k-test.true)

pub number_rule-requires-clause-blank : goal.number_rule-requires-clause-blank
number_rule-requires-clause-blank g c =
    still_blank c.args.states.now _ _ c.args.first (c.args.first + c.loop-k.k) (length c.args.numberings.now) _ _ _ _
    c.loop-k.invariant.made (omega arith) (omega (arith, c.loop-k-test.true)) c.requires.heads
    (λ p low high. c.requires.blank p low high)

pub loop-k-preserved : goal.loop-k-preserved
loop-k-preserved g c =
    let next = next_can c.args.states.now (c.args.first + c.loop-k.k) _ c.loop-k.k c.args.ends.now c.args.numberings.now
    c.index-numberings-k.result c.loop-k-test.true c.index-numberings-k.is c.loop-k.invariant.fit in
    let one = c.in_ok-number_rule.ensures in
    let onward : c.args.first + c.loop-k.k + 1 ≡ c.args.first + (c.loop-k.k + 1) = omega arith in
    record {
      fit = subst (λ (r : ℕ). CanAllBeNumbered c.args.states.now r (length c.number_rule.new.written.items)
          (drop (c.loop-k.k + 1) c.args.ends.now) (drop (c.loop-k.k + 1) c.args.numberings.now)) onward
          (subst (λ (n : ℕ). CanAllBeNumbered c.args.states.now (c.args.first + c.loop-k.k + 1) n
          (drop (c.loop-k.k + 1) c.args.ends.now) (drop (c.loop-k.k + 1) c.args.numberings.now)) (sym one.size) next.3);
      made = subst (λ (r : ℕ). AreWrittenBefore c.args.states.now c.args.written.now.items c.number_rule.new.written.items
          c.args.first r c.args.ends.now (drop (c.loop-k.k + 1) c.args.ends.now) c.args.numberings.now
          (drop (c.loop-k.k + 1) c.args.numberings.now)) onward
          (one_more_written c.args.states.now _ _ _ c.args.first (c.args.first + c.loop-k.k) _ _ _ _ _ c.index-numberings-k.result
          (omega arith) (omega (arith, c.loop-k-test.true, c.requires.heads))
          (rw (next.0, next.1) at c.loop-k.invariant.made) next.2.up one);
    }

pub returns : goal.returns
returns g c =
    let done = none_can c.args.states.now (c.args.first + c.loop-k.k) _ c.loop-k.k c.args.ends.now c.args.numberings.now
    c.loop-k-test.false c.loop-k.invariant.fit in
    all_written c.args.states.now _ _ c.args.first (c.args.first + c.loop-k.k) _ _ (omega (arith, c.loop-k-test.false))
    (rw (done.0, done.1) at c.loop-k.invariant.made) done.2
