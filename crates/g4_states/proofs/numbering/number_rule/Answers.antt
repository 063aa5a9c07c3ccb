use Rattle.std.proofs.Common.{arith, refl}
use Rattle.g4_states.proofs.Numbered.{as_many_places, must_decide, one_start, places_within, several_starts}
use Rattle.g4_states.proofs.numbering.number_rule.Goals as goal

pub mark-requires-clause-within : goal.mark-requires-clause-within
mark-requires-clause-within g c =
    places_within c.args.states.now c.args.rule c.args.numbering.now c.args.written.now.items c.add_numbers.new.written.items
    c.as_slice-starts.result.now c.len-first.result c.args.end c.requires.fit c.requires.heads
    (λ p low high. c.requires.blank p low high) (omega (arith, c.len-first.ensures, c.args.written.now.ok.0))
    c.in_ok-add_numbers.ensures c.as_slice-starts.ensures c.index-states-start.result c.as_slice.result.now c.in-Decision.firsts
    c.if-starts-eq1.false c.index-states-start.is c.in-Decision.is c.as_slice.ensures

pub mark-requires-clause-many : goal.mark-requires-clause-many
mark-requires-clause-many g c =
    as_many_places c.args.states.now c.args.rule c.args.numbering.now c.args.written.now.items c.add_numbers.new.written.items
    c.as_slice-starts.result.now c.len-first.result c.args.end c.requires.fit c.requires.heads
    (λ p low high. c.requires.blank p low high) (omega (arith, c.len-first.ensures, c.args.written.now.ok.0))
    c.in_ok-add_numbers.ensures c.as_slice-starts.ensures c.index-states-start.result c.as_slice.result.now c.in-Decision.firsts
    c.if-starts-eq1.false c.index-states-start.is c.in-Decision.is c.as_slice.ensures

pub returns-then-starts-eq1 : goal.returns-then-starts-eq1
returns-then-starts-eq1 g c =
    one_start c.args.states.now c.args.rule c.args.numbering.now c.args.written.now.items c.add_numbers.new.written.items
    c.as_slice-starts.result.now c.len-first.result c.args.end c.requires.fit c.requires.heads
    (λ p low high. c.requires.blank p low high) (omega (arith, c.len-first.ensures, c.args.written.now.ok.0))
    c.in_ok-add_numbers.ensures c.as_slice-starts.ensures _ c.if-starts-eq1.true refl

pub returns-in-Decision : goal.returns-in-Decision
returns-in-Decision g c =
    several_starts c.args.states.now c.args.rule c.args.numbering.now c.args.written.now.items c.add_numbers.new.written.items
    c.as_slice-starts.result.now c.len-first.result c.args.end c.requires.fit c.requires.heads
    (λ p low high. c.requires.blank p low high) (omega (arith, c.len-first.ensures, c.args.written.now.ok.0))
    c.in_ok-add_numbers.ensures c.as_slice-starts.ensures c.index-states-start.result c.as_slice.result.now c.in-Decision.firsts
    c.if-starts-eq1.false c.index-states-start.is c.in-Decision.is c.as_slice.ensures _ c.mark.ensures

pub returns-in_default : goal.returns-in_default
returns-in_default g c =
    must_decide c.args.states.now c.args.rule c.args.numbering.now c.args.written.now.items c.add_numbers.new.written.items
    c.as_slice-starts.result.now c.len-first.result c.args.end c.requires.fit c.requires.heads
    (λ p low high. c.requires.blank p low high) (omega (arith, c.len-first.ensures, c.args.written.now.ok.0))
    c.in_ok-add_numbers.ensures c.as_slice-starts.ensures c.index-states-start.result
    c.if-starts-eq1.false c.index-states-start.is (λ firsts is. c.in_default.not-Decision firsts is)
