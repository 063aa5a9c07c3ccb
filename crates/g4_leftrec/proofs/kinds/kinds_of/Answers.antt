use Rattle.std.proofs.Common.{◌≡◌, ℕ, ◌+◌, length, map, arith}
use Rattle.std.proofs.lemmas.List.{length_push}
use Rattle.g4_source.specs.Trees.{alternative_of}
use Rattle.g4_leftrec.specs.OwnCalls.{Part, operator_of, primary_of}
use Rattle.g4_leftrec.specs.OwnSteps.{calls}
use Rattle.g4_leftrec.specs.Rewriting.{StepIn, operator_form, primary_form}
use Rattle.g4_leftrec.proofs.Lists.{added_more}
use Rattle.g4_leftrec.proofs.kinds.kinds_of.Goals as goal

pub loop-alternative-preserved : goal.loop-alternative-preserved
loop-alternative-preserved c =
    let k : ℕ = c.args.rule in
    let n : ℕ = c.args.count in
    let x = c.in-Some.alternative in
    let j : ℕ = c.in-Some-checked_add.next in
    let loop = c.loop-alternative in
    let seen = loop.yielded in
    let more : j ≡ length seen + 1 = omega (arith, c.in-Some-checked_add.ensures, loop.invariant.number) in
    let old = loop.kinds in
    let new = c.add_alternative.new.kinds in
    let added = c.in_ok-add_alternative.ensures in
    record {
      number = omega (arith, more, length_push seen x);
      primaries = added_more (primary_form k n) (primary_of (calls k)) seen x j (map alternative_of old.primaries.items)
          (map alternative_of new.primaries.items) more added.primaries loop.invariant.primaries;
      operators = added_more (operator_form k n) (operator_of (calls k)) seen x j (map alternative_of old.operators.items)
          (map alternative_of new.operators.items) more added.operators loop.invariant.operators;
      starts = added_more (λ (x : Part StepIn). x.number) (primary_of (calls k)) seen x j old.starts.items new.starts.items more
          added.starts loop.invariant.starts;
    }
