use Rattle.std.proofs.Common.{length, ap, ◌∙◌, arith}
use Rattle.std.proofs.lemmas.List.{length_push}
use Rattle.g4_classes.proofs.LeastOnes.{member_more}
use Rattle.g4_classes.proofs.least.least_members.Goals as goal

pub index-requires : goal.index-requires
index-requires c =
    let within = c.requires c.loop-block.block-index 0 c.loop-block-test.true in
    omega (arith, within, c.in_ok-least.ensures.count, c.in_ok-least.least.ok.0)

pub loop-block-preserved : goal.loop-block-preserved
loop-block-preserved c =
    let loop = c.loop-block in
    let least = c.in_ok-least.least.items in
    let is = c.in_ok-push.ensures.items in
    let many = loop.invariant.count in
    let within = c.requires loop.block-index 0 c.loop-block-test.true in
    record {
      count = omega (arith, ap length is ∙ length_push loop.members.items c.index.result.now, many);
      each = member_more c.args.blocks.now least loop.members.items c.push.new.self.items loop.block-index c.index.result.now is many
          c.index.ensures (omega (arith, within, c.in_ok-least.ensures.count)) loop.invariant.each;
    }
