use Rattle.std.proofs.Common.{arith}
use Rattle.g4_leftrec.proofs.Made.{by_block, by_only}
use Rattle.g4_leftrec.proofs.rewriting.primary_elements.Goals as goal

pub returns-then-len-ne1 : goal.returns-then-len-ne1
returns-then-len-ne1 c = λ more. by_block c.args.primaries c.in_ok-elements.elements.items more
    (λ e. c.if-len-ne1.true (omega (arith, c.len.ensures, e))) c.in_ok-elements.ensures.items

pub returns : goal.returns
returns c = λ more. by_only c.args.primaries.items c.remove-elements.result.elements c.push.new.self.items more
    (omega (arith, c.len.ensures, c.if-len-ne1.false)) c.remove-elements.ensures.value c.in_ok-push.ensures.items
