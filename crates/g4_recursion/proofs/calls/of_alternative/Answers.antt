use Rattle.std.proofs.Common.{map}
use Rattle.g4_source.specs.Trees.{element_of, in_order}
use Rattle.g4_recursion.proofs.LeadsRunning.{adds_all, adds_behind}
use Rattle.g4_recursion.proofs.calls.of_alternative.Goals as goal

pub returns-in_ok-of_elements-in-Some : goal.returns-in_ok-of_elements-in-Some
returns-in_ok-of_elements-in-Some c =
    let xs = in_order (map element_of c.args.elements.now) in
    let rest = in_order (map element_of c.in-Some.rest.now) in
    λ rules operators told may.
    let null = (told c.args.number).0 (c.says.ensures.0 c.if-says.true) in
    adds_behind rules operators c.args.number xs rest c.args.calls.now.items c.of_elements.new.calls.items
    (c.in-Some.ensures operators may) null (c.in_ok-of_elements-in-Some.ensures rules told).calls

pub returns-in_ok-of_elements-in-None : goal.returns-in_ok-of_elements-in-None
returns-in_ok-of_elements-in-None c =
    let xs = in_order (map element_of c.args.elements.now) in
    λ rules operators told may.
    adds_all rules operators c.args.number xs c.args.calls.now.items c.of_elements-in-None.new.calls.items
    (c.in-None.ensures operators may) (c.in_ok-of_elements-in-None.ensures rules told).calls
