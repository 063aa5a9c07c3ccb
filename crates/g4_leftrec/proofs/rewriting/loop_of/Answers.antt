use Rattle.std.proofs.Common.{map, sym, ap, ◌∙◌}
use Rattle.g4_source.specs.Elements.{Elements, empty}
use Rattle.g4_source.specs.Marks.{onto_empty, onto}
use Rattle.g4_source.specs.Trees.{alternative_of, element_of, in_order}
use Rattle.g4_leftrec.specs.Rewriting.{StepIn, plain_alternative, turns_of}
use Rattle.g4_leftrec.proofs.Made.{one_at_end}
use Rattle.g4_leftrec.proofs.rewriting.loop_of.Goals as goal

pub returns : goal.returns
returns c =
    let primaries = map alternative_of c.args.primaries.items in
    let front = in_order (map element_of c.in_ok-elements.elements.items) in
    let all = c.new.ensures
    ∙ (ap (λ ys. in_order (map element_of ys)) c.in_ok-push.ensures.items
    ∙ (sym (onto_empty (in_order (map element_of _)))
    ∙ (one_at_end c.in_ok-elements.elements.items c.turns_of.result empty
    ∙ (ap (λ (y : Elements StepIn). onto front y) c.turns_of.ensures
    ∙ c.in_ok-elements.ensures (turns_of (map alternative_of c.args.operators.items)))))) in
    ap plain_alternative all
