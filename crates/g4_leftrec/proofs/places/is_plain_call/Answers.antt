use Rattle.std.proofs.Common.{sym, ap, ◌∙◌}
use Rattle.g4_source.specs.Elements.{Element}
use Rattle.g4_source.specs.Trees.{element_of}
use Rattle.g4_source.proofs.Trees.{of_atom, of_block}
use Rattle.g4_leftrec.specs.OwnCalls.{is_atom}
use Rattle.g4_leftrec.specs.OwnSteps.{calls}
use Rattle.g4_leftrec.specs.Rewriting.{StepIn}
use Rattle.g4_leftrec.proofs.places.is_plain_call.Goals as goal

pub returns-in-Atom : goal.returns-in-Atom
returns-in-Atom c =
    c.calls.ensures ∙ sym (ap (λ (x : Element StepIn). is_atom (calls c.args.rule) x) (ap element_of c.in-Atom.is ∙ of_atom c.in-Atom.step))

pub returns-in-Block : goal.returns-in-Block
returns-in-Block c =
    sym (ap (λ (x : Element StepIn). is_atom (calls c.args.rule) x)
    (ap element_of c.in-Block.is ∙ of_block c.in-Block.field-0 c.in-Block.field-1 c.in-Block.field-2))
