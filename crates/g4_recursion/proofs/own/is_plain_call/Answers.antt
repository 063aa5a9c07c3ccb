use Rattle.std.proofs.Common.{◌≡◌, sym, ap, ◌∙◌}
use Rattle.g4_source.specs.Elements.{atom}
use Rattle.g4_source.specs.Trees.{element_of}
use Rattle.g4_source.proofs.Trees.{of_atom, of_block}
use Rattle.g4_recursion.specs.declared.lead.Lead.{Lead}
use Rattle.g4_recursion.specs.declared.lead.Lead.TheVariants.{Call}
use Rattle.g4_recursion.proofs.own.is_plain_call.Goals as goal

pub returns-in-Atom : goal.returns-in-Atom
returns-in-Atom c =
    let tree : element_of c.args.element.now ≡ atom c.in-Atom.lead = ap element_of c.in-Atom.is ∙ of_atom c.in-Atom.lead in (
      λ h. let e : c.in-Atom.lead ≡ Call c.args.number = c.is_call.ensures.0 h in
          tree ∙ ap (λ (l : Lead). atom l) e,
      λ h. let e : atom c.in-Atom.lead ≡ atom (Call c.args.number) = sym tree ∙ h in
          c.is_call.ensures.1 (cc),
    )

pub returns-in-Block : goal.returns-in-Block
returns-in-Block c =
    let tree = ap element_of c.in-Block.is ∙ of_block c.in-Block.field-0 c.in-Block.field-1 c.in-Block.field-2 in
    (λ h. absurd (cc), λ h. absurd (let e = sym tree ∙ h in cc))
