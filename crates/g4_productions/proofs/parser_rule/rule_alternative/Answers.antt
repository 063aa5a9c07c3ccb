use Rattle.std.proofs.Common.{refl, ◌∙◌, ap, ◌≡◌, ◌||◌, Bool, List}
use Rattle.g4_source.specs.Elements.{Element}
use Rattle.g4_source.specs.declared.atom.Atom.{Atom}
use Rattle.g4_cursor.proofs.Moving.{so, two, upon}
use Rattle.g4_source.specs.Trees.{in_order}
use Rattle.g4_productions.specs.ParserElements.{alternative_right, alternative_elements}
use Rattle.g4_productions.proofs.parser_rule.rule_alternative.Goals as goal

pub returns : goal.returns
returns c = upon (two {R = λ x. ((c.in_ok-begins.begins || c.in_ok-list.list.right) ≡ alternative_right x)
    × (c.new.result ≡ alternative_elements x)} c.in_ok-begins.ensures c.in_ok-list.ensures
    (λ options xs p q. (
      rw (p, ap (λ (z : List (Element Atom) × Bool). z.1) q) refl,
      c.new.ensures
          ∙ ap in_order (ap (λ (z : List (Element Atom) × Bool). z.0) q),
    ))) (so c.in_ok-label.ensures (λ l r x p. rw (r, p.0, p.1) refl))
