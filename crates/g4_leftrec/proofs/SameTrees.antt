-- A tree whose atoms are kept is the same tree.
use Rattle.std.proofs.Common.{◌≡◌, refl, ap, ◌∙◌}
use Rattle.g4_source.specs.Elements.{Element, atom, block, Elements, empty, then, Alternatives, none, or}
use Rattle.g4_source.specs.Bind.{bind, in_order_bind, either_bind}

module _ {A : Type 0} where
  mutual
    -- an element
    same : (x : Element A) → bind (λ (a : A). atom a) x ≡ x
    same (atom a) = refl
    same (block label repeat xs) = ap (block label repeat) (same_either xs)

    -- elements one after another
    pub same_in_order : (xs : Elements A) → in_order_bind (λ (a : A). atom a) xs ≡ xs
    same_in_order empty = refl
    same_in_order (then x xs) = ap (λ (y : Element A). then y (in_order_bind (λ (a : A). atom a) xs)) (same x)
        ∙ ap (then x) (same_in_order xs)

    -- alternatives
    same_either : (xs : Alternatives A) → either_bind (λ (a : A). atom a) xs ≡ xs
    same_either none = refl
    same_either (or x xs) = ap (λ (y : Elements A). or y (either_bind (λ (a : A). atom a) xs)) (same_in_order x)
        ∙ ap (or x) (same_either xs)
