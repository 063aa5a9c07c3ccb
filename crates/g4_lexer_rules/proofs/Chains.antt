-- Characters one after another, as the code makes them.
use Rattle.std.proofs.Common.{◌≡◌, ℕ, ◌+◌, ◌<◌, List, [], ◌∷◌, ◌++◌, length, map, take, get_or, refl, ◌∙◌, ap, None, Vec, Global}
use Rattle.std.proofs.lemmas.List.{map-append}
use Rattle.g4_source.specs.declared.element.Repeat.TheVariants.{Once}
use Rattle.g4_source.specs.declared.element.Alternative.{Alternative as Side, roll-Alternative}
use Rattle.g4_source.specs.declared.element.Element.{Element as Node}
use Rattle.g4_source.specs.declared.element.Element.TheVariants as nodes
use Rattle.g4_source.specs.Elements.{Element, atom, block, only, either}
use Rattle.g4_source.specs.Elements as trees
use Rattle.g4_source.specs.Trees.{element_of, alternative_of, in_order}
use Rattle.g4_source.proofs.Trees.{of_atom, of_block, of_elements}
use Rattle.g4_lexer_rules.specs.declared.step.LexerStep.{LexerStep}
use Rattle.g4_lexer_rules.specs.declared.step.LexerStep.TheVariants.{Character}
use Rattle.g4_lexer_rules.specs.Steps.{characters_in_order, chained}
use Rattle.g4_lexer_rules.proofs.Lists.{image_more}

-- the atom of a character
abbrev pub character_of : ℕ → Element LexerStep
character_of c = atom (Character c)

-- one character more
pub character_more : (cs : List ℕ) (i c : ℕ) (old new : List (Node LexerStep)) → i < length cs → c ≡ get_or cs i c
    → new ≡ old ++ nodes.Atom (Character c) ∷ [] → map element_of old ≡ map character_of (take i cs) →
    map element_of new ≡ map character_of (take (i + 1) cs)
character_more cs i c old new less at push so_far =
    image_more character_of cs i c (element_of (nodes.Atom (Character c))) (map element_of old) (map element_of new) less at
    (of_atom (Character c))
    (ap (map element_of) push ∙ map-append element_of old (nodes.Atom (Character c) ∷ [])) so_far

-- the atoms of characters, one after another
in_order_of : (cs : List ℕ) → in_order (map character_of cs) ≡ characters_in_order cs
in_order_of [] = refl
in_order_of (c ∷ cs) = ap (trees.then (character_of c)) (in_order_of cs)

-- a block of these characters alone
pub is_chained : (cs : List ℕ) (elements : Vec (Node LexerStep) Global) (alternatives : Vec (Side LexerStep) Global)
    → map element_of elements.items ≡ map character_of cs →
    alternatives.items ≡ roll-Alternative LexerStep (record { elements = elements }) ∷ []
    → element_of (nodes.Block None Once alternatives) ≡ chained cs
is_chained cs elements alternatives made is =
    of_block None Once alternatives ∙ ap (block None Once)
    (ap (λ (xs : List (Side LexerStep)). either (map alternative_of xs)) is
    ∙ ap only (of_elements elements ∙ (ap in_order made ∙ in_order_of cs)))
