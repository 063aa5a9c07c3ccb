-- Blocks whose alternatives are laid side by side.
use Rattle.std.proofs.Common.{◌≡◌, ℕ, ◌+◌, ◌≤◌, List, length, map, refl}
use Rattle.g4_source.specs.declared.element.Repeat.{Repeat}
use Rattle.g4_source.specs.declared.element.Repeat.TheVariants.{Once, Optional, Star, Plus}
use Rattle.g4_source.specs.Elements.{Elements, either}
use Rattle.g4_layout.specs.Size.{states_of_bodies_by}
use Rattle.g4_states.specs.Drafts.{AreApart, states_after, states_of_block_by}
use Rattle.g4_states.proofs.Counts.{count_several}

-- those of a block with a sign are
pub apart_with_sign : (repeat : Repeat) (n : ℕ) → (repeat ≡ Once → ⊥) → 1 ≤ n → AreApart repeat n
apart_with_sign Once n signed low = absurd (signed refl)
apart_with_sign (Optional sign) n signed low = low
apart_with_sign (Star sign) n signed low = low
apart_with_sign (Plus sign) n signed low = low

-- how many states such a block has
pub count_apart : {X A : Type 0} (weight : A → ℕ) (tree : X → Elements A) (xs : List X) (repeat : Repeat) → AreApart repeat (length xs) →
    states_of_block_by weight repeat (either (map tree xs)) ≡ states_of_bodies_by weight (either (map tree xs)) + states_after repeat
count_apart weight tree xs Once many = count_several weight tree xs many
count_apart weight tree xs (Optional sign) many = refl
count_apart weight tree xs (Star sign) many = refl
count_apart weight tree xs (Plus sign) many = refl
