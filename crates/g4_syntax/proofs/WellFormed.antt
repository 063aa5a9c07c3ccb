-- The short texts of an expression's parts can follow one another.
use Rattle.std.proofs.Common.{◌≡◌, List, [], ◌∷◌, ◌++◌, Bool, true, false, not, ◌&&◌, ◌||◌, refl}
use Rattle.g4_syntax.specs.Notation.{Spelled, Nonterminal, element, token_set, lexer_element, character_set, more_names, Expression, one, ◌▸◌, ◌∣◌, optional, repeated, part}
use Rattle.g4_syntax.specs.Productions.{production, grammar}
use Rattle.g4_syntax.specs.Trees.{can_be_empty, begins_there}
use Rattle.g4_syntax.proofs.Truths.{and_first_true, and_second_true, not_true}
use Rattle.g4_syntax.proofs.Extends.{extends_there, covers_first}
use Rattle.g4_syntax.proofs.Local.{Allowed, allowed_of}
use Rattle.g4_syntax.proofs.Samples.{sample, sample_empty}

-- whether short texts of the parts of the expression can follow one another as the expression has them
abbrev pub is_well_formed : Expression → Bool
is_well_formed (one t) = true
is_well_formed (x ▸ y) = is_well_formed x && (is_well_formed y && not (extends_there x (sample y)))
is_well_formed (x ∣ y) = is_well_formed x && (is_well_formed y && (can_be_empty y || begins_there x (sample x)))
is_well_formed (optional x) = is_well_formed x
is_well_formed (repeated x) = is_well_formed x
is_well_formed (part n) = true

-- the grammar is well formed
pub grammar_well_formed : is_well_formed grammar ≡ true
grammar_well_formed = refl

-- the productions are well formed
pub part_well_formed : (n : Nonterminal) → is_well_formed (production n) ≡ true
part_well_formed element = refl
part_well_formed token_set = refl
part_well_formed lexer_element = refl
part_well_formed character_set = refl
part_well_formed more_names = refl

-- of a well-formed expression the first of two is well formed
pub first_well_formed : (x y : Expression) → is_well_formed (x ▸ y) ≡ true → is_well_formed x ≡ true
first_well_formed x y well = and_first_true (is_well_formed x) (is_well_formed y && not (extends_there x (sample y))) well

-- of a well-formed expression the second of two is well formed
pub second_well_formed : (x y : Expression) → is_well_formed (x ▸ y) ≡ true → is_well_formed y ≡ true
second_well_formed x y well =
    and_first_true (is_well_formed y) (not (extends_there x (sample y)))
    (and_second_true (is_well_formed x) (is_well_formed y && not (extends_there x (sample y))) well)

-- of a well-formed expression the first alternative is well formed
pub left_well_formed : (x y : Expression) → is_well_formed (x ∣ y) ≡ true → is_well_formed x ≡ true
left_well_formed x y well = and_first_true (is_well_formed x) (is_well_formed y && (can_be_empty y || begins_there x (sample x))) well

-- of a well-formed expression the second alternative is well formed
pub right_well_formed : (x y : Expression) → is_well_formed (x ∣ y) ≡ true → is_well_formed y ≡ true
right_well_formed x y well =
    and_first_true (is_well_formed y) (can_be_empty y || begins_there x (sample x))
    (and_second_true (is_well_formed x) (is_well_formed y && (can_be_empty y || begins_there x (sample x))) well)

-- a short text of the second of two does not extend the first
no_way_on : (x y : Expression) → is_well_formed (x ▸ y) ≡ true → extends_there x (sample y) ≡ false
no_way_on x y well =
    not_true (extends_there x (sample y)) (and_second_true (is_well_formed y) (not (extends_there x (sample y)))
    (and_second_true (is_well_formed x) (is_well_formed y && not (extends_there x (sample y))) well))

-- of two alternatives the second can be empty, or a short text of the first begins it
pub one_begins : (x y : Expression) → is_well_formed (x ∣ y) ≡ true → (can_be_empty y || begins_there x (sample x)) ≡ true
one_begins x y well =
    and_second_true (is_well_formed y) (can_be_empty y || begins_there x (sample x))
    (and_second_true (is_well_formed x) (is_well_formed y && (can_be_empty y || begins_there x (sample x))) well)

-- a text that does not extend the first of two can follow it, and if it is empty, what may follow both
after_either : (x y : Expression) (w rest : List Spelled) → (w ≡ [] → can_be_empty y ≡ true) → extends_there x w ≡ false
    → Allowed (x ▸ y) rest → Allowed x (w ++ rest)
after_either x y [] rest can none allowed = allowed_of (x ▸ y) x rest (covers_first x y (can refl)) allowed
after_either x y (t ∷ w) rest can none allowed = none

-- a short text of the second can follow a text of the first
pub after_sample : (x y : Expression) (rest : List Spelled) → is_well_formed (x ▸ y) ≡ true → Allowed (x ▸ y) rest
    → Allowed x (sample y ++ rest)
after_sample x y rest well allowed = after_either x y (sample y) rest (sample_empty y) (no_way_on x y well) allowed
