-- To which terminals reading a composed expression comes, by those to which reading its parts does.
use Rattle.std.proofs.Common.{◌≡◌, ◌⊎◌, List, true, false, subst, inl, inr}
use Rattle.g4_syntax.specs.Notation.{Spelled, Terminal, Nonterminal, Expression, ◌▸◌, ◌∣◌, optional, repeated, part}
use Rattle.g4_syntax.specs.Productions.{production}
use Rattle.g4_syntax.specs.Trees.{Tree, begins_there, Reads, Comes, in_first, in_second, in_left, in_right, in_optional, in_turn, in_later_turn, in_part}
use Rattle.g4_syntax.proofs.Truths.{apart}
use Rattle.g4_syntax.proofs.Unique.{one_reading}

-- the first being read, it comes to those of the first and of the second
pub comes_two : {t : Terminal} {x y : Expression} (from between rest : List Spelled) (a : Tree x) → Reads a from between
    → Comes t (x ▸ y) from rest → Comes t x from rest ⊎ Comes t y between rest
comes_two from between rest a read (in_first _ _ comes) = inl comes
comes_two {t} {x} {y} from between rest a read (in_second _ other _ b again comes) =
    inr (subst (λ (l : List Spelled). Comes t y l rest) (one_reading b a from other between again read).1 comes)

-- where the first alternative begins, it comes to those of this one
pub comes_left : {t : Terminal} {x y : Expression} (from rest : List Spelled) → begins_there x from ≡ true → Comes t (x ∣ y) from rest
    → Comes t x from rest
comes_left from rest is (in_left _ _ _ comes) = comes
comes_left from rest is (in_right _ _ none _) = absurd (apart _ is none)

-- where it does not, it comes to those of the second
pub comes_right : {t : Terminal} {x y : Expression} (from rest : List Spelled) → begins_there x from ≡ false
    → Comes t (x ∣ y) from rest → Comes t y from rest
comes_right from rest none (in_left _ _ is _) = absurd (apart _ is none)
comes_right from rest none (in_right _ _ _ comes) = comes

-- what is optional comes to those of what is there
pub comes_optional : {t : Terminal} {x : Expression} (from rest : List Spelled) → Comes t (optional x) from rest → Comes t x from rest
comes_optional from rest (in_optional _ _ _ comes) = comes

-- what is left out comes to none
pub comes_absent : {t : Terminal} {x : Expression} (from rest : List Spelled) → begins_there x from ≡ false
    → Comes t (optional x) from rest → ⊥
comes_absent from rest none (in_optional _ _ is _) = apart _ is none

-- a part comes to those of its production
pub comes_inside : {t : Terminal} {n : Nonterminal} (from rest : List Spelled) → Comes t (part n) from rest
    → Comes t (production n) from rest
comes_inside from rest (in_part _ _ comes) = comes

-- a turn being read, it comes to those of this one and of the later ones
pub comes_turn : {t : Terminal} {x : Expression} (from between rest : List Spelled) (a : Tree x) → Reads a from between
    → Comes t (repeated x) from rest → Comes t x from rest ⊎ Comes t (repeated x) between rest
comes_turn from between rest a read (in_turn _ _ _ comes) = inl comes
comes_turn {t} {x} from between rest a read (in_later_turn _ other _ b _ again comes) =
    inr (subst (λ (l : List Spelled). Comes t (repeated x) l rest) (one_reading b a from other between again read).1 comes)

-- where no turn begins, it comes to none
pub comes_nowhere : {t : Terminal} {x : Expression} (from rest : List Spelled) → begins_there x from ≡ false
    → Comes t (repeated x) from rest → ⊥
comes_nowhere from rest none (in_turn _ _ is _) = apart _ is none
comes_nowhere from rest none (in_later_turn _ _ _ _ is _ _) = apart _ is none
