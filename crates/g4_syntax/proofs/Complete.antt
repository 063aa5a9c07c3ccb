-- Where reading an expression comes to a terminal, some text of it goes on with what was read before.
use Rattle.std.proofs.Common.{◌≡◌, List, [], ◌∷◌, ◌++◌, Bool, true, false, refl, sym, ap, subst, ◌∙◌, inl, inr, append_assoc}
use Rattle.g4_syntax.specs.Notation.{Spelled, Terminal, Nonterminal, Expression, one, ◌▸◌, ◌∣◌, optional, repeated, part}
use Rattle.g4_syntax.specs.Productions.{production}
use Rattle.g4_syntax.specs.Trees.{Tree, both, left, right, present, end, more, inner, begins_there, Reads, Comes, here, in_first, in_second, in_left, in_right, in_optional, in_turn, in_later_turn, in_part}
use Rattle.g4_syntax.proofs.Texts.{text, read_before, comes_after}
use Rattle.g4_syntax.proofs.Extends.{covers_second, covers_left, covers_right, covers_optional, covers_repeated, covers_part, bars_repeated}
use Rattle.g4_syntax.proofs.Local.{Allowed, allowed_of, barred, begun, reads_again}
use Rattle.g4_syntax.proofs.Samples.{sample}
use Rattle.g4_syntax.proofs.WellFormed.{is_well_formed, part_well_formed, first_well_formed, second_well_formed, left_well_formed, right_well_formed, after_sample}
use Rattle.g4_syntax.proofs.Sampled.{read_sample}

-- some text of the expression goes on after the tokens up to these
abbrev pub Completes : Expression → List Spelled → List Spelled → Type 0
Completes x w rest = (others : List Spelled) × (a : Tree x) × Reads a (w ++ (others ++ rest)) rest

-- after no token at all a short text completes the expression
from_start : (x : Expression) (rest : List Spelled) → is_well_formed x ≡ true → Allowed x rest → Completes x [] rest
from_start x rest well allowed =
    let read = read_sample x rest well allowed in
    (sample x, read.0, read.1)

-- the first tokens being these, it begins there, or not, as it did
at_first : (b : Bool) (x : Expression) (from w rest : List Spelled) (t : Spelled) (others : List Spelled) → from ≡ (t ∷ w) ++ rest
    → begins_there x from ≡ b → begins_there x ((t ∷ w) ++ others) ≡ b
at_first b x from w rest t others is so = sym (ap (begins_there x) is) ∙ so

-- a text of the first alternative is one of both, where the first token begins it
complete_left : (x y : Expression) (from w before rest : List Spelled) → is_well_formed (x ∣ y) ≡ true → Allowed (x ∣ y) rest
    → from ≡ w ++ before → begins_there x from ≡ true → Completes x w rest → Completes (x ∣ y) w rest
complete_left x y from [] before rest well allowed is so inside = from_start (x ∣ y) rest well allowed
complete_left x y from (t ∷ w) before rest well allowed is so inside =
    (inside.0, left inside.1, (at_first true x from w before t (inside.0 ++ rest) is so, inside.2))

-- a text of the second alternative is one of both, where the first token does not begin the first
complete_right : (x y : Expression) (from w before rest : List Spelled) → is_well_formed (x ∣ y) ≡ true → Allowed (x ∣ y) rest
    → from ≡ w ++ before → begins_there x from ≡ false → Completes y w rest → Completes (x ∣ y) w rest
complete_right x y from [] before rest well allowed is so inside = from_start (x ∣ y) rest well allowed
complete_right x y from (t ∷ w) before rest well allowed is so inside =
    (inside.0, right inside.1, (at_first false x from w before t (inside.0 ++ rest) is so, inside.2))

-- a text of what is optional, where the first token begins it
complete_optional : (x : Expression) (from w before rest : List Spelled) → is_well_formed x ≡ true → Allowed (optional x) rest
    → from ≡ w ++ before → begins_there x from ≡ true → Completes x w rest → Completes (optional x) w rest
complete_optional x from [] before rest well allowed is so inside = from_start (optional x) rest well allowed
complete_optional x from (t ∷ w) before rest well allowed is so inside =
    (inside.0, present inside.1, (at_first true x from w before t (inside.0 ++ rest) is so, inside.2))

-- a text of what is repeated, stopped in its first turn: it has this turn alone
complete_turn : (x : Expression) (from w before rest : List Spelled) → is_well_formed x ≡ true → Allowed (repeated x) rest
    → from ≡ w ++ before → begins_there x from ≡ true → Completes x w rest → Completes (repeated x) w rest
complete_turn x from [] before rest well allowed is so inside = from_start (repeated x) rest well allowed
complete_turn x from (t ∷ w) before rest well allowed is so inside = (
  inside.0,
  more inside.1 end,
  (
    at_first true x from w before t (inside.0 ++ rest) is so,
    rest,
    inside.2,
    (barred (repeated x) x rest (bars_repeated x) allowed, refl),
  ),
)

-- two trees, one after the other, make one
both_after : {x y : Expression} (a : Tree x) (b : Tree y) (w others rest : List Spelled)
    → Reads a (text a ++ (w ++ others)) (w ++ others) → Reads b (w ++ others) rest → Reads (both a b) ((text a ++ w) ++ others) rest
both_after a b w others rest first second =
    subst (λ (l : List Spelled). Reads (both a b) l rest) (sym (append_assoc (text a) w others)) (w ++ others, first, second)

-- a text of two, stopped in the second: where nothing of it was read it is a short one
complete_second : (x y : Expression) (from between w before rest : List Spelled) (a : Tree x) → is_well_formed (x ▸ y) ≡ true
    → Allowed (x ▸ y) rest → Reads a from between → between ≡ w ++ before → Completes y w rest → Completes (x ▸ y) (text a ++ w) rest
complete_second x y from between [] before rest a well allowed reads is inside =
    let second = read_sample y rest (second_well_formed x y well) (allowed_of (x ▸ y) y rest (covers_second x y) allowed) in
    let first = reads_again a from between (sample y ++ rest) reads (inr (after_sample x y rest well allowed)) in
    (sample y, both a second.0, both_after a second.0 [] (sample y ++ rest) rest first second.1)
complete_second x y from between (t ∷ w) before rest a well allowed reads is inside =
    let others = inside.0 ++ rest in
    let first = reads_again a from between ((t ∷ w) ++ others) reads (inl (λ z. ap (begins_there z) is)) in
    (inside.0, both a inside.1, both_after a inside.1 (t ∷ w) others rest first inside.2)

-- a turn and the later ones make one tree
more_after : {x : Expression} (a : Tree x) (b : Tree (repeated x)) (w others rest : List Spelled)
    → begins_there x (text a ++ (w ++ others)) ≡ true → Reads a (text a ++ (w ++ others)) (w ++ others) → Reads b (w ++ others) rest
    → Reads (more a b) ((text a ++ w) ++ others) rest
more_after a b w others rest so first second =
    subst (λ (l : List Spelled). Reads (more a b) l rest) (sym (append_assoc (text a) w others)) (so, w ++ others, first, second)

-- a text of what is repeated, stopped in a later turn: where nothing of it was read it ends there
complete_later_turn : (x : Expression) (from between w before rest : List Spelled) (a : Tree x) → Allowed (repeated x) rest
    → begins_there x from ≡ true → Reads a from between → between ≡ w ++ before → Completes (repeated x) w rest
    → Completes (repeated x) (text a ++ w) rest
complete_later_turn x from between [] before rest a allowed so reads is inside =
    let first = reads_again a from between rest reads (inr (allowed_of (repeated x) x rest (covers_repeated x) allowed)) in (
      [],
      more a end,
      more_after a end [] rest rest (begun a from between rest so reads) first
          (barred (repeated x) x rest (bars_repeated x) allowed, refl),
    )
complete_later_turn x from between (t ∷ w) before rest a allowed so reads is inside =
    let others = inside.0 ++ rest in
    let first = reads_again a from between ((t ∷ w) ++ others) reads (inl (λ z. ap (begins_there z) is)) in (
      inside.0,
      more a inside.1,
      more_after a inside.1 (t ∷ w) others rest (begun a from between ((t ∷ w) ++ others) so reads) first
          inside.2,
    )

-- a text of two, stopped in the first: the second is a short one
complete_first : (x y : Expression) (w rest : List Spelled) → is_well_formed (x ▸ y) ≡ true → Allowed (x ▸ y) rest
    → Completes x w (sample y ++ rest) → Completes (x ▸ y) w rest
complete_first x y w rest well allowed inside =
    let second = read_sample y rest (second_well_formed x y well) (allowed_of (x ▸ y) y rest (covers_second x y) allowed) in
    let regrouped : w ++ (inside.0 ++ (sample y ++ rest)) ≡ w ++ ((inside.0 ++ sample y) ++ rest) =
    ap (λ (l : List Spelled). w ++ l) (sym (append_assoc (inside.0) (sample y) rest)) in (
      inside.0 ++ sample y,
      both inside.1 second.0,
      subst (λ (l : List Spelled). Reads (both inside.1 second.0) l rest) regrouped (sample y ++ rest, inside.2, second.1),
    )

-- a text of what is in a part is one of the part
complete_part : (n : Nonterminal) (w rest : List Spelled) → Completes (production n) w rest → Completes (part n) w rest
complete_part n w rest inside = (inside.0, inner inside.1, inside.2)

-- where reading an expression comes to a terminal, some text of it goes on with what was read before
pub completes : {t : Terminal} {x : Expression} {from before : List Spelled} (comes : Comes t x from before) (rest : List Spelled)
    → is_well_formed x ≡ true → Allowed x rest → Completes x (read_before comes) rest
completes {t} (here _) rest well allowed = from_start (one t) rest well allowed
completes (in_first {x} {y} _ _ comes) rest well allowed =
    complete_first x y (read_before comes) rest well allowed
    (completes comes (sample y ++ rest) (first_well_formed x y well) (after_sample x y rest well allowed))
completes (in_second {x} {y} from between before a reads comes) rest well allowed =
    complete_second x y from between (read_before comes) before rest a well allowed reads (comes_after comes)
    (completes comes rest (second_well_formed x y well) (allowed_of (x ▸ y) y rest (covers_second x y) allowed))
completes (in_left {x} {y} from before so comes) rest well allowed =
    complete_left x y from (read_before comes) before rest well allowed (comes_after comes) so
    (completes comes rest (left_well_formed x y well) (allowed_of (x ∣ y) x rest (covers_left x y) allowed))
completes (in_right {x} {y} from before so comes) rest well allowed =
    complete_right x y from (read_before comes) before rest well allowed (comes_after comes) so
    (completes comes rest (right_well_formed x y well) (allowed_of (x ∣ y) y rest (covers_right x y) allowed))
completes (in_optional {x} from before so comes) rest well allowed =
    complete_optional x from (read_before comes) before rest well allowed (comes_after comes) so
    (completes comes rest well (allowed_of (optional x) x rest (covers_optional x) allowed))
completes (in_turn {x} from before so comes) rest well allowed =
    complete_turn x from (read_before comes) before rest well allowed (comes_after comes) so
    (completes comes rest well (allowed_of (repeated x) x rest (covers_repeated x) allowed))
completes (in_later_turn {x} from between before a so reads comes) rest well allowed =
    complete_later_turn x from between (read_before comes) before rest a allowed so reads (comes_after comes)
    (completes comes rest well allowed)
completes (in_part {n} _ _ comes) rest well allowed =
    complete_part n (read_before comes) rest (completes comes rest (part_well_formed n)
    (allowed_of (part n) (production n) rest (covers_part n) allowed))
