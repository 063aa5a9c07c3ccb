-- What a conjunction or disjunction of truth values says of its parts.
use Rattle.std.proofs.Common.{◌≡◌, Bool, true, false, not, ◌&&◌, ◌||◌, refl, sym, ◌∙◌, true≢false}

-- nothing is both so and not so
pub apart : (b : Bool) → b ≡ true → b ≡ false → ⊥
apart b is_so is_not = true≢false (sym is_so ∙ is_not)

-- neither being so, not one or the other is
pub or_false : (p q : Bool) → p ≡ false → q ≡ false → (p || q) ≡ false
or_false true q no_p no_q = no_p
or_false false q no_p no_q = no_q

-- not one or the other being so, the first is not
pub or_first_false : (p q : Bool) → (p || q) ≡ false → p ≡ false
or_first_false true q none = none
or_first_false false q none = refl

-- not one or the other being so, the second is not
pub or_second_false : (p q : Bool) → (p || q) ≡ false → q ≡ false
or_second_false true q none = absurd (true≢false none)
or_second_false false q none = none

-- the first being so, one or the other is
pub or_first_true : (p q : Bool) → p ≡ true → (p || q) ≡ true
or_first_true true q is = refl
or_first_true false q is = absurd (true≢false (sym is))

-- the second being so, one or the other is
pub or_second_true : (p q : Bool) → q ≡ true → (p || q) ≡ true
or_second_true true q is = refl
or_second_true false q is = is

-- each being so, both are
pub and_true : (p q : Bool) → p ≡ true → q ≡ true → (p && q) ≡ true
and_true true q is also = also
and_true false q is also = is

-- both being so, the first is
pub and_first_true : (p q : Bool) → (p && q) ≡ true → p ≡ true
and_first_true true q is = refl
and_first_true false q is = is

-- both being so, the second is
pub and_second_true : (p q : Bool) → (p && q) ≡ true → q ≡ true
and_second_true true q is = is
and_second_true false q is = absurd (true≢false (sym is))

-- not both being so but the first, the second is not
pub and_second_false : (p q : Bool) → p ≡ true → (p && q) ≡ false → q ≡ false
and_second_false true q is none = none
and_second_false false q is none = absurd (true≢false (sym is))

-- the second not being so, not both are
pub false_and : (p q : Bool) → q ≡ false → (p && q) ≡ false
false_and true q none = none
false_and false q none = refl

-- where the first makes the second so, and is so, the second is
pub or_not_true : (p q : Bool) → p ≡ true → (not p || q) ≡ true → q ≡ true
or_not_true true q is one_is = one_is
or_not_true false q is one_is = absurd (true≢false (sym is))

-- if the opposite is so, it is not
pub not_true : (p : Bool) → not p ≡ true → p ≡ false
not_true true is = absurd (true≢false (sym is))
not_true false is = refl
