-- How deep a predicate is nested is what counting over its tokens says.
use Rattle.std.proofs.Common.{◌≡◌, ◌≤◌, ◌<◌, ◌+◌, ℕ, List, [], ◌∷◌, ◌++◌, length, drop, take, refl, sym, ◌∙◌, ap, ap₂, subst, arith, length-take}
use Rattle.std.proofs.lemmas.List.{take_more}
use Rattle.std.specs.Prelude.{max, unwrap_or, get_or}
use Rattle.g4_preds.specs.declared.node.Test.{Test}
use Rattle.g4_preds.specs.declared.token.Token.{Token}
use Rattle.g4_preds.specs.declared.token.Token.TheVariants.{Name, Digit, Literal, LeftParenthesis, RightParenthesis, Exclamation, DoubleAmpersand, DoubleBar, DoubleEquals}
use Rattle.g4_preds.specs.Grammar.{IsTest, always, never, flag, inside, text_is, IsOr, one_and, or_more, IsAnd, one_not, and_more, IsNot, denied, as_is, IsPrimary, one_test, enclosed}
use Rattle.g4_preds.specs.Levels.{Levels, none_open, base, back_to, deeper, in_parenthesis, past}
use Rattle.g4_preds.specs.Newest.{newest}
use Rattle.g4_preds.specs.Nesting.{depth_of_test, depth_of_or, depth_of_and, depth_of_not, depth_of_primary}
use Rattle.g4_preds.specs.Trees.{Tree}

-- how many stay open is what the newest says, where there is one
pub base_is : (counts : List ℕ) → unwrap_or (newest counts) 0 ≡ base counts
base_is [] = refl
base_is (count ∷ counts) = refl

-- what is open after some tokens
abbrev pub past_all : Levels → List Token → Levels
past_all s [] = s
past_all s (token ∷ tokens) = past_all (past token s) tokens

-- so after some tokens and others
pub past_both : (s : Levels) (u v : List Token) → past_all s (u ++ v) ≡ past_all (past_all s u) v
past_both s [] v = refl
past_both s (token ∷ u) v = past_both (past token s) u v

-- after an operand that is nested so deep
record After (deep : ℕ) (s e : Levels) : Type 0 where
  pub bases : e.bases ≡ s.bases
  pub most : e.most ≡ max s.most (s.current + deep)

-- after two operands with an operator between
after_two : (s : Levels) (u v : List Token) (operator : Token) (d f : ℕ) → ((t : Levels) → past operator t ≡ back_to t.bases t)
    → s.current ≡ base s.bases → After d s (past_all s u)
    → After f (back_to (past_all s u).bases (past_all s u)) (past_all (back_to (past_all s u).bases (past_all s u)) v)
    → After (max d f) s (past_all s (u ++ operator ∷ v))
after_two s u v operator d f back is first second =
    subst (After (max d f) s) (sym whole) (record { bases = second.bases ∙ first.bases; most = most })
  where
    between : Levels
    between = back_to (past_all s u).bases (past_all s u)

    whole : past_all s (u ++ operator ∷ v) ≡ past_all (back_to (past_all s u).bases (past_all s u)) v
    whole = past_both s u (operator ∷ v) ∙ ap (λ t. past_all t v) (back (past_all s u))

    same : base (past_all s u).bases ≡ s.current
    same = ap base first.bases ∙ sym is

    most : (past_all (back_to (past_all s u).bases (past_all s u)) v).most ≡ max s.most (s.current + max d f)
    most = omega (arith, second.most, first.most, same)

-- what stays open is no more than was open at most
stays : (s : Levels) (u : List Token) (d : ℕ) → s.current ≡ base s.bases → s.current ≤ s.most → After d s (past_all s u)
    → base (past_all s u).bases ≤ (past_all s u).most
stays s u d is fits first = omega (arith, fits, first.most, ap base first.bases, is)

-- after a test
after_test : (u : List Token) (t : Test) → IsTest u t → (s : Levels) → s.current ≤ s.most → After (depth_of_test t) s (past_all s u)
after_test _ _ always s fits = record { bases = refl; most = omega (arith, fits) }
after_test _ _ never s fits = record { bases = refl; most = omega (arith, fits) }
after_test _ _ (flag name) s fits = record { bases = refl; most = refl }
after_test _ _ (inside rule) s fits = record { bases = refl; most = refl }
after_test _ _ (text_is nth text) s fits = record { bases = refl; most = refl }

mutual
  after_or : {u : List Token} {a : Tree} (x : IsOr u a) (s : Levels) → s.current ≡ base s.bases → s.current ≤ s.most
      → After (depth_of_or x) s (past_all s u)
  after_or (one_and u a x) s is fits = after_and x s is fits
  after_or (or_more u v a b x y) s is fits =
      let first = after_or x s is fits in
      after_two s u v DoubleBar (depth_of_or x) (depth_of_and y) (λ t. refl) is first
      (after_and y (back_to (past_all s u).bases (past_all s u)) refl (stays s u (depth_of_or x) is fits first))

  after_and : {u : List Token} {a : Tree} (x : IsAnd u a) (s : Levels) → s.current ≡ base s.bases → s.current ≤ s.most
      → After (depth_of_and x) s (past_all s u)
  after_and (one_not u a x) s is fits = after_not x s fits
  after_and (and_more u v a b x y) s is fits =
      let first = after_and x s is fits in
      after_two s u v DoubleAmpersand (depth_of_and x) (depth_of_not y) (λ t. refl) is first
      (after_not y (back_to (past_all s u).bases (past_all s u)) (stays s u (depth_of_and x) is fits first))

  after_not : {u : List Token} {a : Tree} (x : IsNot u a) (s : Levels) → s.current ≤ s.most → After (depth_of_not x) s (past_all s u)
  after_not (denied u a x) s fits =
      let inner = after_not x (deeper s) (omega arith) in
      record { bases = inner.bases; most = omega (arith, inner.most) }
  after_not (as_is u a x) s fits = after_primary x s fits

  after_primary : {u : List Token} {a : Tree} (x : IsPrimary u a) (s : Levels) → s.current ≤ s.most
      → After (depth_of_primary x) s (past_all s u)
  after_primary (one_test u t is) s fits = after_test u t is s fits
  after_primary (enclosed u a x) s fits =
      let within = in_parenthesis (deeper s) in
      let inner = after_or x (in_parenthesis (deeper s)) refl (omega arith) in
      let whole = past_both (in_parenthesis (deeper s)) u (RightParenthesis ∷ []) in
      subst (After (1 + depth_of_or x) s) (sym whole)
      (record { bases = ap (drop 1) inner.bases; most = omega (arith, inner.most) })

-- how many are open at once at most in a predicate
pub depth_is : {u : List Token} {a : Tree} (x : IsOr u a) → (past_all none_open u).most ≡ depth_of_or x
depth_is x = omega (arith, (after_or x none_open refl (omega arith)).most)

-- each is at most so many
abbrev EachWithin : ℕ → List ℕ → Type 0
EachWithin most [] = Unit {0}
EachWithin most (count ∷ counts) = (count ≤ most) × EachWithin most counts

-- no more are open than so many
record IsWithin (most : ℕ) (s : Levels) : Type 0 where
  pub current : s.current ≤ most
  pub bases : EachWithin most s.bases

each_more : (most : ℕ) (counts : List ℕ) → EachWithin most counts → EachWithin (most + 1) counts
each_more most [] each = tt
each_more most (count ∷ counts) each = (omega (arith, each.0), each_more most counts each.1)

each_after : (most : ℕ) (counts : List ℕ) → EachWithin most counts → EachWithin most (drop 1 counts)
each_after most [] each = tt
each_after most (count ∷ counts) each = each.1

base_within : (most : ℕ) (counts : List ℕ) → EachWithin most counts → base counts ≤ most
base_within most [] each = omega arith
base_within most (count ∷ counts) each = each.0

-- so with one more token
within_more : (most : ℕ) (s : Levels) → IsWithin most s → IsWithin (most + 1) s
within_more most s within = record { current = omega (arith, within.current); bases = each_more most s.bases within.bases }

within_back : (most : ℕ) (s : Levels) (bases : List ℕ) → EachWithin most bases → IsWithin (most + 1) (back_to bases s)
within_back most s bases each = record { current = omega (arith, base_within most bases each); bases = each_more most bases each }

within_past : (most : ℕ) (s : Levels) (token : Token) → IsWithin most s → IsWithin (most + 1) (past token s)
within_past most s Exclamation within = record { current = omega (arith, within.current); bases = each_more most s.bases within.bases }
within_past most s LeftParenthesis within =
    record { current = omega (arith, within.current); bases = (omega (arith, within.current), each_more most s.bases within.bases) }
within_past most s RightParenthesis within = within_back most s (drop 1 s.bases) (each_after most s.bases within.bases)
within_past most s DoubleAmpersand within = within_back most s s.bases within.bases
within_past most s DoubleBar within = within_back most s s.bases within.bases
within_past most s (Name name) within = within_more most s within
within_past most s (Digit digit) within = within_more most s within
within_past most s (Literal literal) within = within_more most s within
within_past most s DoubleEquals within = within_more most s within

within_all : (most : ℕ) (s : Levels) (tokens : List Token) → IsWithin most s → IsWithin (most + length tokens) (past_all s tokens)
within_all most s [] within = subst (λ (n : ℕ). IsWithin n s) (omega arith) within
within_all most s (token ∷ tokens) within =
    subst (λ (n : ℕ). IsWithin n (past_all (past token s) tokens)) (omega arith)
    (within_all (most + 1) (past token s) tokens (within_past most s token within))

-- no more are open than there are tokens before an index
pub open_within : (tokens : List Token) (n : ℕ) (s : Levels) → s ≡ past_all none_open (take n tokens) → s.current ≤ n
open_within tokens n s is =
    let within = within_all 0 none_open (take n tokens) (record { current = omega arith; bases = tt }) in
    omega (arith, within.current, ap (λ (t : Levels). t.current) is, length-take n tokens)

-- after one more token
pub past_more : (tokens : List Token) (n : ℕ) (s e : Levels) (d token : Token) → n < length tokens → token ≡ get_or tokens n d
    → s ≡ past_all none_open (take n tokens) → e ≡ past token s → e ≡ past_all none_open (take (n + 1) tokens)
past_more tokens n s e d token less is before step =
    step ∙ ap₂ past is before ∙ sym (past_both none_open (take n tokens) (get_or tokens n d ∷ []))
    ∙ ap (past_all none_open) (sym (take_more tokens n d less))
