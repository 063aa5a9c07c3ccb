-- Lists that grow, which are seen item by item; and with which tokens parts begin.
use Rattle.std.proofs.Common.{◌≡◌, List, [], ◌∷◌, ◌++◌, map, Bool, true, false, ◌&&◌, ◌||◌, refl, sym, ◌∙◌, ap, append_assoc}
use Rattle.g4_grammar_tokens.specs.declared.token.Kind.{Kind}
use Rattle.g4_grammar_tokens.specs.declared.token.Kind.TheVariants as kinds
use Rattle.g4_syntax.specs.Notation.{Spelled, Nonterminal, part, sign, is_kind}
use Rattle.g4_syntax.specs.Productions.{parser_rule}
use Rattle.g4_syntax.specs.Trees.{first_kinds, is_one_of}
use Rattle.g4_cursor.specs.Progress.{Progress, reading, stopped, is_next}
use Rattle.g4_cursor.proofs.Moving.{or_assoc}

-- an item that is read after those that are listed is listed at their end
pub listed_more : {N T : Type 0} (value : N → T) (items : List N) (more : List N) (x : N) (y : T) (others : List T)
    → more ≡ items ++ x ∷ [] → value x ≡ y → map value items ++ y ∷ others ≡ map value more ++ others
listed_more value items more x y others longer same = in_place items ∙ ap (λ l. map value l ++ others) (sym longer)
  where
    in_place : (l : List _) → map value l ++ y ∷ others ≡ map value (l ++ x ∷ []) ++ others
    in_place [] = ap (λ z. z ∷ others) (sym same)
    in_place (i ∷ is) = ap (λ l. value i ∷ l) (in_place is)

-- items that are read after those that are listed are listed at their end
pub all_more : {T : Type 0} (items more longer others : List T) → longer ≡ items ++ more → items ++ (more ++ others) ≡ longer ++ others
all_more items more longer others is = rw is (sym (append_assoc items more others))

-- whether one of these tests holds, the last first
abbrev pub one_of : Bool → List Bool → Bool
one_of so_far [] = so_far
one_of so_far (b ∷ bs) = one_of (so_far || b) bs

-- whether a token of one of these kinds is next
abbrev pub signs_next : List Kind → Progress → List Bool
signs_next [] s = []
signs_next (kind ∷ kinds) s = is_next (sign kind) s ∷ signs_next kinds s

-- the tests say what the list says
same_test : (p : Bool) (kinds : List Kind) (token : Spelled) (rest : List Spelled)
    → one_of p (signs_next kinds (reading (token ∷ rest))) ≡ (p || is_one_of kinds token.kind)
unfolding is_next
same_test p [] token rest = or_none p
  where
    or_none : (p : Bool) → p ≡ (p || false)
    or_none true = refl
    or_none false = refl
same_test p (kind ∷ kinds) token rest = same_test (p || is_kind kind token.kind) kinds token rest
    ∙ or_assoc p (is_kind kind token.kind) (is_one_of kinds token.kind)

-- where no token is next, no test holds
no_test : (kinds : List Kind) (s : Progress) → ((kind : Kind) → is_next (sign kind) s ≡ false) → one_of false (signs_next kinds s) ≡ false
no_test [] s none = refl
no_test (kind ∷ kinds) s none = rw (none kind) (no_test kinds s none)

-- a part begins where one of its first kinds is next
pub kinds_tell : (n : Nonterminal) (s : Progress) → one_of false (signs_next (first_kinds n) s) ≡ is_next (part n) s
unfolding is_next
kinds_tell n (reading []) = no_test (first_kinds n) (reading []) (λ kind. refl)
kinds_tell n (reading (token ∷ rest)) = same_test false (first_kinds n) token rest
kinds_tell n (stopped halt rest) = no_test (first_kinds n) (stopped halt rest) (λ kind. refl)

-- words that are lower-case names add nothing to lower-case names
lower_first : (lower a b c : Bool) → (((lower && a) || ((lower && b) || (lower && c))) || (true && (lower || false))) ≡ lower
lower_first true a b c = or_true _
  where
    or_true : (b : Bool) → (b || true) ≡ true
    or_true true = refl
    or_true false = refl
lower_first false a b c = refl

-- a parser rule begins with a lower-case name
pub parser_rule_next : (s : Progress) → is_next parser_rule s ≡ is_next (sign kinds.Lower) s
unfolding is_next
parser_rule_next (reading []) = refl
parser_rule_next (reading (token ∷ _)) = lower_first _ _ _ _
parser_rule_next (stopped halt rest) = refl
