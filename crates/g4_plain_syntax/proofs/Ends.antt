-- The terminals with which an expression begins, and with which it can go on at its end.
use Rattle.std.proofs.Common.{◌≡◌, List, [], ◌∷◌, Bool, true, false, not, ◌&&◌, ◌||◌, refl, sym, ◌∙◌, true≢false}
use Rattle.std.specs.List.{list_all}
use Rattle.std.proofs.lemmas.Bool.{false_from_ne_true}
use Rattle.g4_grammar_tokens.specs.declared.token.Kind.{Kind}
use Rattle.g4_syntax.specs.Notation.{Spelled, is_kind, Terminal, of_kind, fits, Nonterminal, element, token_set, lexer_element, character_set, more_names, Expression, one, ◌▸◌, ◌∣◌, optional, repeated, part}
use Rattle.g4_syntax.specs.Productions.{production}
use Rattle.g4_syntax.specs.Trees.{can_be_empty, is_one_of, begins}
use Rattle.g4_syntax.proofs.Truths.{or_false, and_first_true, and_second_true}
use Rattle.g4_syntax.proofs.Extends.{last_kinds, extends}
use Rattle.g4_syntax.proofs.Firsts.{begins_part}

-- a test of terminals
abbrev pub Test : Type 0
Test = Terminal → Bool

-- whether all terminals with which the expression begins pass the test, if this is known of parts
abbrev pub first_pass : (Nonterminal → Bool) → Test → Expression → Bool
first_pass parts test (one t) = test t
first_pass parts test (x ▸ y) = first_pass parts test x && (not (can_be_empty x) || first_pass parts test y)
first_pass parts test (x ∣ y) = first_pass parts test x && first_pass parts test y
first_pass parts test (optional x) = first_pass parts test x
first_pass parts test (repeated x) = first_pass parts test x
first_pass parts test (part n) = parts n

-- whether all with which the part begins do: its production begins with no part
abbrev pub part_pass : Test → Nonterminal → Bool
part_pass test n = first_pass (λ _. false) test (production n)

-- whether all with which the expression begins do
abbrev pub firsts : Test → Expression → Bool
firsts test x = first_pass (part_pass test) test x

-- a part begins as its production does
pub firsts_part : (test : Test) (n : Nonterminal) → firsts test (production n) ≡ firsts test (part n)
firsts_part test element = refl
firsts_part test token_set = refl
firsts_part test lexer_element = refl
firsts_part test character_set = refl
firsts_part test more_names = refl

-- whether all terminals do with which a text of the expression can go on at its end
abbrev pub lasts : Test → Expression → Bool
lasts test (one t) = true
lasts test (x ▸ y) = lasts test y && (not (can_be_empty y) || lasts test x)
lasts test (x ∣ y) = lasts test x && (lasts test y && (not (can_be_empty y) || firsts test x))
lasts test (optional x) = firsts test x && lasts test x
lasts test (repeated x) = firsts test x && lasts test x
lasts test (part n) = list_all (λ kind. test (of_kind kind)) (last_kinds n)

-- the token is no terminal that passes the test
abbrev pub Fails : Test → Spelled → Type 0
Fails test token = (t : Terminal) → test t ≡ true → fits t token ≡ true → ⊥

-- what counts only if a condition holds is not so, if then it is not
guarded : (b p q : Bool) → (not b || p) ≡ true → (p ≡ true → q ≡ false) → (b && q) ≡ false
guarded true p q pass fail = fail pass
guarded false p q pass fail = refl

-- the token does not begin an expression of which this is known for parts
not_first : (parts : Nonterminal → Bool) (test : Test) (token : Spelled) → Fails test token
    → ((n : Nonterminal) → parts n ≡ true → begins (part n) token ≡ false) → (x : Expression) → first_pass parts test x ≡ true
    → begins x token ≡ false
not_first parts test token fails known (one t) pass = false_from_ne_true (fits t token) (fails t pass)
not_first parts test token fails known (x ▸ y) pass =
    or_false (begins x token) _ (not_first parts test token fails known x (and_first_true (first_pass parts test x) _ pass))
    (guarded (can_be_empty x) (first_pass parts test y) (begins y token) (and_second_true (first_pass parts test x) _ pass)
    (λ also. not_first parts test token fails known y also))
not_first parts test token fails known (x ∣ y) pass =
    or_false (begins x token) (begins y token) (not_first parts test token fails known x (and_first_true (first_pass parts test x) _ pass))
    (not_first parts test token fails known y (and_second_true (first_pass parts test x) _ pass))
not_first parts test token fails known (optional x) pass = not_first parts test token fails known x pass
not_first parts test token fails known (repeated x) pass = not_first parts test token fails known x pass
not_first parts test token fails known (part n) pass = known n pass

-- a token that is none of the terminals with which the expression begins does not begin it
pub not_begun : (test : Test) (token : Spelled) → Fails test token → (x : Expression) → firsts test x ≡ true → begins x token ≡ false
not_begun test token fails x pass =
    not_first (part_pass test) test token fails
    (λ n known. begins_part n token ∙ not_first (λ _. false) test token fails (λ _ never. absurd (true≢false (sym never)))
    (production n) known) x pass

-- a token that is of none of these kinds is not one of them
not_listed : (test : Test) (token : Spelled) → Fails test token → (listed : List Kind)
    → list_all (λ kind. test (of_kind kind)) listed ≡ true → is_one_of listed token.kind ≡ false
not_listed test token fails [] pass = refl
not_listed test token fails (kind ∷ listed) pass =
    or_false (is_kind kind token.kind) _ (false_from_ne_true (is_kind kind token.kind)
    (fails (of_kind kind) (and_first_true (test (of_kind kind)) _ pass)))
    (not_listed test token fails listed (and_second_true (test (of_kind kind)) _ pass))

-- a token that is none of the terminals with which the expression can go on does not extend it
pub not_extended : (test : Test) (token : Spelled) → Fails test token → (x : Expression) → lasts test x ≡ true → extends x token ≡ false
not_extended test token fails (one t) pass = refl
not_extended test token fails (x ▸ y) pass =
    or_false (extends y token) _ (not_extended test token fails y (and_first_true (lasts test y) _ pass))
    (guarded (can_be_empty y) (lasts test x) (extends x token) (and_second_true (lasts test y) _ pass)
    (λ also. not_extended test token fails x also))
not_extended test token fails (x ∣ y) pass =
    let second = and_second_true (lasts test x) _ pass in
    let before = guarded (can_be_empty y) (firsts test x) (begins x token) (and_second_true (lasts test y) _ second)
    (λ also. not_begun test token fails x also) in
    or_false (extends x token) _ (not_extended test token fails x (and_first_true (lasts test x) _ pass))
    (or_false (extends y token) _ (not_extended test token fails y (and_first_true (lasts test y) _ second)) before)
not_extended test token fails (optional x) pass =
    or_false (begins x token) (extends x token) (not_begun test token fails x (and_first_true (firsts test x) _ pass))
    (not_extended test token fails x (and_second_true (firsts test x) _ pass))
not_extended test token fails (repeated x) pass =
    or_false (begins x token) (extends x token) (not_begun test token fails x (and_first_true (firsts test x) _ pass))
    (not_extended test token fails x (and_second_true (firsts test x) _ pass))
not_extended test token fails (part n) pass = not_listed test token fails (last_kinds n) pass
