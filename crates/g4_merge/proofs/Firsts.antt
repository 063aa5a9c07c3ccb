-- The rules that are the first of their name.
use Rattle.std.proofs.Common.{◌≡◌, ◌⊎◌, inl, inr, ℕ, ◌<◌, suc, zero, List, [], ◌∷◌, ◌++◌, length, map, flat_map, Contains, slice_get, slice_index_or, Bool, true, false, not, cond, ◌||◌, Option, Some, None, refl, sym, ap, ◌∙◌, subst, arith}
use Rattle.std.specs.Str.{bytes_eq}
use Rattle.std.proofs.lemmas.List.{append_assoc, append-nil, map-append}
use Rattle.std.proofs.lemmas.List.Folds.{list_any-append}
use Rattle.std.proofs.lemmas.Grind.{flat_map-append}
use Rattle.std.proofs.lemmas.Slice.Eq.{bytes_eq-Decides}
use Rattle.g4_source.specs.Rules.{rule_name}
use Rattle.g4_source.specs.declared.rule.Rule.{Rule}
use Rattle.g4_source.specs.declared.source.Source.{Source}
use Rattle.g4_merge.specs.Laws.{NamesDiffer, rules_of}
use Rattle.g4_merge.specs.Merging.{all_rules, are_new, chosen, has_name}
use Rattle.g4_merge.proofs.Known.{has_more}

-- the names of rules
abbrev pub names_of : List Rule → List (List ℕ)
names_of rules = map rule_name rules

-- of rules with one name the first, where no earlier rule has the name
abbrev pub after : List (List ℕ) → List Rule → List Rule
after earlier rules = chosen (are_new earlier (names_of rules)) rules

true_is_not_false : true ≡ false → ⊥
true_is_not_false e = cc

same_name : (a b : List ℕ) → bytes_eq a b ≡ true → a ≡ b
same_name a b = (bytes_eq-Decides a b).0

own_name : (a : List ℕ) → bytes_eq a a ≡ true
own_name a = (bytes_eq-Decides a a).1 refl

or_right : (a b : Bool) → b ≡ true → (a || b) ≡ true
or_right true b e = refl
or_right false b e = e

or_left : (a b : Bool) → a ≡ true → (a || b) ≡ true
or_left true b e = refl
or_left false b e = absurd (true_is_not_false (sym e))

neither_left : (a b : Bool) → (a || b) ≡ false → a ≡ false
neither_left true b e = e
neither_left false b e = refl

neither_right : (a b : Bool) → (a || b) ≡ false → b ≡ false
neither_right true b e = absurd (true_is_not_false e)
neither_right false b e = e

neither : (a b : Bool) → a ≡ false → b ≡ false → (a || b) ≡ false
neither true b e f = e
neither false b e f = f

-- rules one after another
cond_over : (b : Bool) (x : Rule) (all first rest : List Rule) → all ≡ first ++ rest
    → cond b (x ∷ all) all ≡ cond b (x ∷ first) first ++ rest
cond_over true x all first rest is = ap (λ ys. x ∷ ys) is
cond_over false x all first rest is = is

pub after_append : (e : List (List ℕ)) (xs ys : List Rule) → after e (xs ++ ys) ≡ after e xs ++ after (e ++ names_of xs) ys
after_append e [] ys = ap (λ (es : List (List ℕ)). after es ys) (sym (append-nil e))
after_append e (x ∷ xs) ys =
    cond_over (not (has_name e (rule_name x))) x (after (e ++ rule_name x ∷ []) (xs ++ ys)) (after (e ++ rule_name x ∷ []) xs)
    (after (e ++ names_of (x ∷ xs)) ys)
    (after_append (e ++ rule_name x ∷ []) xs ys
    ∙ ap (λ (es : List (List ℕ)). after (e ++ rule_name x ∷ []) xs ++ after es ys) (append_assoc e (rule_name x ∷ []) (names_of xs)))

-- each rule has a name that no earlier one has
abbrev AllNew : List (List ℕ) → List Rule → Type 0
AllNew e [] = Unit {0}
AllNew e (x ∷ xs) = (has_name e (rule_name x) ≡ false) × AllNew (e ++ rule_name x ∷ []) xs

own_rules : (e : List (List ℕ)) (xs : List Rule) → AllNew e xs → after e xs ≡ xs
own_rules e [] h = refl
own_rules e (x ∷ xs) h =
    ap (λ (b : Bool). cond (not b) (x ∷ after (e ++ rule_name x ∷ []) xs) (after (e ++ rule_name x ∷ []) xs)) h.0
    ∙ ap (λ ys. x ∷ ys) (own_rules (e ++ rule_name x ∷ []) xs h.1)

zero_is_not_suc : (i : ℕ) → 0 ≡ suc i → ⊥
zero_is_not_suc i e = omega (arith, e)

before : (i j : ℕ) → suc i ≡ suc j → i ≡ j
before i j e = omega (arith, e)

new_where_differ : (e : List (List ℕ)) (xs : List Rule) → NamesDiffer xs
    → ((i : ℕ) (a : Rule) → slice_get xs i ≡ Some a → has_name e (rule_name a) ≡ false) → AllNew e xs
new_where_differ e [] differ fresh = tt
new_where_differ e (x ∷ xs) differ fresh = (
  fresh 0 x refl,
  new_where_differ (e ++ rule_name x ∷ []) xs
      (λ i j a b p q same. before i j (differ (suc i) (suc j) a b p q same)) later,
)
  where
    other : (i : ℕ) (a : Rule) → slice_get xs i ≡ Some a → (b : Bool) → bytes_eq (rule_name x) (rule_name a) ≡ b → b ≡ false
    other i a p true is = absurd (zero_is_not_suc i (differ 0 (suc i) x a refl p (same_name (rule_name x) (rule_name a) is)))
    other i a p false is = refl

    later : (i : ℕ) (a : Rule) → slice_get xs i ≡ Some a → has_name (e ++ rule_name x ∷ []) (rule_name a) ≡ false
    later i a p = has_more e (rule_name x) (rule_name a)
        ∙ neither (has_name e (rule_name a)) (bytes_eq (rule_name x) (rule_name a)) (fresh (suc i) a p)
        (other i a p (bytes_eq (rule_name x) (rule_name a)) refl)

-- the main grammar's rules come first
pub main_first : (main : Source) (imports : List Source) → NamesDiffer main.rules
    → (rest : List Rule) × (rules_of main imports ≡ main.rules ++ rest)
main_first main imports differ = (
  after (names_of main.rules) (flat_map (λ (g : Source). g.rules) imports),
  after_append [] main.rules (flat_map (λ (g : Source). g.rules) imports)
      ∙ ap (λ ys. ys ++ after (names_of main.rules) (flat_map (λ (g : Source). g.rules) imports))
      (own_rules [] main.rules (new_where_differ [] main.rules differ (λ i a p. refl))),
)

none_there : (i : ℕ) (a : Rule) → slice_get [] i ≡ Some a → ⊥
none_there i a p = cc

the_same : (a b : Rule) → Some a ≡ Some b → rule_name a ≡ rule_name b
the_same a b e = ap (λ (o : Option Rule). name_in o) e
  where
    name_in : Option Rule → List ℕ
    name_in None = []
    name_in (Some r) = rule_name r

-- what is left has none of the earlier names
fresh : (e : List (List ℕ)) (xs : List Rule) (i : ℕ) (a : Rule) → slice_get (after e xs) i ≡ Some a → has_name e (rule_name a) ≡ false
fresh e [] i a p = absurd (none_there i a p)
fresh e (x ∷ xs) i a p =
    at (λ k q. neither_left (has_name e (rule_name a)) (bytes_eq (rule_name x) (rule_name a))
    (sym (has_more e (rule_name x) (rule_name a)) ∙ fresh (e ++ rule_name x ∷ []) xs k a q)) (has_name e (rule_name x)) refl i p
  where
    at : ((k : ℕ) → slice_get (after (e ++ rule_name x ∷ []) xs) k ≡ Some a → has_name e (rule_name a) ≡ false) → (b : Bool)
        → has_name e (rule_name x) ≡ b → (i : ℕ)
        → slice_get (cond (not b) (x ∷ after (e ++ rule_name x ∷ []) xs) (after (e ++ rule_name x ∷ []) xs)) i ≡ Some a
        → has_name e (rule_name a) ≡ false
    at later true is i q = later i q
    at later false is zero q = subst (λ (n : List ℕ). has_name e n ≡ false) (the_same x a q) is
    at later false is (suc i) q = later i q

pub after_differ : (e : List (List ℕ)) (xs : List Rule) → NamesDiffer (after e xs)
after_differ e [] i j a b p q same = absurd (none_there i a p)
after_differ e (x ∷ xs) i j a b p q same =
    at (λ k l r s. after_differ (e ++ rule_name x ∷ []) xs k l a b r s same) (has_name e (rule_name x)) i j p q
  where
    rest : List Rule
    rest = after (e ++ rule_name x ∷ []) xs

    clash : (j : ℕ) (c : Rule) → slice_get rest j ≡ Some c → rule_name x ≡ rule_name c → ⊥
    clash j c r is = true_is_not_false
        (sym (has_more e (rule_name x) (rule_name c)
        ∙ or_right (has_name e (rule_name c)) (bytes_eq (rule_name x) (rule_name c))
        (ap (λ (n : List ℕ). bytes_eq n (rule_name c)) is ∙ own_name (rule_name c)))
        ∙ fresh (e ++ rule_name x ∷ []) xs j c r)

    at : ((k l : ℕ) → slice_get rest k ≡ Some a → slice_get rest l ≡ Some b → k ≡ l) → (known : Bool) (i j : ℕ)
        → slice_get (cond (not known) (x ∷ rest) rest) i ≡ Some a → slice_get (cond (not known) (x ∷ rest) rest) j ≡ Some b → i ≡ j
    at later true i j r s = later i j r s
    at later false zero zero r s = refl
    at later false zero (suc j) r s = absurd (clash j b s (the_same x a r ∙ same))
    at later false (suc i) zero r s = absurd (clash i a r (the_same x b s ∙ sym same))
    at later false (suc i) (suc j) r s = ap suc (later i j r s)

or_only : (a b : Bool) → b ≡ false → (a || b) ≡ true → a ≡ true
or_only true b e f = refl
or_only false b e f = absurd (true_is_not_false (sym f ∙ e))

-- each name is among the earlier ones, or that of a rule that is left
name_there : (e : List (List ℕ)) (xs : List Rule) (n : List ℕ) → has_name (names_of xs) n ≡ true
    → (has_name e n ≡ true) ⊎ (has_name (names_of (after e xs)) n ≡ true)
name_there e [] n h = absurd (true_is_not_false (sym h))
name_there e (x ∷ xs) n h = at (name_there (e ++ rule_name x ∷ []) xs n) (has_name e (rule_name x)) refl (bytes_eq (rule_name x) n) refl
  where
    rest : List Rule
    rest = after (e ++ rule_name x ∷ []) xs

    kept : (known : Bool) → has_name (names_of rest) n ≡ true
        → has_name (names_of (cond (not known) (x ∷ rest) rest)) n ≡ true
    kept true is = is
    kept false is = or_right (bytes_eq (rule_name x) n) (has_name (names_of rest) n) is

    at : (has_name (names_of xs) n ≡ true → (has_name (e ++ rule_name x ∷ []) n ≡ true) ⊎ (has_name (names_of rest) n ≡ true))
        → (known : Bool) → has_name e (rule_name x) ≡ known → (this : Bool) → bytes_eq (rule_name x) n ≡ this
        → (has_name e n ≡ true) ⊎ (has_name (names_of (cond (not known) (x ∷ rest) rest)) n ≡ true)
    at later true is true same = inl (ap (has_name e) (sym (same_name (rule_name x) n same)) ∙ is)
    at later false is true same = inr (or_left (bytes_eq (rule_name x) n) (has_name (names_of rest) n) same)
    at later known is false other =
        let tail : has_name (names_of xs) n ≡ true = sym (ap (λ (b : Bool). b || has_name (names_of xs) n) other) ∙ h in
        elim (let f : (has_name (e ++ rule_name x ∷ []) n ≡ true) ⊎ (has_name (names_of rest) n ≡ true) = later tail in f) [
          | inl a ↦ inl (or_only (has_name e n) (bytes_eq (rule_name x) n) other (sym (has_more e (rule_name x) n) ∙ a))
          | inr a ↦ inr (kept known a)
        ]

-- a rule of the list has its name there
held_name : (xs : List Rule) (k : ℕ) (r : Rule) → k < length xs → slice_index_or xs k r ≡ r
    → has_name (names_of xs) (rule_name r) ≡ true
held_name [] k r less is = absurd (omega (arith, less))
held_name (x ∷ xs) zero r less is = or_left (bytes_eq (rule_name x) (rule_name r)) (has_name (names_of xs) (rule_name r))
    (ap (λ (s : Rule). bytes_eq (rule_name s) (rule_name r)) is ∙ own_name (rule_name r))
held_name (x ∷ xs) (suc k) r less is = or_right (bytes_eq (rule_name x) (rule_name r)) (has_name (names_of xs) (rule_name r))
    (held_name xs k r (omega (arith, less)) is)

-- the names of two lists
name_in_both : (a b : List Rule) (n : List ℕ) → has_name (names_of (a ++ b)) n ≡ (has_name (names_of a) n || has_name (names_of b) n)
name_in_both a b n = ap (λ (ns : List (List ℕ)). has_name ns n) (map-append rule_name a b)
    ∙ list_any-append (λ (other : List ℕ). bytes_eq other n) (names_of a) (names_of b)

held_all : (gs : List Source) (k : ℕ) (g : Source) (n : List ℕ) → k < length gs → slice_index_or gs k g ≡ g
    → has_name (names_of g.rules) n ≡ true → has_name (names_of (flat_map (λ (s : Source). s.rules) gs)) n ≡ true
held_all [] k g n less is h = absurd (omega (arith, less))
held_all (f ∷ gs) zero g n less is h = name_in_both f.rules (flat_map (λ (s : Source). s.rules) gs) n
    ∙ or_left (has_name (names_of f.rules) n) (has_name (names_of (flat_map (λ (s : Source). s.rules) gs)) n)
    (ap (λ (s : Source). has_name (names_of s.rules) n) is ∙ h)
held_all (f ∷ gs) (suc k) g n less is h = name_in_both f.rules (flat_map (λ (s : Source). s.rules) gs) n
    ∙ or_right (has_name (names_of f.rules) n) (has_name (names_of (flat_map (λ (s : Source). s.rules) gs)) n)
    (held_all gs k g n (omega (arith, less)) is h)

-- a rule with a name of the list
rule_with : (xs : List Rule) (n : List ℕ) → has_name (names_of xs) n ≡ true → (r : Rule) × Contains xs r × (rule_name r ≡ n)
rule_with [] n h = absurd (true_is_not_false (sym h))
rule_with (x ∷ xs) n h = at (rule_with xs n) (bytes_eq (rule_name x) n) refl
  where
    at : (has_name (names_of xs) n ≡ true → (r : Rule) × Contains xs r × (rule_name r ≡ n)) → (b : Bool) → bytes_eq (rule_name x) n ≡ b
        → (r : Rule) × Contains (x ∷ xs) r × (rule_name r ≡ n)
    at later true is = (x, (0, omega arith, refl), same_name (rule_name x) n is)
    at later false is =
        let tail : has_name (names_of xs) n ≡ true = sym (ap (λ (b : Bool). b || has_name (names_of xs) n) is) ∙ h in
        let found = later tail in
        (found.0, (suc found.1.0, omega (arith, found.1.1), found.1.2), found.2)

pub each_there : (main : Source) (imports : List Source) (grammar : Source) (rule : Rule) → Contains (main ∷ imports) grammar
    → Contains grammar.rules rule → (kept : Rule) × Contains (rules_of main imports) kept × (rule_name kept ≡ rule_name rule)
each_there main imports grammar rule (k, less, is) (j, within, here) =
    elim (let f : (has_name [] (rule_name rule) ≡ true) ⊎ (has_name (names_of (rules_of main imports)) (rule_name rule) ≡ true) =
    name_there [] (all_rules main imports) (rule_name rule)
    (held_all (main ∷ imports) k grammar (rule_name rule) less is (held_name grammar.rules j rule within here)) in f) [
      | inl a ↦ absurd (true_is_not_false (sym a))
      | inr a ↦ rule_with (rules_of main imports) (rule_name rule) a
    ]

-- nothing is left of rules whose names are among the earlier ones
nothing_new : (e : List (List ℕ)) (xs : List Rule)
    → ((n : List ℕ) → has_name (names_of xs) n ≡ true → has_name e n ≡ true) → after e xs ≡ []
nothing_new e [] h = refl
nothing_new e (x ∷ xs) h =
    ap (λ (b : Bool). cond (not b) (x ∷ after (e ++ rule_name x ∷ []) xs) (after (e ++ rule_name x ∷ []) xs))
    (h (rule_name x) (or_left (bytes_eq (rule_name x) (rule_name x)) (has_name (names_of xs) (rule_name x)) (own_name (rule_name x))))
    ∙ nothing_new (e ++ rule_name x ∷ []) xs (λ n is. has_more e (rule_name x) n
    ∙ or_left (has_name e n) (bytes_eq (rule_name x) n) (h n (or_right (bytes_eq (rule_name x) n) (has_name (names_of xs) n) is)))

-- what is left goes by which names are earlier, not by their order
same_after : (e f : List (List ℕ)) (xs : List Rule) → ((n : List ℕ) → has_name e n ≡ has_name f n) → after e xs ≡ after f xs
same_after e f [] same = refl
same_after e f (x ∷ xs) same =
    ap (λ (b : Bool). cond (not b) (x ∷ after (e ++ rule_name x ∷ []) xs) (after (e ++ rule_name x ∷ []) xs)) (same (rule_name x))
    ∙ ap (λ (ys : List Rule). cond (not (has_name f (rule_name x))) (x ∷ ys) ys)
    (same_after (e ++ rule_name x ∷ []) (f ++ rule_name x ∷ []) xs (λ n. has_more e (rule_name x) n
    ∙ (ap (λ (b : Bool). b || bytes_eq (rule_name x) n) (same n) ∙ sym (has_more f (rule_name x) n))))

or_both : (a b : Bool) → (b ≡ true → a ≡ true) → (a || b) ≡ a
or_both true b h = refl
or_both false true h = sym (h refl)
or_both false false h = refl

-- rules whose names are all there already bring nothing
brings_nothing : (a g b : List Rule) → ((n : List ℕ) → has_name (names_of g) n ≡ true → has_name (names_of a) n ≡ true)
    → after [] (a ++ (g ++ b)) ≡ after [] (a ++ b)
brings_nothing a g b h = after_append [] a (g ++ b)
    ∙ (ap (λ ys. after [] a ++ ys) (after_append (names_of a) g b
    ∙ (ap (λ ys. ys ++ after (names_of a ++ names_of g) b) (nothing_new (names_of a) g h)
    ∙ same_after (names_of a ++ names_of g) (names_of a) b (λ n.
    list_any-append (λ (other : List ℕ). bytes_eq other n) (names_of a) (names_of g)
    ∙ or_both (has_name (names_of a) n) (has_name (names_of g) n) (h n))))
    ∙ sym (after_append [] a b))

-- the rules of grammars
abbrev rules_in : List Source → List Rule
rules_in gs = flat_map (λ (s : Source). s.rules) gs

pub twice_once : (main grammar : Source) (first between rest : List Source)
    → rules_of main (first ++ grammar ∷ between ++ grammar ∷ rest) ≡ rules_of main (first ++ grammar ∷ between ++ rest)
twice_once main grammar first between rest =
    ap (after []) (split (grammar ∷ rest)) ∙ (brings_nothing front grammar.rules (rules_in rest) among ∙ ap (after []) (sym (split rest)))
  where
    front : List Rule
    front = main.rules ++ rules_in (first ++ grammar ∷ between)

    split : (more : List Source) → main.rules ++ rules_in ((first ++ grammar ∷ between) ++ more) ≡ front ++ rules_in more
    split more = ap (λ ys. main.rules ++ ys) (flat_map-append (λ (s : Source). s.rules) (first ++ grammar ∷ between) more)
        ∙ sym (append_assoc main.rules (rules_in (first ++ grammar ∷ between)) (rules_in more))

    among : (n : List ℕ) → has_name (names_of grammar.rules) n ≡ true → has_name (names_of front) n ≡ true
    among n is = name_in_both main.rules (rules_in (first ++ grammar ∷ between)) n
        ∙ or_right (has_name (names_of main.rules) n) (has_name (names_of (rules_in (first ++ grammar ∷ between))) n)
        (ap (λ (rs : List Rule). has_name (names_of rs) n) (flat_map-append (λ (s : Source). s.rules) first (grammar ∷ between))
        ∙ (name_in_both (rules_in first) (rules_in (grammar ∷ between)) n
        ∙ or_right (has_name (names_of (rules_in first)) n) (has_name (names_of (rules_in (grammar ∷ between))) n)
        (name_in_both grammar.rules (rules_in between) n
        ∙ or_left (has_name (names_of grammar.rules) n) (has_name (names_of (rules_in between)) n) is)))
