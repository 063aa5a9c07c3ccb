-- Whether a rule is open, in whichever order the open rules are looked at.
use Rattle.std.proofs.Common.{◌≡◌, ◌∷◌, [], ◌++◌, ◌||◌, ℕ, List, Bool, true, false, map, reverse, refl, sym, ◌∙◌, ap}
use Rattle.std.specs.List.{list_any}
use Rattle.std.specs.Str.{bytes_eq}
use Rattle.std.proofs.lemmas.List.{reverse-append}
use Rattle.std.proofs.lemmas.List.Folds.{list_any-append}
use Rattle.g4_parse.specs.declared.predicates.Opened.{Opened}
use Rattle.g4_outcome.specs.Predicates.{rule_name}

or_none : (a : Bool) → (a || false) ≡ a
or_none true = refl
or_none false = refl

or_other : (a b : Bool) → (a || b) ≡ (b || a)
or_other true true = refl
or_other true false = refl
or_other false true = refl
or_other false false = refl

any_reverse : {X : Type 0} (p : X → Bool) (xs : List X) → list_any p (reverse xs) ≡ list_any p xs
any_reverse p [] = refl
any_reverse p (x ∷ xs) =
    ap (list_any p) (reverse-append (x ∷ []) xs) ∙ list_any-append p (reverse xs) (x ∷ [])
    ∙ or_other (list_any p (reverse xs)) (p x || false) ∙ ap (λ (a : Bool). a || list_any p (reverse xs)) (or_none (p x))
    ∙ ap (λ (a : Bool). p x || a) (any_reverse p xs)

any_map : {X Y : Type 0} (p : Y → Bool) (f : X → Y) (xs : List X) → list_any p (map f xs) ≡ list_any (λ x. p (f x)) xs
any_map p f [] = refl
any_map p f (x ∷ xs) = ap (λ (a : Bool). p (f x) || a) (any_map p f xs)

pub open_names : (names : List (List ℕ)) (rule : List ℕ) (opened : List Opened)
    → list_any (bytes_eq rule) (map (rule_name names) (reverse (map (λ o. o.rule) opened)))
    ≡ list_any (λ o. bytes_eq rule (rule_name names o.rule)) opened
open_names names rule opened =
    any_map (bytes_eq rule) (rule_name names) (reverse (map (λ (o : Opened). o.rule) opened))
    ∙ any_reverse (λ (k : ℕ). bytes_eq rule (rule_name names k)) (map (λ (o : Opened). o.rule) opened)
    ∙ any_map (λ (k : ℕ). bytes_eq rule (rule_name names k)) (λ (o : Opened). o.rule) opened
