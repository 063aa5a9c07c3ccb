-- What is known in the middle of a list of rules or of imports.
use Rattle.std.proofs.Common.{◌≡◌, ℕ, ◌+◌, ◌<◌, List, [], ◌∷◌, ◌++◌, length, map, take, get_or, flat_map, Bool, true, false, not, ◌||◌, Option, Some, None, refl, sym, ap, ◌∙◌, arith, if◌then◌else◌}
use Rattle.std.specs.Option.{is_some, option_or}
use Rattle.std.specs.Str.{bytes_eq}
use Rattle.std.proofs.lemmas.List.{append_assoc, append-nil, map-append, take_more}
use Rattle.std.proofs.lemmas.List.Folds.{list_any-append}
use Rattle.g4_names.specs.Places.{place_in}
use Rattle.g4_names.specs.declared.places.Places.{Places}
use Rattle.g4_source.specs.Rules.{rule_name}
use Rattle.g4_source.specs.declared.prequel.Prequel.{Prequel}
use Rattle.g4_source.specs.declared.rule.Rule.{Rule}
use Rattle.g4_source.specs.declared.source.Source.{Source}
use Rattle.g4_merge.specs.Merging.{are_new, chosen, declared_by, file_numbers, has_name}

-- What is known before the rule at this place: a name has a place where a rule before has it, and of these it is said which are new.
pub record IsKnown (rules : List Rule) (k : ℕ) (places : Places) (new : List Bool) : Type 0 where
  pub said : new ≡ are_new [] (map rule_name (take k rules))
  pub known : (name : List ℕ) → is_some (place_in places name) ≡ has_name (map rule_name (take k rules)) name

-- the second of a name
or_false : (b : Bool) → (b || false) ≡ b
or_false true = refl
or_false false = refl

-- one name more
pub has_more : (names : List (List ℕ)) (n name : List ℕ) → has_name (names ++ n ∷ []) name ≡ (has_name names name || bytes_eq n name)
has_more names n name = list_any-append (λ (other : List ℕ). bytes_eq other name) names (n ∷ [])
    ∙ ap (λ (b : Bool). has_name names name || b) (or_false (bytes_eq n name))

pub new_more : (earlier names : List (List ℕ)) (name : List ℕ)
    → are_new earlier (names ++ name ∷ []) ≡ are_new earlier names ++ not (has_name (earlier ++ names) name) ∷ []
new_more earlier [] name = ap (λ (es : List (List ℕ)). not (has_name es name) ∷ []) (sym (append-nil earlier))
new_more earlier (n ∷ names) name = ap (λ (bs : List Bool). not (has_name earlier n) ∷ bs)
    (new_more (earlier ++ n ∷ []) names name
    ∙ ap (λ (es : List (List ℕ)). are_new (earlier ++ n ∷ []) names ++ not (has_name es name) ∷ []) (append_assoc earlier (n ∷ []) names))

some_or : (a : Option ℕ) (b : Bool) (p : ℕ) → is_some (option_or a (if b then Some p else None)) ≡ (is_some a || b)
some_or (Some x) b p = refl
some_or None true p = refl
some_or None false p = refl

not_not : (a b : Bool) → a ≡ not b → b ≡ not a
not_not true true e = e
not_not true false e = refl
not_not false true e = refl
not_not false false e = e

module _ (rules : List Rule) (k : ℕ) (rule : Rule) (name : List ℕ) (within : k < length rules) (item : rule ≡ get_or rules k rule)
    (named : name ≡ rule_name rule) where
  names_more : map rule_name (take (k + 1) rules) ≡ map rule_name (take k rules) ++ name ∷ []
  names_more = ap (map rule_name) (take_more rules k rule within ∙ ap (λ (r : Rule). take k rules ++ r ∷ []) (sym item))
      ∙ (map-append rule_name (take k rules) (rule ∷ []) ∙ ap (λ (n : List ℕ). map rule_name (take k rules) ++ n ∷ []) (sym named))

  -- the rule at the place is known too
  pub known_next : (old new : Places) (flags more : List Bool) (b : Bool) → is_some (place_in old name) ≡ not b → more ≡ flags ++ b ∷ []
      → ((other : List ℕ) → place_in new other ≡ option_or (place_in old other) (if bytes_eq name other then Some 0 else None))
      → IsKnown rules k old flags → IsKnown rules (k + 1) new more
  known_next old new flags more b flag is added h = record {
    said = is
        ∙ (ap (λ (fs : List Bool). fs ++ b ∷ []) h.said
        ∙ (ap (λ (c : Bool). are_new [] (map rule_name (take k rules)) ++ c ∷ []) (not_not (has_name (map rule_name (take k rules)) name) b
        (sym (h.known name) ∙ flag))
        ∙ (sym (new_more [] (map rule_name (take k rules)) name) ∙ ap (are_new []) (sym names_more))));
    known = λ other.
        ap is_some (added other)
        ∙ (some_or (place_in old other) (bytes_eq name other) 0
        ∙ (ap (λ (c : Bool). c || bytes_eq name other) (h.known other)
        ∙ (sym (has_more (map rule_name (take k rules)) name other) ∙ ap (λ (ns : List (List ℕ)). has_name ns other) (sym names_more))));
  }

-- What imports brought, and what is left of them brings.
pub record Added (ps : List Prequel) (rs : List Rule) (fs : List ℕ) (ms : List (List ℕ)) (imports : List Source) (before : ℕ)
    (rest : List Source) (prequels : List Prequel) (rules : List Rule) (files : List ℕ) (modes : List (List ℕ)) : Type 0 where
  pub left : before + length rest ≡ length imports
  pub prequels_are : prequels ++ declared_by rest ≡ ps ++ declared_by imports
  pub rules_are : rules ++ flat_map (λ g. g.rules) rest ≡ rs ++ flat_map (λ g. g.rules) imports
  pub files_are : files ++ file_numbers (before + 1) rest ≡ fs ++ file_numbers 1 imports
  pub modes_are : modes ++ flat_map (λ g. g.modes) rest ≡ ms ++ flat_map (λ g. g.modes) imports

pub no_length : {A : Type 0} (xs : List A) → length xs ≡ 0 → xs ≡ []
no_length [] e = refl
no_length (x ∷ xs) e = absurd (omega (arith, e))

-- nothing is chosen of nothing
pub none_chosen : {A : Type 0} (bs : List Bool) → chosen {A = A} bs [] ≡ []
none_chosen [] = refl
none_chosen (b ∷ bs) = refl
