-- Where no name is repeated among rules, their names differ; so do those of a main grammar's rules.
use Rattle.std.proofs.Common.{◌≡◌, ℕ, zero, suc, List, [], ◌∷◌, ◌++◌, Bool, true, false, cond, ◌||◌, Option, Some, None, refl, sym, ap, ◌∙◌, subst}
use Rattle.std.specs.List.{list_any, slice_get}
use Rattle.std.specs.Str.{bytes_eq}
use Rattle.std.proofs.lemmas.List.Folds.{list_any-append}
use Rattle.std.proofs.lemmas.Slice.Eq.{bytes_eq-Decides}
use Rattle.std.proofs.lemmas.List.Elements.{All-head}
use Rattle.g4_source.specs.First.{IsNone}
use Rattle.g4_source.specs.Rules.{rule_name}
use Rattle.g4_source.specs.declared.rule.Rule.{Rule}
use Rattle.g4_merge.specs.Laws.{NamesDiffer}
use Rattle.g4_vocab.specs.Names.{first_repeated}
use Rattle.g4_fetch.specs.declared.closure.GrammarFile.{GrammarFile}
use Rattle.g4_imports.specs.Faults.{RepeatsRule}
use Rattle.g4_imports.specs.declared.fault.ImportFault.{ImportFault}
use Rattle.g4_imports.specs.declared.fault.ImportFault.TheVariants.{RuleTwice}

not_repeated : (b : Bool) (name : List ℕ) (rest : Option (List ℕ)) → cond b (Some name) rest ≡ None → b ≡ false
not_repeated true name rest e = cc
not_repeated false name rest e = refl

none_after : (b : Bool) (name : List ℕ) (rest : Option (List ℕ)) → cond b (Some name) rest ≡ None → rest ≡ None
none_after true name rest e = absurd (let no_way : ⊥ = cc in no_way)
none_after false name rest e = e

neither_left : (a b : Bool) → (a || b) ≡ false → a ≡ false
neither_left true b e = e
neither_left false b e = refl

neither_right : (a b : Bool) → (a || b) ≡ false → b ≡ false
neither_right true b e = absurd (let no_way : ⊥ = cc in no_way)
neither_right false b e = e

-- no rule has an earlier name
abbrev AreNew : List (List ℕ) → List Rule → Type 0
AreNew earlier rules = (k : ℕ) (a : Rule) → slice_get rules k ≡ Some a → list_any (bytes_eq (rule_name a)) earlier ≡ false

the_same : (a b : Rule) → Some a ≡ Some b → a ≡ b
the_same a b e = cc

true_or_false : (b : Bool) → b ≡ true → b ≡ false → ⊥
true_or_false b p q = cc

new_rules : (earlier : List (List ℕ)) (rules : List Rule) → first_repeated earlier rules ≡ None → AreNew earlier rules
new_rules earlier [] e k a at = absurd (let no_way : ⊥ = cc in no_way)
new_rules earlier (rule ∷ rules) e zero a at =
    subst (λ (r : Rule). list_any (bytes_eq (rule_name r)) earlier ≡ false) (the_same rule a at)
    (not_repeated (list_any (bytes_eq (rule_name rule)) earlier) (rule_name rule)
    (first_repeated (earlier ++ rule_name rule ∷ []) rules) e)
new_rules earlier (rule ∷ rules) e (suc k) a at =
    let more = new_rules (earlier ++ rule_name rule ∷ []) rules
    (none_after (list_any (bytes_eq (rule_name rule)) earlier) (rule_name rule)
    (first_repeated (earlier ++ rule_name rule ∷ []) rules) e) k a at in
    neither_left (list_any (bytes_eq (rule_name a)) earlier) (list_any (bytes_eq (rule_name a)) (rule_name rule ∷ []))
    (sym (list_any-append (bytes_eq (rule_name a)) earlier (rule_name rule ∷ [])) ∙ more)

-- a later rule has another name than the first
other_name : (earlier : List (List ℕ)) (rule : Rule) (rules : List Rule) → first_repeated earlier (rule ∷ rules) ≡ None
    → (k : ℕ) (a : Rule) → slice_get rules k ≡ Some a → rule_name a ≡ rule_name rule → ⊥
other_name earlier rule rules e k a at same =
    let more = new_rules (earlier ++ rule_name rule ∷ []) rules
    (none_after (list_any (bytes_eq (rule_name rule)) earlier) (rule_name rule)
    (first_repeated (earlier ++ rule_name rule ∷ []) rules) e) k a at in
    let last = neither_right (list_any (bytes_eq (rule_name a)) earlier) (list_any (bytes_eq (rule_name a)) (rule_name rule ∷ []))
    (sym (list_any-append (bytes_eq (rule_name a)) earlier (rule_name rule ∷ [])) ∙ more) in
    true_or_false (bytes_eq (rule_name a) (rule_name rule)) ((bytes_eq-Decides (rule_name a) (rule_name rule)).1 same)
    (neither_left (bytes_eq (rule_name a) (rule_name rule)) false last)

pub names_differ : (earlier : List (List ℕ)) (rules : List Rule) → first_repeated earlier rules ≡ None → NamesDiffer rules
names_differ earlier [] e i j a b at also same = absurd (let no_way : ⊥ = cc in no_way)
names_differ earlier (rule ∷ rules) e zero zero a b at also same = refl
names_differ earlier (rule ∷ rules) e zero (suc j) a b at also same =
    absurd (other_name earlier rule rules e j b also (sym same ∙ sym (ap rule_name (the_same rule a at))))
names_differ earlier (rule ∷ rules) e (suc i) zero a b at also same =
    absurd (other_name earlier rule rules e i a at (same ∙ sym (ap rule_name (the_same rule b also))))
names_differ earlier (rule ∷ rules) e (suc i) (suc j) a b at also same =
    ap suc (names_differ (earlier ++ rule_name rule ∷ []) rules
    (none_after (list_any (bytes_eq (rule_name rule)) earlier) (rule_name rule)
    (first_repeated (earlier ++ rule_name rule ∷ []) rules) e) i j a b at also same)

pub same_main : (x y : GrammarFile) (xs ys : List GrammarFile) → x ∷ xs ≡ y ∷ ys → x ≡ y
same_main x y xs ys e = cc

-- where no file repeats a name the names of the main one's rules differ
pub main_differs : (main : GrammarFile) (imports : List GrammarFile) → IsNone RepeatsRule (main ∷ imports) → NamesDiffer main.source.rules
main_differs main imports own =
    names_differ [] main.source.rules (none_repeated (first_repeated [] main.source.rules) refl)
  where
    none_repeated : (o : Option (List ℕ)) → first_repeated [] main.source.rules ≡ o → first_repeated [] main.source.rules ≡ None
    none_repeated None is = is
    none_repeated (Some rule) is =
        absurd (All-head (λ (f : GrammarFile). (fault : ImportFault) → RepeatsRule f fault → ⊥) main imports own
        (RuleTwice main.name rule) (rule, is, refl))
