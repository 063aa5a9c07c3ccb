-- The rules of a merged grammar are rules of its files.
use Rattle.std.proofs.Common.{◌≡◌, ◌⊎◌, ℕ, zero, suc, ◌<◌, List, [], ◌∷◌, ◌++◌, length, map, flat_map, get_or, take, drop, Option, Bool, true, false, cond, inl, inr, refl, sym, ap, ◌∙◌, subst, arith}
use Rattle.std.specs.List.{Contains}
use Rattle.std.specs.Option.{IfSome}
use Rattle.std.proofs.lemmas.List.{take-append-drop}
use Rattle.std.proofs.lemmas.List.Elements.{Contains-append_cases, Contains-append_left, Contains-append_right}
use Rattle.g4_source.specs.declared.rule.Rule.{Rule}
use Rattle.g4_source.specs.declared.source.Source.{Source}
use Rattle.g4_merge.specs.Merging.{all_rules, chosen, firsts, merged_of}
use Rattle.g4_merge.specs.declared.merging.Merged.{Merged}
use Rattle.g4_fetch.specs.declared.closure.GrammarFile.{GrammarFile}
use Rattle.g4_imports.specs.Composites.{AreComposites, AreOfFiles, IsComposite, RulesAreOfFiles, apart, as_one, sources_of}
use Rattle.g4_imports.specs.declared.composite.Composite.{Composite}
use Rattle.g4_imports.specs.declared.composite.Composites.{Composites}

-- what is among the others is among all
later : {A : Type 0} (y : A) (xs : List A) (x : A) → Contains xs x → Contains (y ∷ xs) x
later y xs x h = Contains-append_right (y ∷ []) xs x h

first_there : {A : Type 0} (x : A) (xs : List A) → Contains (x ∷ xs) x
first_there x xs = (0, omega arith, refl)

none_there : {A : Type 0} (x : A) → Contains [] x → ⊥
none_there x h = omega (arith, h.1)

-- the first, or one of the others
first_or_later : {A : Type 0} (y : A) (xs : List A) (x : A) → Contains (y ∷ xs) x → (y ≡ x) ⊎ Contains xs x
first_or_later y xs x (zero, less, is) = inl is
first_or_later y xs x (suc k, less, is) = inr (k, omega (arith, less), is)

-- what is chosen is there
chosen_there : {A : Type 0} (bs : List Bool) (xs : List A) (x : A) → Contains (chosen bs xs) x → Contains xs x
chosen_there [] xs x h = absurd (none_there x h)
chosen_there (b ∷ bs) [] x h = h
chosen_there (true ∷ bs) (y ∷ xs) x h = elim (first_or_later y (chosen bs xs) x h) [
  | inl same ↦ subst (Contains (y ∷ xs)) same (first_there y xs)
  | inr more ↦ later y xs x (chosen_there bs xs x more)
]
chosen_there (false ∷ bs) (y ∷ xs) x h = later y xs x (chosen_there bs xs x h)

-- a rule of the files is one of a file
rule_of_file : (files : List GrammarFile) (rule : Rule) → Contains (flat_map (λ (g : Source). g.rules) (sources_of files)) rule
    → (file : GrammarFile) × Contains files file × Contains file.source.rules rule
rule_of_file [] rule h = absurd (none_there rule h)
rule_of_file (file ∷ files) rule h =
    elim (Contains-append_cases file.source.rules (flat_map (λ (g : Source). g.rules) (sources_of files)) rule h) [
      | inl here ↦ (file, first_there file files, here)
      | inr more ↦ (let found = rule_of_file files rule more in (found.0, later file files found.0 found.1, found.2))
    ]

-- a file of a part is one of all
kept_in : (part files : List GrammarFile) (composite : Composite) → ((file : GrammarFile) → Contains part file → Contains files file)
    → RulesAreOfFiles part composite → RulesAreOfFiles files composite
kept_in part files composite more of rule h = let found = of rule h in (found.0, more found.0 found.1, found.2)

in_front : (number : ℕ) (files : List GrammarFile) (file : GrammarFile) → Contains (take number files) file → Contains files file
in_front number files file h = subst (λ (fs : List GrammarFile). Contains fs file) (take-append-drop number files)
    (Contains-append_left (take number files) (drop number files) file h)

behind : (number : ℕ) (files : List GrammarFile) (file : GrammarFile) → Contains (drop number files) file → Contains files file
behind number files file h = subst (λ (fs : List GrammarFile). Contains fs file) (take-append-drop number files)
    (Contains-append_right (take number files) (drop number files) file h)

pub rules_kept : (files : List GrammarFile) (composite : Composite) → IsComposite files composite → RulesAreOfFiles files composite
rules_kept files composite is rule h =
    let sources = sources_of is.imports in
    let merged : composite.merged.source.rules ≡ chosen (firsts (all_rules is.main.source sources)) (all_rules is.main.source sources) =
    ap (λ (m : Merged). m.source.rules) is.merged in
    let there = chosen_there (firsts (all_rules is.main.source sources)) (all_rules is.main.source sources) rule
    (subst (λ (rs : List Rule). Contains rs rule) merged h) in
    subst (λ (fs : List GrammarFile). (file : GrammarFile) × Contains fs file × Contains file.source.rules rule) (sym is.parts)
    (rule_of_file (is.main ∷ is.imports) rule there)

-- the rules of a grammar and of its lexer grammar
pub all_kept : (files : List GrammarFile) (lexer : Option ℕ) (composites : Composites) → AreComposites files lexer composites
    → AreOfFiles files composites
all_kept files _ composites (as_one _ is none) =
    (rules_kept files composites.grammar is, subst (λ (o : Option Composite). IfSome o (RulesAreOfFiles files)) (sym none) tt)
all_kept files _ composites (apart number _ lexer is there also) = (
  kept_in (take number files) files composites.grammar (in_front number files) (rules_kept (take number files) composites.grammar is),
  subst (λ (o : Option Composite). IfSome o (RulesAreOfFiles files)) (sym there)
      (kept_in (drop number files) files lexer (behind number files) (rules_kept (drop number files) lexer also)),
)
