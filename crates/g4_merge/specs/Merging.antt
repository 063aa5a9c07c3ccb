-- A grammar and its imports as one.
use Rattle.std.specs.Prelude.{ℕ, suc, List, [], ◌∷◌, ◌++◌, map, filter, flat_map, length, replicate, Bool, true, false, not, cond}
use Rattle.std.specs.List.{list_any}
use Rattle.std.specs.Str.{bytes_eq}
use Rattle.g4_source.specs.Rules.{rule_name}
use Rattle.g4_source.specs.declared.prequel.Prequel.{Prequel}
use Rattle.g4_source.specs.declared.prequel.Prequel.TheVariants.{Options, Import, Tokens, Channels}
use Rattle.g4_source.specs.declared.rule.Rule.{Rule}
use Rattle.g4_source.specs.declared.source.Source.{Source}
use Rattle.g4_merge.specs.declared.merging.Merged.{Merged}

-- it declares names of tokens or channels, which the importing grammar gets too
abbrev pub declares : Prequel → Bool
declares (Options settings) = false
declares (Import place names) = false
declares (Tokens place names) = true
declares (Channels place names) = true

-- what imports declare before their rules, in order
abbrev pub declared_by : List Source → List Prequel
declared_by imports = flat_map (λ g. filter declares g.prequels) imports

-- the rules of all grammars in order
abbrev pub all_rules : Source → List Source → List Rule
all_rules main imports = main.rules ++ flat_map (λ g. g.rules) imports

-- of each rule of grammars in order the number of its file, where files count from this number
abbrev pub file_numbers : ℕ → List Source → List ℕ
file_numbers file [] = []
file_numbers file (g ∷ gs) = replicate (length g.rules) file ++ file_numbers (suc file) gs

-- one of the names is this one
abbrev pub has_name : List (List ℕ) → List ℕ → Bool
has_name names name = list_any (λ other. bytes_eq other name) names

-- of each name whether it is neither one of the earlier ones nor one before it in the list
abbrev pub are_new : List (List ℕ) → List (List ℕ) → List Bool
are_new earlier [] = []
are_new earlier (name ∷ names) = not (has_name earlier name) ∷ are_new (earlier ++ name ∷ []) names

-- those at whose places it is true
abbrev pub chosen : {A : Type 0} → List Bool → List A → List A
chosen [] xs = []
chosen (b ∷ bs) [] = []
chosen (b ∷ bs) (x ∷ xs) = cond b (x ∷ chosen bs xs) (chosen bs xs)

-- of rules with one name the first
abbrev pub firsts : List Rule → List Bool
firsts rules = are_new [] (map rule_name rules)

-- the main grammar with its imports
abbrev pub merged_of : Source → List Source → Merged
merged_of main imports = record {
  source = record main {
    prequels = main.prequels ++ declared_by imports;
    rules = chosen (firsts (all_rules main imports)) (all_rules main imports);
    modes = main.modes ++ flat_map (λ g. g.modes) imports;
  };
  files = chosen (firsts (all_rules main imports)) (file_numbers 0 (main ∷ imports));
}
