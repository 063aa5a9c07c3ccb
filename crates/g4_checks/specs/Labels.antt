-- The labels of alternatives, and the faults of them.
use Rattle.std.specs.Prelude.{◌≡◌, ℕ, List, [], ◌∷◌, ◌++◌, map, Bool, true, ◌&&◌, ◌||◌, Option, is_some, is_none, count_by, nat_le, MatchBool, encode_utf8, encode_utf8_all}
use Rattle.std.specs.List.{filter_map, list_any}
use Rattle.std.specs.Str.{chars}
use Rattle.std.specs.StrCase.Upper.{str_to_uppercase}
use Rattle.g4_source.specs.declared.atom.Atom.{Atom}
use Rattle.g4_source.specs.declared.rule.ParserRule.{ParserRule}
use Rattle.g4_source.specs.declared.rule.RuleAlternative.{RuleAlternative}
use Rattle.g4_source.specs.First.{IsFirst}
use Rattle.g4_checks.specs.Names.{is_one_of}

-- the label of an alternative, where it has one
abbrev pub label_of : RuleAlternative Atom → Option (List ℕ)
label_of alternative = alternative.label

-- the labels of a rule in order
abbrev pub labels_of : ParserRule Atom → List (List ℕ)
labels_of rule = filter_map label_of rule.alternatives

-- some of the alternatives have a label, and some have none
abbrev pub are_partly_labelled : List (RuleAlternative Atom) → Bool
are_partly_labelled alternatives = list_any (λ a. is_some a.label) alternatives && list_any (λ a. is_none a.label) alternatives

-- an alternative of the rule has this label
abbrev pub has_label : List ℕ → ParserRule Atom → Bool
has_label n rule = is_one_of (labels_of rule) n

-- the label is in two rules or more
abbrev pub is_in_two : List (ParserRule Atom) → List ℕ → Bool
is_in_two rules n = nat_le 2 (count_by (has_label n) rules)

-- the text of these characters, of which the first is made upper case
abbrev pub capital : List ℕ → List ℕ
capital [] = []
capital (c ∷ cs) = str_to_uppercase (encode_utf8 c) ++ encode_utf8_all cs

-- the name with its first letter made upper case
abbrev pub capitalised : List ℕ → List ℕ
capitalised name = capital (chars name)

-- the names of the rules, each with its first letter made upper case
abbrev pub capitalised_names : List (ParserRule Atom) → List (List ℕ)
capitalised_names rules = map (λ rule. capitalised rule.name) rules

-- the label is in two rules, or is the name of a rule with its first letter made upper case
abbrev pub clashes : List (ParserRule Atom) → List ℕ → Bool
clashes rules n = is_in_two rules n || is_one_of (capitalised_names rules) n

-- n is this label, and it clashes
abbrev pub IsClash : (List ℕ → Bool) → List ℕ → List ℕ → Type 0
IsClash does_clash label n = (n ≡ label) × (does_clash label ≡ true)

-- n is the name of a rule that is partly labelled, or else the first label of the rule that clashes
abbrev pub HasClash : (List ℕ → Bool) → ParserRule Atom → List ℕ → Type 0
HasClash does_clash rule n = MatchBool (are_partly_labelled rule.alternatives) (n ≡ rule.name)
    (IsFirst (IsClash does_clash) (labels_of rule) n)
