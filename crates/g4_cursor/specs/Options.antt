-- What options say.
use Rattle.std.specs.Prelude.{ℕ, List, [], ◌∷◌, Bool, false, ◌&&◌, ◌||◌, codes, bytes_eq}
use Rattle.g4_grammar_tokens.specs.declared.token.Kind.TheVariants as kinds
use Rattle.g4_source.specs.declared.prequel.Setting.{Setting}
use Rattle.g4_source.specs.declared.prequel.OptionValue.{OptionValue}
use Rattle.g4_source.specs.declared.prequel.OptionValue.TheVariants as values
use Rattle.g4_syntax.specs.Notation.{◌▸◌, optional, repeated, sign, name, with_commas}
use Rattle.g4_syntax.specs.Productions.{value, setting, options, element_option, element_options}
use Rattle.g4_syntax.specs.Trees.{Tree, both, left, right, absent, present, end, more}
use Rattle.g4_cursor.specs.Texts.{text_of, name_of}

-- the names after dots
abbrev pub names_after_dots : Tree (repeated (sign kinds.Dot ▸ name)) → List (List ℕ)
names_after_dots end = []
names_after_dots (more (both dot n) ns) = text_of n ∷ names_after_dots ns

-- names with dots between
abbrev pub dotted_names : Tree (name ▸ repeated (sign kinds.Dot ▸ name)) → List (List ℕ)
dotted_names (both n ns) = text_of n ∷ names_after_dots ns

-- the value of an option
abbrev pub value_of : Tree value → OptionValue
value_of (left ns) = values.Names (dotted_names ns)
value_of (right (left literal)) = values.Literal (text_of literal)
value_of (right (right (left number))) = values.Number (text_of number)
value_of (right (right (right (left action)))) = values.Action (text_of action)
value_of (right (right (right (right star)))) = values.Star

-- an option and its value
abbrev pub setting_of : Tree setting → Setting
setting_of (both n (both equals (both v semicolon))) = record { name = name_of n; value = value_of v }

-- settings in order
abbrev pub settings_in_order : Tree (repeated setting) → List Setting
settings_in_order end = []
settings_in_order (more s ss) = setting_of s ∷ settings_in_order ss

-- the settings of `options`
abbrev pub settings_of : Tree options → List Setting
settings_of (both keyword (both brace (both ss end_brace))) = settings_in_order ss

-- whether the value is the name `right`
abbrev pub is_right : OptionValue → Bool
is_right (values.Names (n ∷ [])) = bytes_eq n (codes "right")
is_right _ = false

-- whether the option of an element is `assoc=right`
abbrev pub says_right : Tree element_option → Bool
says_right (both n absent) = false
says_right (both n (present (both equals v))) = bytes_eq (text_of n) (codes "assoc") && is_right (value_of v)

-- whether one of the options after commas is `assoc=right`
abbrev pub one_says_right : Tree (repeated (sign kinds.Comma ▸ element_option)) → Bool
one_says_right end = false
one_says_right (more (both comma o) os) = says_right o || one_says_right os

-- the same of options with commas between
abbrev pub commas_say_right : Tree (with_commas element_option) → Bool
commas_say_right (both o os) = says_right o || one_says_right os

-- whether one of the options of an element is `assoc=right`
abbrev pub right_of : Tree element_options → Bool
right_of (both less (both os greater)) = commas_say_right os

-- the same where there may be none
abbrev pub right_of_optional : Tree (optional element_options) → Bool
right_of_optional absent = false
right_of_optional (present o) = right_of o
