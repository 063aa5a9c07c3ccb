-- Names that are looked up: their order, and how often each is there, do not matter.
use Rattle.std.specs.Prelude.{◌≡◌, ℕ, List, ◌||◌, ◌&&◌, count_by, nat_le}
use Rattle.g4_source.specs.declared.atom.Atom.{Atom}
use Rattle.g4_source.specs.declared.rule.ParserRule.{ParserRule}
use Rattle.g4_checks.specs.Labels.{has_label}
use Rattle.g4_checks.specs.Names.{is_one_of}

-- each text is one of both lists of names or of none
abbrev pub AreSame : List (List ℕ) → List (List ℕ) → Type 0
AreSame names others = (text : List ℕ) → is_one_of names text ≡ is_one_of others text

-- the new names are the old ones and more
abbrev pub AddsAll : List (List ℕ) → List (List ℕ) → List (List ℕ) → Type 0
AddsAll old more new = (text : List ℕ) → is_one_of new text ≡ (is_one_of old text || is_one_of more text)

-- the labels that are in one of the rules or more, and in two or more
pub record Counts (rules : List (ParserRule Atom)) (once again : List (List ℕ)) : Type 0 where
  pub in_one : (n : List ℕ) → is_one_of once n ≡ nat_le 1 (count_by (has_label n) rules)
  pub in_two : (n : List ℕ) → is_one_of again n ≡ nat_le 2 (count_by (has_label n) rules)

-- the same of some rules and one more, of which these are some labels: `before` are the labels of the rules before, and
-- `twice` those that are in two of them
pub record Counting (before twice own once again : List (List ℕ)) : Type 0 where
  pub in_one : (n : List ℕ) → is_one_of once n ≡ (is_one_of before n || is_one_of own n)
  pub in_two : (n : List ℕ) → is_one_of again n ≡ (is_one_of twice n || (is_one_of before n && is_one_of own n))
