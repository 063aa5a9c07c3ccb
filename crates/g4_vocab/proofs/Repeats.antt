-- Names that are used twice.
use Rattle.std.proofs.Common.{◌≡◌, ℕ, ◌+◌, ◌<◌, List, [], ◌∷◌, ◌++◌, length, take, drop, map, get_or, Bool, true, false, cond, ◌||◌, Some, sym, ap, ◌∙◌, refl}
use Rattle.std.specs.Borrow.{Bor}
use Rattle.std.specs.BTreeSet.{BTreeSet, contains, Updates}
use Rattle.std.specs.declared.cmp.Ordering.{Ordering}
use Rattle.std.specs.Cmp.Lexicographic.{slice_cmp}
use Rattle.std.specs.Ordering.{nat_cmp, is_eq}
use Rattle.std.specs.List.{list_any}
use Rattle.std.specs.Str.{bytes_eq}
use Rattle.std.proofs.lemmas.List.{drop_more, take_more, map-append}
use Rattle.std.proofs.lemmas.List.Folds.{list_any-append}
use Rattle.std.proofs.lemmas.Map.Text.{is_eq-slice_cmp}
use Rattle.g4_source.specs.declared.rule.Rule.{Rule}
use Rattle.g4_source.specs.Rules.{rule_name}
use Rattle.g4_vocab.specs.Names.{first_repeated}
use Rattle.g4_vocab.proofs.Keys.{bytes_eq-sym}

-- the order of texts
abbrev pub text_cmp : Bor (List ℕ) → Bor (List ℕ) → Ordering
text_cmp x y = slice_cmp nat_cmp x.now y.now

-- What is known at a rule: the set has the names of the rules before it, none of which is used twice.
pub record Passed (rules : List Rule) (set : BTreeSet (Bor (List ℕ))) (at : ℕ) (names : List (List ℕ)) : Type 0 where
  pub has : (name : Bor (List ℕ)) → contains text_cmp set name ≡ list_any (bytes_eq name.now) names
  pub rest : first_repeated names (drop at rules) ≡ first_repeated [] rules

-- the names of the rules before
abbrev pub names_before : List Rule → ℕ → List (List ℕ)
names_before rules at = map rule_name (take at rules)

-- before the first rule
pub none_passed : (rules : List Rule) (set : BTreeSet (Bor (List ℕ))) → set.keys ≡ [] → Passed rules set 0 (names_before rules 0)
none_passed rules set empty = record {
  has =
      λ name. ap (λ (keys : List (Bor (List ℕ))). list_any (λ k. is_eq (text_cmp name k)) keys) empty;
  rest = refl;
}

module _ (rules : List Rule) (old new : BTreeSet (Bor (List ℕ))) (at : ℕ) (rule : Rule) (key : Bor (List ℕ))
    (h : Passed rules old at (names_before rules at)) (within : at < length rules) (item : rule ≡ get_or rules at rule)
    (named : key.now ≡ rule_name rule) where
  -- the rules from this one on
  split : drop at rules ≡ rule ∷ drop (at + 1) rules
  split = drop_more rules at rule within ∙ ap (λ (r : Rule). r ∷ drop (at + 1) rules) (sym item)

  -- whether the name is used before
  used : (again : Bool) → contains text_cmp old key ≡ again → list_any (bytes_eq (rule_name rule)) (names_before rules at) ≡ again
  used again is = ap (λ (n : List ℕ). list_any (bytes_eq n) (names_before rules at)) (sym named) ∙ (sym (h.has key) ∙ is)

  -- the name is used again
  pub repeated : contains text_cmp old key ≡ true → Some key.now ≡ first_repeated [] rules
  repeated is =
      ap (λ (n : List ℕ). Some n) named
      ∙ (sym (ap (λ (b : Bool). cond b (Some (rule_name rule))
      (first_repeated (names_before rules at ++ rule_name rule ∷ []) (drop (at + 1) rules))) (used true is))
      ∙ (ap (first_repeated (names_before rules at)) (sym split) ∙ h.rest))

  -- the names up to this rule
  names_more : names_before rules (at + 1) ≡ names_before rules at ++ rule_name rule ∷ []
  names_more = ap (map rule_name) (take_more rules at rule within ∙ ap (λ (r : Rule). take at rules ++ r ∷ []) (sym item))
      ∙ map-append rule_name (take at rules) (rule ∷ [])

  -- the name is new
  pub passed : contains text_cmp old key ≡ false → Updates text_cmp old new key true
      → Passed rules new (at + 1) (names_before rules (at + 1))
  passed is updates = record {
    has = λ name.
        updates.0 name
        ∙ (ap (λ (b : Bool). cond b true (contains text_cmp old name)) (is_eq-slice_cmp key.now name.now ∙ bytes_eq-sym key.now name.now)
        ∙ (ap (λ (b : Bool). cond (bytes_eq name.now key.now) true b) (h.has name)
        ∙ (as_or (list_any (bytes_eq name.now) (names_before rules at)) (bytes_eq name.now key.now)
        ∙ (ap (λ (n : List ℕ). list_any (bytes_eq name.now) (names_before rules at) || (bytes_eq name.now n || false)) named
        ∙ (sym (list_any-append (bytes_eq name.now) (names_before rules at) (rule_name rule ∷ []))
        ∙ ap (list_any (bytes_eq name.now)) (sym names_more))))));
    rest =
        ap (λ (ns : List (List ℕ)). first_repeated ns (drop (at + 1) rules)) names_more
        ∙ (sym (ap (λ (b : Bool). cond b (Some (rule_name rule))
        (first_repeated (names_before rules at ++ rule_name rule ∷ []) (drop (at + 1) rules))) (used false is))
        ∙ (ap (first_repeated (names_before rules at)) (sym split) ∙ h.rest));
  }
    where
      as_or : (a b : Bool) → cond b true a ≡ (a || (b || false))
      as_or true true = refl
      as_or true false = refl
      as_or false true = refl
      as_or false false = refl
