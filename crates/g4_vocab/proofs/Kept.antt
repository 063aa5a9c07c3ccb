-- Which rules are a literal and nothing else, with one rule more.
use Rattle.std.proofs.Common.{◌≡◌, ℕ, ◌+◌, ◌<◌, List, [], ◌∷◌, ◌++◌, length, map, take, get_or, filter, Bool, true, false, cond, Option, Some, None, option_map, refl, sym, ap, ◌∙◌, subst}
use Rattle.std.specs.Borrow.{Bor}
use Rattle.std.proofs.lemmas.List.Elements.{filter-append}
use Rattle.std.proofs.lemmas.List.{append-nil, map-append, take_more}
use Rattle.std.specs.Option.{is_some}
use Rattle.std.specs.Str.{bytes_eq}
use Rattle.g4_source.specs.declared.atom.Literal.{Literal}
use Rattle.g4_source.specs.declared.rule.LexerRule.{LexerRule}
use Rattle.g4_vocab.specs.Numbering.{default_literal, is_whole, named_rule, only_name, stands_for}
use Rattle.g4_vocab.specs.Tables.{TextMap, AreWholes, AddsRule, at, kept, kept_name, kept_more}
use Rattle.g4_vocab.proofs.Keys.{bytes_same, bytes_eq-sym}

-- what is kept of one rule more
kept_name-push : (xs : List LexerRule) (rule : LexerRule) → kept_name (xs ++ rule ∷ []) ≡ kept_more (kept_name xs) rule.name
kept_name-push [] rule = refl
kept_name-push (x ∷ []) rule = refl
kept_name-push (x ∷ y ∷ more) rule = refl

-- one rule more
pub wholes_more : (lexers : List LexerRule) (rule : LexerRule) (old new : TextMap (Option (Bor (List ℕ)))) → AddsRule rule old new
    → AreWholes lexers old → AreWholes (lexers ++ rule ∷ []) new
wholes_more lexers rule old new adds h characters =
    adds characters
    ∙ (ap (λ (k : Option (Option (List ℕ))). cond (is_whole characters rule) (kept_more k rule.name) k) (h characters)
    ∙ (by (is_whole characters rule) ∙ sym (ap kept_name (filter-append (is_whole characters) lexers (rule ∷ [])))))
  where
    by : (b : Bool) → cond b (kept_more (kept_name (filter (is_whole characters) lexers)) rule.name)
        (kept_name (filter (is_whole characters) lexers)) ≡ kept_name (filter (is_whole characters) lexers ++ cond b (rule ∷ []) [])
    by true = sym (kept_name-push (filter (is_whole characters) lexers) rule)
    by false = sym (ap kept_name (append-nil (filter (is_whole characters) lexers)))

-- what a map keeps, as texts
abbrev pub texts : Option (Bor (List ℕ)) → Option (List ℕ)
texts only = option_map (λ name. name.now) only

-- a rule that is no literal
pub none_kept : (rule : LexerRule) (names : TextMap (Option (Bor (List ℕ)))) → default_literal rule ≡ None
    → AddsRule rule names names
none_kept rule names is characters = sym (ap
    (λ (o : Option Literal). cond (stands_for characters o) (kept_more (kept names characters) rule.name) (kept names characters)) is)

-- a rule that is a literal
pub rule_kept : (rule : LexerRule) (literal : Literal) (old new : TextMap (Option (Bor (List ℕ)))) (only : Option (Bor (List ℕ)))
    → default_literal rule ≡ Some literal →
    ((characters : List ℕ) → at new characters ≡ cond (bytes_eq literal.characters characters) (Some only) (at old characters))
    → Some (texts only) ≡ kept_more (kept old literal.characters) rule.name → AddsRule rule old new
rule_kept rule literal old new only is put same characters =
    ap (λ (o : Option (Option (Bor (List ℕ)))). option_map texts o)
    (put characters ∙ ap (λ (b : Bool). cond b (Some only) (at old characters)) (bytes_eq-sym literal.characters characters))
    ∙ (by (bytes_eq characters literal.characters) refl
    ∙ sym (ap (λ (o : Option Literal). cond (stands_for characters o) (kept_more (kept old characters) rule.name)
    (kept old characters)) is))
  where
    by : (b : Bool) → bytes_eq characters literal.characters ≡ b
        → option_map texts (cond b (Some only) (at old characters))
        ≡ cond b (kept_more (kept old characters) rule.name) (kept old characters)
    by true e = same ∙ ap (λ (cs : List ℕ). kept_more (kept old cs) rule.name) (sym (bytes_same characters literal.characters e))
    by false e = refl

-- what is kept where the characters are there, and where they are not
pub several : (old : TextMap (Option (Bor (List ℕ)))) (characters name : List ℕ) → is_some (at old characters) ≡ true
    → Some None ≡ kept_more (kept old characters) name
several old characters name some = by (at old characters) some
  where
    by : (o : Option (Option (Bor (List ℕ)))) → is_some o ≡ true → Some None ≡ kept_more (option_map texts o) name
    by None e = cc
    by (Some only) e = refl

pub alone : (old : TextMap (Option (Bor (List ℕ)))) (characters name : List ℕ) → is_some (at old characters) ≡ false
    → Some (Some name) ≡ kept_more (kept old characters) name
alone old characters name none = by (at old characters) none
  where
    by : (o : Option (Option (Bor (List ℕ)))) → is_some o ≡ false → Some (Some name) ≡ kept_more (option_map texts o) name
    by None e = refl
    by (Some only) e = cc

-- the name that is kept
pub named_kept : (lexers : List LexerRule) (names : TextMap (Option (Bor (List ℕ)))) (characters : List ℕ)
    (only : Option (Option (Bor (List ℕ)))) → AreWholes lexers names → at names characters ≡ only
    → option_map texts only ≡ kept_name (filter (is_whole characters) lexers)
named_kept lexers names characters only h e = ap (option_map texts) (sym e) ∙ h characters

-- of nothing or of several rules there is none
pub named_none : (lexers : List LexerRule) (names : TextMap (Option (Bor (List ℕ)))) (characters : List ℕ) → AreWholes lexers names
    → at names characters ≡ None → None ≡ named_rule lexers characters
named_none lexers names characters h e = by (filter (is_whole characters) lexers) (named_kept lexers names characters None h e)
  where
    by : (xs : List LexerRule) → None ≡ kept_name xs → None ≡ only_name xs
    by [] k = refl
    by (x ∷ []) k = cc
    by (x ∷ y ∷ more) k = refl

-- and of one rule it is its name
pub named_some : (lexers : List LexerRule) (names : TextMap (Option (Bor (List ℕ)))) (characters : List ℕ)
    (only : Option (Bor (List ℕ))) → AreWholes lexers names → at names characters ≡ Some only → texts only ≡ named_rule lexers characters
named_some lexers names characters only h e = by (filter (is_whole characters) lexers) (named_kept lexers names characters (Some only) h e)
  where
    by : (xs : List LexerRule) → Some (texts only) ≡ kept_name xs → texts only ≡ only_name xs
    by [] k = cc
    by (x ∷ []) k = cc
    by (x ∷ y ∷ more) k = cc

-- one rule more of a list that is gone through
pub wholes_step : (rules : List (Bor LexerRule)) (i : ℕ) (rule : Bor LexerRule) (old new : TextMap (Option (Bor (List ℕ))))
    → i < length rules → rule ≡ get_or rules i rule → AddsRule rule.now old new → AreWholes (map (λ r. r.now) (take i rules)) old →
    AreWholes (map (λ r. r.now) (take (i + 1) rules)) new
wholes_step rules i rule old new within item adds h =
    let next : take (i + 1) rules ≡ take i rules ++ rule ∷ [] =
    take_more rules i rule within ∙ ap (λ (z : Bor LexerRule). take i rules ++ z ∷ []) (sym item) in
    let split : map (λ (r : Bor LexerRule). r.now) (take (i + 1) rules)
    ≡ map (λ (r : Bor LexerRule). r.now) (take i rules) ++ rule.now ∷ [] =
    ap (map (λ (r : Bor LexerRule). r.now)) next ∙ map-append (λ (r : Bor LexerRule). r.now) (take i rules) (rule ∷ []) in
    subst (λ (ls : List LexerRule). AreWholes ls new) (sym split)
    (wholes_more (map (λ (r : Bor LexerRule). r.now) (take i rules)) rule.now old new adds h)
