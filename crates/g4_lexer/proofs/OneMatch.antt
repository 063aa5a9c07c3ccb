-- There is at most one match at the front of a text.
use Rattle.std.proofs.Common.{◌≡◌, ◌⊎◌, inl, inr, ℕ, ◌<◌, List, [], drop, Option, refl, sym, ap, ◌∙◌, subst, arith}
use Rattle.g4_ordered.specs.Network.{LexerNetwork}
use Rattle.g4_ordered.specs.Configurations.{LexerConfig, In}
use Rattle.g4_ordered.specs.Lists.{HasEnd}
use Rattle.g4_ordered.specs.Matching.{IsFirst, here, later, EndsRule, ListAfter, IsLeastEnd, IsMatch, NoMatch}
use Rattle.g4_ordered.proofs.Once.{one_list}
use Rattle.g4_lexer.specs.declared.effects.Effects.{Effects}
use Rattle.g4_lexer.specs.declared.lexer.Lexer.{Lexer}
use Rattle.g4_lexer.specs.Commands.{after_commands}
use Rattle.g4_lexer.specs.Lexers.{starts_in, commands_of}
use Rattle.g4_lexer.specs.Lexing.{Course, before_commands, NextMatch}

-- what is the first is in the list, and has the property
first_in : (P : LexerConfig → Type 0) (xs : List LexerConfig) (c : LexerConfig) → IsFirst P xs c → In c xs × P c
first_in P xs c (here _ cs p) = (inl refl, p)
first_in P xs c (later _ d cs other h) = let r = first_in P cs c h in (inr r.0, r.1)

-- there is one first
one_first : (P : LexerConfig → Type 0) (xs : List LexerConfig) (c d : LexerConfig) → IsFirst P xs c → IsFirst P xs d → c ≡ d
one_first P xs c d (here _ cs p) (here _ _ q) = refl
one_first P xs c d (here _ cs p) (later _ _ _ other h) = absurd (other p)
one_first P xs c d (later _ _ cs other h) (here _ _ q) = absurd (other q)
one_first P xs c d (later _ _ cs other h) (later _ _ _ another g) = one_first P cs c d h g

module _ (net : LexerNetwork) where
  -- the end that a list gives is in it
  has_end : (list : List LexerConfig) (rule alternative : ℕ) → IsLeastEnd net list rule alternative → HasEnd net list rule
  has_end list rule alternative t = let f = first_in (EndsRule net rule) list t.first.0 t.first.1 in (t.first.0, f.0, f.1.0, f.1.1)

  -- a list gives one end
  one_told : (list : List LexerConfig) (rule alternative other choice : ℕ) → IsLeastEnd net list rule alternative
      → IsLeastEnd net list other choice → (rule ≡ other) × (alternative ≡ choice)
  one_told list rule alternative other choice x y =
      let up = x.least other (has_end list other choice y) in
      let down = y.least rule (has_end list rule alternative x) in
      let same : rule ≡ other = omega arith in
      let first = subst (λ r. IsFirst (EndsRule net r) list y.first.0) (sym same) y.first.1 in
      let one = one_first (EndsRule net rule) list x.first.0 y.first.0 x.first.1 first in
      (same, sym x.first.2 ∙ ap (λ (c : LexerConfig). c.alternative) one ∙ y.first.2)

  module _ (starts : List LexerConfig) (text : List ℕ) where
    -- what one match fixes
    pub record IsSame (n m rule other alternative choice : ℕ) : Type 0 where
      pub length_is : n ≡ m
      pub rule_is : rule ≡ other
      pub alternative_is : alternative ≡ choice

    -- no match is longer than another
    not_longer : (n m rule alternative other choice : ℕ) → IsMatch net starts text n rule alternative
        → IsMatch net starts text m other choice → n < m → ⊥
    not_longer n m rule alternative other choice x y less = x.longest m other y.list less y.after (has_end y.list other choice y.tells)

    as_long : (n m : ℕ) → (n < m → ⊥) → (m < n → ⊥) → n ≡ m
    as_long n m a b = go (compared n m)
      where
        compared : (i k : ℕ) → (i < k) ⊎ ((i ≡ k) ⊎ (k < i))
        compared i k = grind arith

        go : (n < m) ⊎ ((n ≡ m) ⊎ (m < n)) → n ≡ m
        go (inl less) = absurd (a less)
        go (inr (inl same)) = same
        go (inr (inr more)) = absurd (b more)

    -- there is at most one match
    pub one_match : (n m rule alternative other choice : ℕ) → IsMatch net starts text n rule alternative
        → IsMatch net starts text m other choice → IsSame n m rule other alternative choice
    one_match n m rule alternative other choice x y =
        let long : n ≡ m = as_long n m (not_longer n m rule alternative other choice x y)
        (not_longer m n other choice rule alternative y x) in
        let after = subst (λ k. ListAfter net starts text k y.list) (sym long) y.after in
        let list : x.list ≡ y.list = one_list net starts text (drop n text) x.list y.list x.after.1 after.1 in
        let told = one_told x.list rule alternative other choice x.tells
        (subst (λ (l : List LexerConfig). IsLeastEnd net l other choice) (sym list) y.tells) in
        record { length_is = long; rule_is = told.0; alternative_is = told.1 }

    -- where there is a match, some rule matches
    pub not_none : (n rule alternative : ℕ) → NoMatch net starts text → IsMatch net starts text n rule alternative → ⊥
    not_none n rule alternative none x = none n rule x.list x.some x.after (has_end x.list rule alternative x.tells)

module _ (lexer : Lexer) (s : Course) where
  -- what the next match fixes
  pub record IsSameNext (n m : ℕ) (e f : Option Effects) : Type 0 where
    pub length_is : n ≡ m
    pub effects_are : e ≡ f

  -- there is at most one next match
  pub one_next : (text : List ℕ) (n m : ℕ) (e f : Option Effects) → NextMatch lexer s text n e → NextMatch lexer s text m f
      → IsSameNext n m e f
  one_next text n m e f x y =
      let same = one_match lexer.net (starts_in lexer s.mode) text n m x.rule x.alternative y.rule y.alternative x.matches y.matches in
      let rules = ap (λ r. after_commands (commands_of lexer r x.alternative) (before_commands lexer s r)) same.rule_is in
      let alternatives = ap (λ a. after_commands (commands_of lexer y.rule a) (before_commands lexer s y.rule)) same.alternative_is in
      record { length_is = same.length_is; effects_are = sym x.carried_out ∙ rules ∙ alternatives ∙ y.carried_out }

  -- the empty text has none
  pub none_of_empty : (n : ℕ) (e : Option Effects) → NextMatch lexer s [] n e → ⊥
  none_of_empty n e x = omega (arith, x.matches.some, x.matches.after.0)

  -- where no rule matches there is none
  pub none_next : (text : List ℕ) (n : ℕ) (e : Option Effects) → NoMatch lexer.net (starts_in lexer s.mode) text
      → NextMatch lexer s text n e → ⊥
  none_next text n e none x = not_none lexer.net (starts_in lexer s.mode) text n x.rule x.alternative none x.matches
