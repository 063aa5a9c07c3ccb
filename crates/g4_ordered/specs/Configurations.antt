-- The configurations of a lexer.
use Rattle.std.specs.Prelude.{◌≡◌, ◌⊎◌, ℕ, List, [], ◌∷◌, Bool, false, ◌||◌}

-- Where the match of a rule is: the rule, its outer alternative, a state, the return states of the calls that are open,
-- newest first, and whether it has gone through a reluctant decision.
pub record LexerConfig : Type 0 where
  pub rule : ℕ
  pub alternative : ℕ
  pub state : ℕ
  pub returns : List ℕ
  pub passed : Bool

-- where the match of an alternative begins
abbrev pub start : ℕ → ℕ → ℕ → LexerConfig
start rule alternative p = record { rule = rule; alternative = alternative; state = p; returns = []; passed = false }

-- the same configuration at another state
abbrev pub at : LexerConfig → ℕ → LexerConfig
at c t = record c { state = t }

-- the same at a target of a decision, which is reluctant or not
abbrev pub through : Bool → LexerConfig → ℕ → LexerConfig
through reluctant c t = record c { state = t; passed = reluctant || c.passed }

-- the same at another state, with other return states
abbrev pub at_with : LexerConfig → ℕ → List ℕ → LexerConfig
at_with c t returns = record c { state = t; returns = returns }

-- x is in the list
abbrev pub In : {X : Type 0} → X → List X → Type 0
In x [] = ⊥
In x (y ∷ ys) = (x ≡ y) ⊎ In x ys
