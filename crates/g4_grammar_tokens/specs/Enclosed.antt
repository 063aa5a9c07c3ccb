-- Where literals and sets end.
use Rattle.std.specs.Prelude.{◌≡◌, ℕ, ◌+◌, false, true, List, ◌∷◌, Option, Some, None, drop, ◌==◌, if◌then◌else◌}
use Rattle.g4_chars.specs.Escapes.{escape, breaks}
use Rattle.g4_chars.specs.declared.escape.Context.{Context}

-- how many characters after this one belong to it: those of a good escape after a backslash, else 0. The answer is None
-- at a bad escape, and where a line ends a literal
abbrev pub unit_more : Context → ℕ → List ℕ → Option ℕ
unit_more context c rest =
    if breaks context c then None
    else (if c == 92 then elim (escape context rest) [ Some e ↦ Some e.taken | None ↦ None ] else Some 0)

-- the text has this many characters up to the one that closes, that included, and no bad escape among them
pub data Encloses (context : Context) (close : ℕ) : List ℕ → ℕ → Type 0 where
  at_close : (c : ℕ) (cs : List ℕ) → (c == close) ≡ true → Encloses context close (c ∷ cs) 1
  one_more : (c more n : ℕ) (cs : List ℕ) → (c == close) ≡ false → unit_more context c cs ≡ Some more
      → Encloses context close (drop more cs) n → Encloses context close (c ∷ cs) (1 + more + n)
