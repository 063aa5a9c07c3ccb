-- Bytes are UTF-8, or end being UTF-8 at one byte.
use Rattle.std.proofs.Common.{◌≡◌, ◌<◌, ◌⊎◌, inl, inr, ℕ, List, length, subst, sym, arith}
use Rattle.std.specs.Str.{IsUtf8, IsValidUpTo}
use Rattle.std.proofs.lemmas.List.{take_all}

-- a text has no byte at which it ends being one
pub not_both_texts : (bytes : List ℕ) (at : ℕ) → IsUtf8 bytes → IsValidUpTo bytes at → ⊥
not_both_texts bytes at utf8 up = up.longest (length bytes) up.short (subst IsUtf8 (sym (take_all (length bytes) bytes (omega arith))) utf8)

-- bytes end being text at one byte
pub one_end : (bytes : List ℕ) (at to : ℕ) → IsValidUpTo bytes at → IsValidUpTo bytes to → at ≡ to
one_end bytes at to p q = elim (compared at to) [
  | inl less ↦ absurd (p.longest to less q.front)
  | inr others ↦ elim others
      [ inl same ↦ same | inr more ↦ absurd (q.longest at more p.front) ]
]
  where
    compared : (a b : ℕ) → (a < b) ⊎ ((a ≡ b) ⊎ (b < a))
    compared a b = grind arith
