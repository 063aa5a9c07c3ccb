-- Rules that are a literal: they call nothing, and have a name that no reference calls.
use Rattle.std.proofs.Common.{codes, ◌≡◌, inl, inr, ℕ, List, [], ◌∷◌, None, map, sym, subst}
use Rattle.g4_source.specs.Elements.{Alternatives, either}
use Rattle.g4_source.specs.declared.atom.Atom.{Atom}
use Rattle.g4_source.specs.declared.atom.AtomKind.TheVariants as kinds
use Rattle.g4_source.specs.declared.atom.Literal.{Literal}
use Rattle.g4_source.specs.declared.rule.LexerRule.{LexerRule}
use Rattle.g4_source.specs.declared.rule.LexerAlternative.{LexerAlternative}
use Rattle.g4_source.specs.Blocks.{LexerRuleIsFull}
use Rattle.g4_source.specs.Rules.{lexer_alternatives_of}
use Rattle.g4_source.specs.Full.{AreFullAlternatives}
use Rattle.g4_lexer_rules.specs.Lexable.{ReadsAtom, CallsNamed}
use Rattle.g4_lexer_rules.specs.Rules.{literal_alternative}
use Rattle.g4_lexer_rules.proofs.Renumbered.{IsClosed}

-- the rule is a literal, and has the name of the end of the file
abbrev pub IsLiteralRule : LexerRule → Type 0
IsLiteralRule rule = (literal : Literal) × (rule.alternatives ≡ literal_alternative literal ∷ []) × (rule.name ≡ codes "EOF")

-- the atom that is a literal
abbrev literal_atom : Literal → Atom
literal_atom literal = record { label = None; kind = kinds.Literal literal }

-- each block of a rule that is a literal has an alternative
pub literal_full : (rule : LexerRule) (literal : Literal) → rule.alternatives ≡ literal_alternative literal ∷ [] → LexerRuleIsFull rule
literal_full rule literal is =
    let P : List LexerAlternative → Type 0 = λ xs. AreFullAlternatives (map (λ a. a.elements) xs) in
    let one : P (literal_alternative literal ∷ []) = (tt, ((tt, tt), tt)) in
    subst P (sym is) one

module _ (names : List (List ℕ)) (made : List (Alternatives Atom)) where
  -- such a rule is closed
  pub literal_closed : (rule : LexerRule) → IsLiteralRule rule → IsClosed ReadsAtom (CallsNamed names) made (lexer_alternatives_of rule)
  literal_closed rule (literal, is, named) =
      let P : List LexerAlternative → Type 0 = λ xs. IsClosed ReadsAtom (CallsNamed names) made (either (map (λ a. a.elements) xs)) in
      let one : P (literal_alternative literal ∷ []) = record {
        callless = λ j has. elim has [ inl here ↦ elim here [ inl c ↦ c | inr n ↦ n ] | inr n ↦ n ];
        loopless = λ has. elim has [ inl here ↦ elim here [ inl c ↦ c | inr n ↦ n ] | inr n ↦ n ];
      } in
      subst P (sym is) one
