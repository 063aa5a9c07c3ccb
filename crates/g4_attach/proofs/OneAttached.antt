-- A parser grammar is attached to its lexer grammar in one way, or refused for one reason.
use Rattle.std.proofs.Common.{◌≡◌, ◌≢◌, ℕ, List, Option, Some, None, Result, Ok, Err, refl, sym, ap, ◌∙◌, arith}
use Rattle.g4_source.specs.declared.atom.Literal.{Literal}
use Rattle.g4_source.specs.declared.source.Source.{Source}
use Rattle.g4_token_file.specs.declared.entry.TokenEntry.{TokenEntry}
use Rattle.g4_attach.specs.Attaching.{IsAnswer, IsAttached, lexer_of}
use Rattle.g4_attach.specs.declared.attaching.Attached.{Attached}
use Rattle.g4_attach.specs.declared.fault.AttachFault.{AttachFault}
use Rattle.g4_attach.specs.declared.fault.AttachFault.TheVariants.{NotALexer, LiteralWithoutToken, Rules, Types, NoMemory}

none_and_some : {X : Type 0} {o : Option X} {x : X} → o ≡ None → o ≡ Some x → ⊥
none_and_some p q = cc

same_some : {X : Type 0} {o : Option X} {x y : X} → o ≡ Some x → o ≡ Some y → x ≡ y
same_some p q = let both = sym p ∙ q in cc

same_attached : (a b : Attached) → a.source ≡ b.source → a.table ≡ b.table → a ≡ b
same_attached a b source table =
    ap (λ (s : Source). record { source = s; table = a.table }) source
    ∙ ap (λ (t : List TokenEntry). record { source = b.source; table = t }) table

module _ (table : List TokenEntry) (parser : Source) where
  one_answer : (lexer : Option Source) (a b : Result Attached AttachFault) → IsAnswer table parser lexer a → IsAnswer table parser lexer b
      → a ≢ Err NoMemory → b ≢ Err NoMemory → a ≡ b
  one_answer None (Ok a) b p q n m = absurd p
  one_answer None (Err fault) (Ok b) p q n m = absurd q
  one_answer None (Err fault) (Err other) p q n m = ap (λ (f : AttachFault). Err f) (p ∙ sym q)
  one_answer (Some lexer) (Ok a) (Ok b) p q n m =
      ap (λ (x : Attached). Ok x) (same_attached a b (p.whole ∙ sym q.whole) (p.types ∙ sym q.types))
  one_answer (Some lexer) (Ok a) (Err (NotALexer name2)) p q n m = absurd q
  one_answer (Some lexer) (Ok a) (Err (LiteralWithoutToken text2)) p q n m = absurd (none_and_some p.named q.first)
  one_answer (Some lexer) (Ok a) (Err Rules) p q n m = absurd (omega (arith, p.few_rules, q.1))
  one_answer (Some lexer) (Ok a) (Err Types) p q n m = absurd (omega (arith, p.few_types, q.2))
  one_answer (Some lexer) (Ok a) (Err NoMemory) p q n m = absurd (m refl)
  one_answer (Some lexer) (Err (NotALexer name)) (Ok b) p q n m = absurd p
  one_answer (Some lexer) (Err (NotALexer name)) (Err (NotALexer name2)) p q n m = absurd p
  one_answer (Some lexer) (Err (NotALexer name)) (Err (LiteralWithoutToken text2)) p q n m = absurd p
  one_answer (Some lexer) (Err (NotALexer name)) (Err Rules) p q n m = absurd p
  one_answer (Some lexer) (Err (NotALexer name)) (Err Types) p q n m = absurd p
  one_answer (Some lexer) (Err (NotALexer name)) (Err NoMemory) p q n m = absurd p
  one_answer (Some lexer) (Err (LiteralWithoutToken text)) (Ok b) p q n m = absurd (none_and_some q.named p.first)
  one_answer (Some lexer) (Err (LiteralWithoutToken text)) (Err (NotALexer name2)) p q n m = absurd q
  one_answer (Some lexer) (Err (LiteralWithoutToken text)) (Err (LiteralWithoutToken text2)) p q n m =
      ap (λ (x : List ℕ). Err (LiteralWithoutToken x)) (p.is ∙ (ap (λ (l : Literal). l.written) (same_some p.first q.first) ∙ sym q.is))
  one_answer (Some lexer) (Err (LiteralWithoutToken text)) (Err Rules) p q n m = absurd (none_and_some q.0 p.first)
  one_answer (Some lexer) (Err (LiteralWithoutToken text)) (Err Types) p q n m = absurd (none_and_some q.0 p.first)
  one_answer (Some lexer) (Err (LiteralWithoutToken text)) (Err NoMemory) p q n m = absurd (m refl)
  one_answer (Some lexer) (Err Rules) (Ok b) p q n m = absurd (omega (arith, q.few_rules, p.1))
  one_answer (Some lexer) (Err Rules) (Err (NotALexer name2)) p q n m = absurd q
  one_answer (Some lexer) (Err Rules) (Err (LiteralWithoutToken text2)) p q n m = absurd (none_and_some p.0 q.first)
  one_answer (Some lexer) (Err Rules) (Err Rules) p q n m = refl
  one_answer (Some lexer) (Err Rules) (Err Types) p q n m = absurd (omega (arith, p.1, q.1))
  one_answer (Some lexer) (Err Rules) (Err NoMemory) p q n m = absurd (m refl)
  one_answer (Some lexer) (Err Types) (Ok b) p q n m = absurd (omega (arith, q.few_types, p.2))
  one_answer (Some lexer) (Err Types) (Err (NotALexer name2)) p q n m = absurd q
  one_answer (Some lexer) (Err Types) (Err (LiteralWithoutToken text2)) p q n m = absurd (none_and_some p.0 q.first)
  one_answer (Some lexer) (Err Types) (Err Rules) p q n m = absurd (omega (arith, p.1, q.1))
  one_answer (Some lexer) (Err Types) (Err Types) p q n m = refl
  one_answer (Some lexer) (Err Types) (Err NoMemory) p q n m = absurd (m refl)
  one_answer (Some lexer) (Err NoMemory) (Ok b) p q n m = absurd (n refl)
  one_answer (Some lexer) (Err NoMemory) (Err (NotALexer name2)) p q n m = absurd q
  one_answer (Some lexer) (Err NoMemory) (Err (LiteralWithoutToken text2)) p q n m = absurd (n refl)
  one_answer (Some lexer) (Err NoMemory) (Err Rules) p q n m = absurd (n refl)
  one_answer (Some lexer) (Err NoMemory) (Err Types) p q n m = absurd (n refl)
  one_answer (Some lexer) (Err NoMemory) (Err NoMemory) p q n m = absurd (n refl)

  pub one_attached : (lexer : Option Source) (a b : Result Attached AttachFault) → IsAttached table parser lexer a
      → IsAttached table parser lexer b → a ≢ Err NoMemory → b ≢ Err NoMemory → a ≡ b
  one_attached lexer a b p q n m = one_answer (lexer_of lexer) a b p q n m
