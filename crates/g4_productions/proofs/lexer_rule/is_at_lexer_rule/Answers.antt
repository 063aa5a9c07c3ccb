use Rattle.std.proofs.Common.{refl, sym, ◌||◌, ◌≡◌}
use Rattle.g4_cursor.proofs.Moving.{led, skip_next, optional_next}
use Rattle.std.specs.Prelude.{codes}
use Rattle.g4_syntax.specs.Notation.{◌▸◌, optional, sign, word}
use Rattle.g4_syntax.specs.Productions.{options, lexer_rule, lexer_alternative}
use Rattle.g4_syntax.specs.Notation.{with_bars}
use Rattle.g4_grammar_tokens.specs.declared.token.Kind.TheVariants as kinds
use Rattle.g4_cursor.specs.Progress.{Progress, is_next}
use Rattle.g4_productions.proofs.lexer_rule.is_at_lexer_rule.Goals as goal

-- a lexer rule begins with `fragment` or an upper-case name
rule_next : (s : Progress) → is_next lexer_rule s ≡ (is_next (word (codes "fragment")) s || is_next (sign kinds.Upper) s)
rule_next s = rw (
  skip_next (optional (word (codes "fragment")))
      (sign kinds.Upper ▸ optional options ▸ sign kinds.Colon ▸ with_bars lexer_alternative ▸ sign kinds.Semicolon) s refl,
  optional_next (word (codes "fragment")) s,
  led (sign kinds.Upper)
      (optional options ▸ sign kinds.Colon ▸ with_bars lexer_alternative ▸ sign kinds.Semicolon) s refl,
) refl

pub returns : goal.returns
returns c = rw (c.is_at_word.ensures, c.is_at.ensures) (sym (rule_next c.args.cursor.now))
