use Rattle.std.proofs.Common.{refl, sym, ◌||◌, ◌≡◌}
use Rattle.g4_cursor.proofs.Moving.{choice_next, skip_next, optional_next, repeated_next, or_assoc}
use Rattle.g4_syntax.specs.Notation.{◌▸◌, optional, repeated, sign}
use Rattle.g4_syntax.specs.Productions.{options, rule_action, block_prequel}
use Rattle.g4_grammar_tokens.specs.declared.token.Kind.TheVariants as kinds
use Rattle.g4_cursor.specs.Progress.{Progress, is_next}
use Rattle.g4_cursor.proofs.passing.is_at_block_prequel.Goals as goal

-- what comes before the alternatives of a block begins with options, an action or `:`
block_next : (s : Progress) → is_next block_prequel s ≡ ((is_next options s || is_next rule_action s) || is_next (sign kinds.Colon) s)
block_next s = rw (
  skip_next (optional options) (repeated rule_action ▸ sign kinds.Colon) s refl,
  optional_next options s,
  skip_next (repeated rule_action) (sign kinds.Colon) s refl,
  repeated_next rule_action s,
)
    (sym (or_assoc (is_next options s) (is_next rule_action s) (is_next (sign kinds.Colon) s)))

pub returns : goal.returns
returns c = rw (c.is_at_declaration.ensures, c.is_at.ensures, choice_next _ _ _) (sym (block_next c.args.cursor.now))
