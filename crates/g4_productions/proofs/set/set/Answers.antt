use Rattle.std.proofs.Common.{refl, sym, ◌∙◌, ap}
use Rattle.std.specs.Option.{option_map}
use Rattle.g4_grammar_tokens.specs.declared.token.Kind.TheVariants as kinds
use Rattle.g4_syntax.specs.Notation.{a_set}
use Rattle.g4_cursor.proofs.Moving.{taken_as}
use Rattle.g4_productions.proofs.NextSets.{unseen, no_set_next}
use Rattle.g4_productions.proofs.set.set.Goals as goal

pub returns-in-None : goal.returns-in-None
returns-in-None c =
    let none = sym c.text_ahead.ensures ∙ ap (option_map (λ text. text.now)) c.in-None.is in
    unseen kinds.Set c.args.cursor.now _ (λ token. refl) none
    (taken_as {t = a_set} {taken = c.take.result} c.args.cursor.now _ (λ token. refl) (no_set_next c.args.cursor.now none)
    c.take.ensures)
