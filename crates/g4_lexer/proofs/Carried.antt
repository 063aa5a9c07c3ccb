-- Commands are carried out one after another.
use Rattle.std.proofs.Common.{◌≡◌, ℕ, ◌+◌, ◌<◌, List, ◌∷◌, length, drop, get_or, Option, sym, ap, ◌∙◌}
use Rattle.std.specs.Option.{option_and_then}
use Rattle.std.proofs.lemmas.List.{drop_more}
use Rattle.g4_lexer.specs.declared.command.LexerCommand.{LexerCommand}
use Rattle.g4_lexer.specs.declared.effects.Effects.{Effects}
use Rattle.g4_lexer.specs.Commands.{after_command, after_commands}

-- the next command does to the effects what comes first of the rest
pub next_command : (cs : List LexerCommand) (i : ℕ) (c : LexerCommand) (e : Effects) (o : Option Effects) → i < length cs
    → c ≡ get_or cs i c → after_command c e ≡ o → after_commands (drop i cs) e ≡ option_and_then (after_commands (drop (i + 1) cs)) o
next_command cs i c e o less is done =
    let split : drop i cs ≡ c ∷ drop (i + 1) cs = drop_more cs i c less ∙ ap (λ (d : LexerCommand). d ∷ drop (i + 1) cs) (sym is) in
    ap (λ (l : List LexerCommand). after_commands l e) split
    ∙ ap (λ (p : Option Effects). option_and_then (after_commands (drop (i + 1) cs)) p) done
