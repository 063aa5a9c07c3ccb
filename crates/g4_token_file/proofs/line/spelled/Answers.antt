use Rattle.std.proofs.Common.{◌≡◌, ap, ◌∙◌, rules}
use Rattle.std.specs.Str.{chars}
use Rattle.std.proofs.lemmas.Str.{chars_from_encodes}
use Rattle.g4_grammar_tokens.specs.Spelling.{literal_spelling}
use Rattle.g4_token_file.proofs.line.spelled.Goals as goal

pub returns : goal.returns
returns c =
    let same : c.deref.result.now ≡ chars c.args.text.now = search (rules, chars_from_encodes) in
    c.in_ok-meant.ensures ∙ ap literal_spelling same
