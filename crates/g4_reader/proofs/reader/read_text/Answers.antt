use Rattle.std.proofs.Common.{ℕ, List, subst}
use Rattle.g4_grammar_tokens.specs.Answers.{HasTokens}
use Rattle.g4_reader.proofs.Parts.{are_parts}
use Rattle.g4_reader.proofs.Readings.{IsReading-from}
use Rattle.g4_reader.proofs.reader.read_text.Goals as goal

pub read_checked-requires-clause-parts : goal.read_checked-requires-clause-parts
read_checked-requires-clause-parts c =
    let has : HasTokens c.args.text.now c.in-Ok.tokens =
    subst (λ (b : List ℕ). HasTokens b c.in-Ok.tokens) c.as_bytes.ensures.value c.in-Ok.ensures.value in
    rw c.as_slice.ensures (are_parts c.args.text.now c.in-Ok.tokens has)

pub returns-in-Ok-clause-reading : goal.returns-in-Ok-clause-reading
returns-in-Ok-clause-reading c =
    let has : HasTokens c.args.text.now c.in-Ok.tokens =
    subst (λ (b : List ℕ). HasTokens b c.in-Ok.tokens) c.as_bytes.ensures.value c.in-Ok.ensures.value in
    IsReading-from c.args.text.now c.in-Ok.tokens c.read_checked.result has (rw c.as_slice.ensures at c.read_checked.ensures.reading)
