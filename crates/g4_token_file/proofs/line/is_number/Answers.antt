use Rattle.g4_token_file.proofs.Values.{number_by}
use Rattle.g4_token_file.proofs.line.is_number.Goals as goal

pub returns-then-first-ne48 : goal.returns-then-first-ne48
returns-then-first-ne48 c =
    number_by c.args.digits.now c.all_digits.result c.in-len1-up.len_at_least c.if-first-ne48.true c.all_digits.ensures
