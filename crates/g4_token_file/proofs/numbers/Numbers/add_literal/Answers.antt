use Rattle.std.proofs.Common.{refl, rules}
use Rattle.g4_token_file.proofs.Maps.{literal_more}
use Rattle.g4_token_file.proofs.numbers.Numbers.add_literal.Goals as goal

pub returns : goal.returns
returns c = literal_more c.args.self.now _ c.args.characters.now c.in_ok-characters.characters c.args.number (search rules)
    c.in_ok-insert.ensures.updates refl
