use Rattle.std.proofs.Common.{refl}
use Rattle.g4_token_file.proofs.Maps.{name_more}
use Rattle.g4_token_file.proofs.numbers.Numbers.add_name.Goals as goal

pub returns : goal.returns
returns c = name_more c.args.self.now _ c.args.name.now c.in_ok-name.name c.args.number c.in_ok-name.ensures.ok
    c.in_ok-insert.ensures.updates refl
