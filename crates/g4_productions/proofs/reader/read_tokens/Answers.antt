use Rattle.std.proofs.Common.{◌+◌}
use Rattle.g4_productions.proofs.Cut.{all_read, deep_is_read, first_parts}
use Rattle.g4_productions.proofs.reader.read_tokens.Goals as goal

pub stop_within-requires : goal.stop_within-requires
stop_within-requires c = record { parts = first_parts c.args.text.now c.args.tokens.now (c.in-Some.at + 1) c.requires.parts }

pub returns-in-Some-clause-reads : goal.returns-in-Some-clause-reads
returns-in-Some-clause-reads c = deep_is_read c.args.text.now c.args.tokens.now c.in-Some.at (c.in-Some.ensures.found c.args.text.now)
    c.stop_within.result c.stop_within.ensures

pub returns-in-None-clause-reads : goal.returns-in-None-clause-reads
returns-in-None-clause-reads c = all_read c.args.text.now c.args.tokens.now c.read_all.result (c.in-None.ensures.found c.args.text.now)
    c.read_all.ensures.reads
