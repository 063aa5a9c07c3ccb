use Rattle.std.proofs.Common.{sym, ◌∙◌}
use Rattle.g4_reader.proofs.Parts.{part_at}
use Rattle.g4_reader.proofs.Tokens.{fault_here, fault_after}
use Rattle.g4_reader.proofs.fault.fault_at.Goals as goal

pub token_fault-requires : goal.token_fault-requires
token_fault-requires c = record {
  part = part_at c.args.text.now c.args.tokens.now c.args.at c.in-Some.token c.requires.parts
      (sym c.token_at.ensures ∙ c.in-Some.is);
}

pub returns-in-Some : goal.returns-in-Some
returns-in-Some c = rw (fault_here c.args.text.now c.args.tokens.now c.args.at c.in-Some.token
    (sym c.token_at.ensures ∙ c.in-Some.is)) c.token_fault.ensures

pub returns-in-None : goal.returns-in-None
returns-in-None c = rw (fault_after c.args.text.now c.args.tokens.now c.args.at (sym c.token_at.ensures ∙ c.in-None.is)) c.end_fault.ensures
