use Rattle.g4_grammar_tokens.proofs.OneScan.{one_scan}
use Rattle.g4_grammar_tokens.proofs.law.one_scan.Goals as goal

pub returns : goal.returns
returns c = one_scan
