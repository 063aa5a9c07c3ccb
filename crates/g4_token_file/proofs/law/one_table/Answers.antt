use Rattle.g4_token_file.proofs.OneTable.{one_table}
use Rattle.g4_token_file.proofs.law.one_table.Goals as goal

pub returns : goal.returns
returns c = one_table
