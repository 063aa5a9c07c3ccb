use Rattle.g4_token_file.specs.Files.{file_lines}
use Rattle.g4_token_file.proofs.Steps.{Reading}
use Rattle.g4_token_file.proofs.reader.read_tokens.Given as goal

abbrev pub invariant-loop-line : goal.invariant-loop-line
invariant-loop-line l = Reading (file_lines l.fn.bytes) l.line-iterator l.number l.table
