use Rattle.g4_tool.proofs.Written.{piece_to_out, piece_to_err}
use Rattle.g4_tool.proofs.write.write_line.Goals as goal

pub returns-in_err-write_all-in-ToOut-clause-part : goal.returns-in_err-write_all-in-ToOut-clause-part
returns-in_err-write_all-in-ToOut-clause-part g c =
    piece_to_out _ c.in-ToOut.bytes _ _ _ _ c.in-ToOut.is c.as_slice.ensures c.write_all.ensures.part

pub returns-in_err-write_all-in-ToErr-clause-part : goal.returns-in_err-write_all-in-ToErr-clause-part
returns-in_err-write_all-in-ToErr-clause-part g c =
    piece_to_err _ c.in-ToErr.bytes _ _ _ _ c.in-ToErr.is c.as_slice-in-ToErr.ensures c.write_all-in-ToErr.ensures.part

pub returns-in_ok-write_all-in-ToOut-clause-part : goal.returns-in_ok-write_all-in-ToOut-clause-part
returns-in_ok-write_all-in-ToOut-clause-part g c =
    piece_to_out _ c.in-ToOut.bytes _ _ _ _ c.in-ToOut.is c.as_slice.ensures c.write_all.ensures.part

pub returns-in_ok-write_all-in-ToErr-clause-part : goal.returns-in_ok-write_all-in-ToErr-clause-part
returns-in_ok-write_all-in-ToErr-clause-part g c =
    piece_to_err _ c.in-ToErr.bytes _ _ _ _ c.in-ToErr.is c.as_slice-in-ToErr.ensures c.write_all-in-ToErr.ensures.part
