use Rattle.byte_io.proofs.PieceTexts.{on_err}
use Rattle.byte_io.proofs.rollback.truncate_on_error.Goals as goal

pub returns-then-is_err-clause-err : goal.returns-then-is_err-clause-err
returns-then-is_err-clause-err c = on_err _ c.truncate.ensures.items
