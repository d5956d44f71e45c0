use Rattle.byte_io.proofs.PieceTexts.{further}
use Rattle.function_sums.proofs.sum_lines.append_function.Goals as goal

pub returns-clause-front : goal.returns-clause-front
returns-clause-front c =
    further c.append_members.new.out.items c.extend_from_slice.new.self.items c.args.out.now.items _ c.append_members.ensures.front c.in_ok-extend_from_slice.ensures.items
