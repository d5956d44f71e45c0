use Rattle.std.proofs.Common.{◌-◌, length, arith}
use Rattle.view_texts.proofs.JsonMembers.{piece_put}
use Rattle.view_texts.proofs.put_pieces.put_piece.Goals as goal

pub returns-clause-text : goal.returns-clause-text
returns-clause-text c =
    let start = c.args.end - length c.args.piece.now in
    piece_put start (c.args.end - start) c.args.end c.args.bytes.now c.args.piece.now c.copy_from_slice.new.self c.copy_from_slice.ensures.after (omega arith) c.requires.within
