use Rattle.std.proofs.Common.{◌≡◌, ℕ, List, Result, Ok, Err, arith}
use Rattle.std.specs.Bool.{if◌then◌else◌}
use Rattle.std.specs.Result.{OnOk, is_ok}
use Rattle.byte_io.proofs.pieces.LiteralPieces.append_piece.Goals as goal

on_ok : {T E : Type 0} (r : Result T E) (xs ys zs : List ℕ) → xs ≡ (if is_ok r then ys else zs) → OnOk r (xs ≡ ys)
on_ok (Ok _) xs ys zs e = e
on_ok (Err _) xs ys zs e = tt

pub returns-clause-ok : goal.returns-clause-ok
returns-clause-ok c =
    let first : c.args._at ≡ 0 = omega arith in
    rw first (on_ok _ _ _ _ c.extend_from_slice.ensures.items)
