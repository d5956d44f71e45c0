use Rattle.std.proofs.Common.{◌≡◌, ◌∙◌, ap, sym, subst, length, arith}
use Rattle.std.specs.List.{All}
use Rattle.byte_io.proofs.PartRows.{row_is}
use Rattle.byte_io.specs.checked.Parts.{IsPart, BeginsAt}
use Rattle.byte_io.proofs.piece_threads.Row.send.Goals as goal

pub returns-clause-made : goal.returns-clause-made
returns-clause-made g c =
    let pieces = g.P.Pieces.pieces c.args.text.now in
    let at = c.args.self.now.next in
    let parts = c.swap.new.y in
    let made : All (IsPart pieces) parts = subst (All (IsPart pieces)) (sym c.swap.ensures.y_after) c.in_ok-make_and_write.ensures.made in
    let begins : BeginsAt at parts = subst (BeginsAt at) (sym c.swap.ensures.y_after) (c.in_ok-make_and_write.ensures.begin at c.requires.begin) in
    let long : length parts ≡ 3 = ap length c.swap.ensures.y_after ∙ c.make_and_write.auto.parts ∙ c.told-parts in
    row_is pieces at parts c.row_from.result long made c.row_from.ensures.within c.row_from.ensures.follow (c.row_from.ensures.first begins) (omega (arith, c.requires.there))
