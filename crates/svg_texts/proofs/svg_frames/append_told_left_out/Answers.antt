use Rattle.std.proofs.Common.{◌≡◌, false, eqb, append_assoc, arith}
use Rattle.std.specs.Prelude.{codes}
use Rattle.std.proofs.lemmas.Bool.Decides.{nat_tests}
use Rattle.view_texts.proofs.Fronts.{on_ok_if}
use Rattle.svg_texts.proofs.svg_frames.append_told_left_out.Goals as goal

pub returns-clause-ok : goal.returns-clause-ok
returns-clause-ok c =
    let some : eqb c.args.frame.now.tally.left_boxes 0 ≡ false = grind (arith, nat_tests) in
    on_ok_if c.extend_from_slice-2.result _ c.append_weight_in.new.out.items (codes " ends") c.extend_from_slice-2.ensures.items
    (λ is. rw (is, c.in_ok-append_weight_in.ensures.ok, c.in_ok-extend_from_slice.ensures.items, c.in_ok-append_number.ensures.ok, c.narrower_boxes.ensures, some) (simp append_assoc))
