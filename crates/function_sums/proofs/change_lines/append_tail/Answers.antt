use Rattle.std.proofs.Common.{codes}
use Rattle.view_texts.proofs.Fronts.{on_ok_if}
use Rattle.function_sums.proofs.ChangePieces.{tail_written}
use Rattle.function_sums.proofs.change_lines.append_tail.Goals as goal

pub returns-clause-ok : goal.returns-clause-ok
returns-clause-ok c =
    let new = c.extend_from_slice.new.self.items in
    let unit = c.append_text.new.out.items in
    on_ok_if c.extend_from_slice.result new unit (codes ",\"view\":\"diff\"}\n") c.extend_from_slice.ensures.items
    (tail_written c.args.unit.now c.args.whole.before c.args.whole.after c.args.out.now.items c.append_number.new.out.items c.append_number-2.new.out.items unit new c.in_ok-append_number.ensures.ok c.in_ok-append_number-2.ensures.ok c.in_ok-append_text.ensures.ok)
