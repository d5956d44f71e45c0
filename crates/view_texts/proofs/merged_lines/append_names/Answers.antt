use Rattle.std.proofs.Common.{◌∙◌, ◌++◌, sym, ap, arith, take, append_assoc, ltb}
use Rattle.std.proofs.lemmas.List.{take_all}
use Rattle.std.specs.List.{join_with_byte}
use Rattle.sample_tables.specs.Rows.{sample_at}
use Rattle.byte_io.proofs.PieceTexts.{further}
use Rattle.view_texts.proofs.Fronts.{longer_front}
use Rattle.view_texts.specs.checked.Joined.{joint}
use Rattle.view_texts.proofs.MergedLines.{joined_more}
use Rattle.view_texts.proofs.merged_lines.append_names.Goals as goal

pub loop-frame-preserved : goal.loop-frame-preserved
loop-frame-preserved g c =
    let i = c.loop-frame.frame in
    let stack = (sample_at (g.S.StackRows.samples c.args.rows.now) c.args.at).stack in
    let start = c.args.out.now.items in
    c.in_ok-append_name.ensures.ok ∙ (λ k. c.loop-frame.invariant k ++ joint (ltb 0 i) (c.name.ensures k)) ∙ append_assoc start (join_with_byte 59 (take i stack)) _
    ∙ ap (λ text. start ++ text) (sym (joined_more stack i (omega (arith, c.depth-frame-end.ensures.value))))

pub returns-in_err-append_name-clause-front : goal.returns-in_err-append_name-clause-front
returns-in_err-append_name-clause-front g c =
    further c.append_name.new.out.items c.loop-frame.out.items c.args.out.now.items (join_with_byte 59 (take c.loop-frame.frame (sample_at (g.S.StackRows.samples c.args.rows.now) c.args.at).stack)) c.append_name.ensures.front c.loop-frame.invariant

pub returns-clause-ok : goal.returns-clause-ok
returns-clause-ok g c =
    let stack = (sample_at (g.S.StackRows.samples c.args.rows.now) c.args.at).stack in
    c.loop-frame.invariant ∙ ap (λ names. c.args.out.now.items ++ join_with_byte 59 names) (take_all c.loop-frame.frame stack (omega (arith, c.loop-frame-test.false, c.depth-frame-end.ensures.value)))

pub returns-clause-front : goal.returns-clause-front
returns-clause-front g c = longer_front c.loop-frame.out.items c.args.out.now.items _ c.loop-frame.invariant
