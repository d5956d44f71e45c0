use Rattle.std.proofs.Common.{◌≡◌, ◌∙◌, ◌++◌, ◌-◌, [], ap, append_assoc, cond, replicate}
use Rattle.live_lines.specs.Frames.{blank_lines, clear_frame, cut_lines, frame_heading, frame_table, wrap_lines}
use Rattle.live_lines.specs.Terminal.{plain_text}
use Rattle.live_lines.proofs.FrameLemmas.{as_many}
use Rattle.live_lines.proofs.frames.frame_of.Goals as goal

pub returns : goal.returns
returns c samples are weighs =
    let standing = c.args.standing in
    let heading = frame_heading standing.at standing.sources in
    let table = frame_table samples in
    let cleared = cond standing.has_frame clear_frame [] in
    let headed = c.in_ok-append_heading.ensures ∙ ap (λ xs. xs ++ heading) c.new-lines.ensures.items in
    let tabled = c.in_ok-append_table.ensures samples are weighs ∙ ap (λ xs. xs ++ table) headed in
    let lines : c.append_blank.new.out.items ≡ frame_heading c.args.standing.at c.args.standing.sources ++ (frame_table samples ++ blank_lines samples) =
    c.in_ok-append_blank.ensures ∙ (λ i. tabled i ++ replicate (10 - as_many samples c.args.sums.now are i) 10) ∙ append_assoc heading table (blank_lines samples) in
    let cut = c.in_ok-extend_from_slice.ensures.items ∙ ap (λ xs. xs ++ cut_lines) c.in_ok-text.ensures in
    let shown = plain_text 0 (heading ++ (table ++ blank_lines samples)) in
    let plain = c.in_ok-append_plain.ensures ∙ (λ i. cut i ++ plain_text 0 ((c.deref.ensures.value ∙ lines) i)) in
    c.in_ok-extend_from_slice-2.ensures.items ∙ ap (λ xs. xs ++ wrap_lines) plain ∙ append_assoc (cleared ++ cut_lines) shown wrap_lines ∙ append_assoc cleared cut_lines (shown ++ wrap_lines)
