use Rattle.std.proofs.Common.{◌∙◌, ap, map, not, string_bytes, sym}
use Rattle.std.specs.Prelude.{true}
use Rattle.sample_tables.specs.Rows.{name_at}
use Rattle.source_lists.specs.checked.KeptStacks.{keeps_marked, passes}
use Rattle.source_lists.proofs.KeptLemmas.{begun_by_marks, keeps_by_marks, none_shown}
use Rattle.source_lists.proofs.kept_stacks.StackMarks.of.Goals as goal

pub returns-in_ok-marks_of-in-Filtered-2 : goal.returns-in_ok-marks_of-in-Filtered-2
returns-in_ok-marks_of-in-Filtered-2 c = λ numbers within.
    let asked = c.in-Filtered.filter.now in
    let told = c.args.list.now.told in
    let has_focus = ap not (c.is_empty.ensures ∙ none_shown string_bytes c.get.result.now asked.focus c.get.ensures) in
    (λ i. keeps_marked (has_focus i) (c.in_ok-marks_of-in-Filtered.ensures i) (c.in_ok-marks_of-in-Filtered-2.ensures i) numbers)
    ∙ (keeps_by_marks asked told numbers within ∙ (λ i. passes (sym c.in-Filtered.is i) (map (name_at told) numbers)))

pub returns-in_ok-marks_of-in-Begun : goal.returns-in_ok-marks_of-in-Begun
returns-in_ok-marks_of-in-Begun c = λ numbers within.
    let told = c.args.list.now.told in
    (λ i. keeps_marked true (c.in_ok-marks_of-in-Begun.ensures i) (c.new.ensures.items i) numbers)
    ∙ (begun_by_marks c.in-Begun.from.now told numbers within ∙ (λ i. passes (sym c.in-Begun.is i) (map (name_at told) numbers)))
