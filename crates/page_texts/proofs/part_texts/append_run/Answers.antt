use Rattle.std.proofs.Common.{◌≡◌, ◌++◌, ◌∙◌, length, map, min, take, ap, arith}
use Rattle.std.proofs.lemmas.Grind.{common_steps}
use Rattle.std.proofs.lemmas.List.{take_min}
use Rattle.page_texts.specs.Page.{whole_number}
use Rattle.page_texts.specs.checked.Kept.{numbers_of}
use Rattle.page_texts.specs.checked.SafeText.{values_text}
use Rattle.page_texts.proofs.Columns.{numbers-length}
use Rattle.page_texts.proofs.PartLists.{values_text-next}
use Rattle.page_texts.proofs.part_texts.append_run.Goals as goal

pub loop-i-preserved : goal.loop-i-preserved
loop-i-preserved c =
    let run = c.args.run in
    let numbers = numbers_of run.column run.before run.boxes.now in
    let long : length numbers ≡ length run.boxes.now = numbers-length run.column run.before run.boxes.now in
    let more = values_text-next run.later whole_number numbers c.loop-i.i 0 (omega (arith, long)) in
    grind (arith, common_steps, more)

pub returns : goal.returns
returns c =
    let run = c.args.run in
    let numbers = numbers_of run.column run.before run.boxes.now in
    let long : length numbers ≡ length run.boxes.now = numbers-length run.column run.before run.boxes.now in
    let end : c.loop-i.i ≡ min run.count (length numbers) = omega (arith, c.loop-i-test.false, c.loop-i.auto.i-end, c.min-i-end.ensures, long) in
    c.loop-i.invariant
    ∙ ap (λ ns. c.args.out.now.items ++ values_text run.later (map whole_number ns)) (ap (λ n. take n numbers) end ∙ take_min run.count numbers)
