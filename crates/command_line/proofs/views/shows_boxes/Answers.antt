use Rattle.std.proofs.Common.{◌∙◌, codes, sym}
use Rattle.command_line.specs.checked.Entries.{entries_of}
use Rattle.command_line.proofs.ReadEntries.{boxed, boxed_by_drawing, flag_given}
use Rattle.command_line.proofs.views.shows_boxes.Goals as goal

pub returns-then-get_flag : goal.returns-then-get_flag
returns-then-get_flag c =
    let boxes = flag_given c.args.entries.now (codes "boxes") c.get_flag.result c.requires.boxes c.get_flag.ensures.none c.get_flag.ensures.value c.get_flag.ensures.other in
    c.if-get_flag.true ∙ sym (boxed (entries_of c.args.entries.now) (sym boxes ∙ c.if-get_flag.true))

pub returns-else-get_flag : goal.returns-else-get_flag
returns-else-get_flag c =
    let boxes = flag_given c.args.entries.now (codes "boxes") c.get_flag.result c.requires.boxes c.get_flag.ensures.none c.get_flag.ensures.value c.get_flag.ensures.other in
    c.is_drawn.ensures ∙ sym (boxed_by_drawing (entries_of c.args.entries.now) (sym boxes ∙ c.if-get_flag.false))
