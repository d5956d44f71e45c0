use Rattle.std.proofs.Common.{◌∙◌, codes, sym}
use Rattle.command_line.specs.checked.Entries.{entries_of}
use Rattle.command_line.proofs.ReadEntries.{drawn_by_page, drawn_by_picture, flag_given}
use Rattle.command_line.proofs.views.is_drawn.Goals as goal

pub returns-then-get_flag : goal.returns-then-get_flag
returns-then-get_flag c =
    let page = flag_given c.args.entries.now (codes "page") c.get_flag.result c.requires.page c.get_flag.ensures.none c.get_flag.ensures.value c.get_flag.ensures.other in
    c.if-get_flag.true ∙ sym (drawn_by_page (entries_of c.args.entries.now) (sym page ∙ c.if-get_flag.true))

pub returns-else-get_flag : goal.returns-else-get_flag
returns-else-get_flag c =
    let page = flag_given c.args.entries.now (codes "page") c.get_flag.result c.requires.page c.get_flag.ensures.none c.get_flag.ensures.value c.get_flag.ensures.other in
    let svg = flag_given c.args.entries.now (codes "svg") c.get_flag-else-get_flag.result c.requires.svg c.get_flag-else-get_flag.ensures.none c.get_flag-else-get_flag.ensures.value c.get_flag-else-get_flag.ensures.other in
    svg ∙ sym (drawn_by_picture (entries_of c.args.entries.now) (sym page ∙ c.if-get_flag.false))
