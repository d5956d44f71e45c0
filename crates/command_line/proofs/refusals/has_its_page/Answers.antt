use Rattle.std.proofs.Common.{◌∙◌, ap, codes, not, sym}
use Rattle.command_line.specs.checked.Entries.{entries_of}
use Rattle.command_line.proofs.ReadEntries.{asked_page, by_no_page, flag_given, used_given}
use Rattle.command_line.proofs.refusals.has_its_page.Goals as goal

pub returns-then-get_flag : goal.returns-then-get_flag
returns-then-get_flag c =
    let page = flag_given c.args.entries.now (codes "page") c.get_flag.result c.requires c.get_flag.ensures.none c.get_flag.ensures.value c.get_flag.ensures.other in
    sym (asked_page (entries_of c.args.entries.now) (sym page ∙ c.if-get_flag.true))

pub returns-else-get_flag : goal.returns-else-get_flag
returns-else-get_flag c =
    let page = flag_given c.args.entries.now (codes "page") c.get_flag.result c.requires c.get_flag.ensures.none c.get_flag.ensures.value c.get_flag.ensures.other in
    let least = used_given c.args.entries.now (codes "least") c.contains_id.result c.contains_id.ensures in
    ap not least ∙ sym (by_no_page (entries_of c.args.entries.now) (sym page ∙ c.if-get_flag.false))
