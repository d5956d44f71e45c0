use Rattle.std.proofs.Common.{◌∙◌, codes, sym}
use Rattle.command_line.specs.checked.Entries.{entries_of}
use Rattle.command_line.proofs.ReadEntries.{paged_in_a_file, used_given, without_pages}
use Rattle.command_line.proofs.refusals.has_two_files.Goals as goal

pub returns-then-contains_id : goal.returns-then-contains_id
returns-then-contains_id c =
    let pages = used_given c.args.entries.now (codes "pages") c.contains_id.result c.contains_id.ensures in
    let output = used_given c.args.entries.now (codes "output") c.contains_id-then-contains_id.result c.contains_id-then-contains_id.ensures in
    output ∙ sym (paged_in_a_file (entries_of c.args.entries.now) (sym pages ∙ c.if-contains_id.true))

pub returns-else-contains_id : goal.returns-else-contains_id
returns-else-contains_id c =
    let pages = used_given c.args.entries.now (codes "pages") c.contains_id.result c.contains_id.ensures in
    sym (without_pages (entries_of c.args.entries.now) (sym pages ∙ c.if-contains_id.false))
