use Rattle.std.proofs.Common.{◌∙◌, sym}
use Rattle.command_line.specs.checked.Entries.{entries_of}
use Rattle.command_line.proofs.ReadEntries.{with_one_file, with_two_files}
use Rattle.command_line.proofs.refusals.conflict.Goals as goal

pub returns-then-has_two_files : goal.returns-then-has_two_files
returns-then-has_two_files c =
    sym (with_two_files (entries_of c.args.entries.now) (sym c.has_two_files.ensures ∙ c.if-has_two_files.true))

pub returns-else-has_two_files : goal.returns-else-has_two_files
returns-else-has_two_files c =
    c.picture_conflict.ensures ∙ sym (with_one_file (entries_of c.args.entries.now) (sym c.has_two_files.ensures ∙ c.if-has_two_files.false))
