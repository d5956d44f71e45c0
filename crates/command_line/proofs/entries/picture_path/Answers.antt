use Rattle.std.proofs.Common.{◌∙◌, codes, sym}
use Rattle.std.proofs.lemmas.Result.{IfOk-weaker}
use Rattle.command_line.specs.checked.Entries.{entries_of}
use Rattle.command_line.proofs.ReadEntries.{path_beside, path_given, used_given}
use Rattle.command_line.proofs.entries.picture_path.Goals as goal

pub returns-then-contains_id : goal.returns-then-contains_id
returns-then-contains_id c =
    let used = used_given c.args.entries.now (codes "output") c.contains_id.result c.contains_id.ensures in
    IfOk-weaker c.first.result _ _ (λ path is. is ∙ sym (path_given (entries_of c.args.entries.now) (sym used ∙ c.if-contains_id.true))) c.first.ensures

pub returns-else-contains_id : goal.returns-else-contains_id
returns-else-contains_id c =
    let used = used_given c.args.entries.now (codes "output") c.contains_id.result c.contains_id.ensures in
    IfOk-weaker c.beside_first.result _ _ (λ path is. is ∙ sym (path_beside (entries_of c.args.entries.now) (sym used ∙ c.if-contains_id.false))) c.beside_first.ensures
