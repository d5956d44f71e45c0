use Rattle.std.proofs.Common.{◌≡◌, ◌∙◌, ap, codes, false, not, rules, sym}
use Rattle.std.specs.Str.{bytes_eq}
use Rattle.command_line.specs.checked.Entries.{entries_of}
use Rattle.command_line.proofs.ReadEntries.{below_alone, shared_alone, titled_alone, used_given}
use Rattle.command_line.proofs.refusals.has_its_form.Goals as goal

pub returns-then-contains_id : goal.returns-then-contains_id
returns-then-contains_id c =
    let other : bytes_eq c.args.name.now (codes "svg") ≡ false = search rules in
    let title = used_given c.args.entries.now (codes "title") c.contains_id.result c.contains_id.ensures in
    sym (titled_alone c.args.name.now (entries_of c.args.entries.now) other (sym c.is_drawn.ensures ∙ c.if-is_drawn.false) (sym title ∙ c.if-contains_id.true))

pub returns-then-is_root_below : goal.returns-then-is_root_below
returns-then-is_root_below c =
    let other : bytes_eq c.args.name.now (codes "svg") ≡ false = search rules in
    let title = used_given c.args.entries.now (codes "title") c.contains_id.result c.contains_id.ensures in
    sym (below_alone c.args.name.now (entries_of c.args.entries.now) other (sym c.is_drawn.ensures ∙ c.if-is_drawn.false) (sym title ∙ c.if-contains_id.false) (sym c.is_root_below.ensures ∙ c.if-is_root_below.true))

pub returns-else-is_root_below : goal.returns-else-is_root_below
returns-else-is_root_below c =
    let other : bytes_eq c.args.name.now (codes "svg") ≡ false = search rules in
    let title = used_given c.args.entries.now (codes "title") c.contains_id.result c.contains_id.ensures in
    ap not c.draws_shares.ensures ∙ sym (shared_alone c.args.name.now (entries_of c.args.entries.now) other (sym c.is_drawn.ensures ∙ c.if-is_drawn.false) (sym title ∙ c.if-contains_id.false) (sym c.is_root_below.ensures ∙ c.if-is_root_below.false))
