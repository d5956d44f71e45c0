use Rattle.std.proofs.Common.{◌≡◌, false, rules, true}
use Rattle.clap.specs.declared.error.kind.ErrorKind.TheVariants as kind
use Rattle.command_line.specs.Plans.{has_conflict, has_its_form, has_its_page, knows_format, knows_order, knows_unit}
use Rattle.command_line.specs.checked.Entries.{entries_of}
use Rattle.command_line.proofs.PlannedWords.{refused_conflict, refused_for, refused_form, refused_format, refused_order, refused_page, refused_unit}
use Rattle.command_line.proofs.refusals.check_entries.Goals as goal

pub returns-then-not-knows_format-clause-refused : goal.returns-then-not-knows_format-clause-refused
returns-then-not-knows_format-clause-refused c =
    let format : knows_format (entries_of c.args.entries.now) ≡ false = search rules in
    refused_for c.args.name.now (entries_of c.args.entries.now) kind.InvalidValue _ (refused_format c.args.name.now (entries_of c.args.entries.now) format) c.refused_value.ensures

pub returns-then-not-knows_order-clause-refused : goal.returns-then-not-knows_order-clause-refused
returns-then-not-knows_order-clause-refused c =
    let format : knows_format (entries_of c.args.entries.now) ≡ true = search rules in
    let order : knows_order (entries_of c.args.entries.now) ≡ false = search rules in
    refused_for c.args.name.now (entries_of c.args.entries.now) kind.InvalidValue _ (refused_order c.args.name.now (entries_of c.args.entries.now) format order) c.refused_value-then-not-knows_order.ensures

pub returns-then-not-knows_unit-clause-refused : goal.returns-then-not-knows_unit-clause-refused
returns-then-not-knows_unit-clause-refused c =
    let format : knows_format (entries_of c.args.entries.now) ≡ true = search rules in
    let order : knows_order (entries_of c.args.entries.now) ≡ true = search rules in
    let unit : knows_unit (entries_of c.args.entries.now) ≡ false = search rules in
    refused_for c.args.name.now (entries_of c.args.entries.now) kind.InvalidValue _ (refused_unit c.args.name.now (entries_of c.args.entries.now) format order unit) c.refused_value-then-not-knows_unit.ensures

pub returns-in-Some-clause-refused : goal.returns-in-Some-clause-refused
returns-in-Some-clause-refused c =
    let format : knows_format (entries_of c.args.entries.now) ≡ true = search rules in
    let order : knows_order (entries_of c.args.entries.now) ≡ true = search rules in
    let unit : knows_unit (entries_of c.args.entries.now) ≡ true = search rules in
    let conflict : has_conflict (entries_of c.args.entries.now) ≡ true = search rules in
    refused_for c.args.name.now (entries_of c.args.entries.now) kind.ArgumentConflict _ (refused_conflict c.args.name.now (entries_of c.args.entries.now) format order unit conflict) c.refused.ensures

pub returns-then-not-has_its_page-clause-refused : goal.returns-then-not-has_its_page-clause-refused
returns-then-not-has_its_page-clause-refused c =
    let format : knows_format (entries_of c.args.entries.now) ≡ true = search rules in
    let order : knows_order (entries_of c.args.entries.now) ≡ true = search rules in
    let unit : knows_unit (entries_of c.args.entries.now) ≡ true = search rules in
    let alone : has_conflict (entries_of c.args.entries.now) ≡ false = search rules in
    let page : has_its_page (entries_of c.args.entries.now) ≡ false = search rules in
    refused_for c.args.name.now (entries_of c.args.entries.now) kind.MissingRequiredArgument _ (refused_page c.args.name.now (entries_of c.args.entries.now) format order unit alone page) c.refused-then-not-has_its_page.ensures

pub returns-then-not-has_its_form-clause-refused : goal.returns-then-not-has_its_form-clause-refused
returns-then-not-has_its_form-clause-refused c =
    let format : knows_format (entries_of c.args.entries.now) ≡ true = search rules in
    let order : knows_order (entries_of c.args.entries.now) ≡ true = search rules in
    let unit : knows_unit (entries_of c.args.entries.now) ≡ true = search rules in
    let alone : has_conflict (entries_of c.args.entries.now) ≡ false = search rules in
    let page : has_its_page (entries_of c.args.entries.now) ≡ true = search rules in
    let formed : has_its_form c.args.name.now (entries_of c.args.entries.now) ≡ false = search rules in
    refused_for c.args.name.now (entries_of c.args.entries.now) kind.MissingRequiredArgument _ (refused_form c.args.name.now (entries_of c.args.entries.now) format order unit alone page formed) c.refused-then-not-has_its_form.ensures
