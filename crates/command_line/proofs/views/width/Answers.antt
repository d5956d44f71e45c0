use Rattle.std.proofs.Common.{◌∙◌, ◌≡◌, arith, codes, refl}
use Rattle.run_options.specs.declared.widths.TheConstants.{MAX_WIDTH}
use Rattle.command_line.proofs.ReadEntries.{given_by_iff, number_given, number_or}
use Rattle.command_line.proofs.views.width.Goals as goal

pub unwrap-requires : goal.unwrap-requires
unwrap-requires c =
    let given = number_given c.args.entries.now (codes "width") MAX_WIDTH c.get_one.result (omega arith) c.requires c.get_one.ensures.none c.get_one.ensures.value in
    let read = number_or c.args.entries.now (codes "width") MAX_WIDTH 1200 c.get_one.result (omega arith) (omega arith) given in
    rw (given_by_iff c.of.result _ _ c.of.ensures (rw c.unwrap_or-pixels.ensures (read.0, read.1))) refl

pub returns : goal.returns
returns c =
    let given = number_given c.args.entries.now (codes "width") MAX_WIDTH c.get_one.result (omega arith) c.requires c.get_one.ensures.none c.get_one.ensures.value in
    let read = number_or c.args.entries.now (codes "width") MAX_WIDTH 1200 c.get_one.result (omega arith) (omega arith) given in
    let made = given_by_iff c.of.result _ _ c.of.ensures (rw c.unwrap_or-pixels.ensures (read.0, read.1)) in
    let same : c.unwrap.result ≡ c.unwrap_or-pixels.result = cc in
    same ∙ c.unwrap_or-pixels.ensures ∙ read.2
