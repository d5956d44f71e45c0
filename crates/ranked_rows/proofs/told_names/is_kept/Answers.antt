use Rattle.std.proofs.Common.{◌∙◌, ◌<◌, [], arith, length, sym}
use Rattle.std.proofs.lemmas.List.{get_or-map}
use Rattle.std.proofs.lemmas.Slice.Eq.{bytes_eq-Decides}
use Rattle.ranked_rows.specs.checked.Names.{kept_name}
use Rattle.ranked_rows.proofs.RankedNames.{no_name}
use Rattle.ranked_rows.proofs.told_names.is_kept.Goals as goal

pub returns-then-place-kept : goal.returns-then-place-kept
returns-then-place-kept c t =
    let within : c.args.place < length c.args.kept.now = omega arith in
    record {
      within = within;
      same = get_or-map kept_name c.args.kept.now c.args.place no_name [] within ∙ (bytes_eq-Decides _ c.args.name.now).0 (sym c.eq.ensures ∙ t);
    }
