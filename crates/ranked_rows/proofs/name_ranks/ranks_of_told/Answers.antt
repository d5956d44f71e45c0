use Rattle.std.proofs.Common.{◌∙◌, ap, sym, subst, map, slice_index, string_bytes}
use Rattle.ranked_rows.specs.Ranks.{AreRanks}
use Rattle.ranked_rows.specs.checked.Names.{kept_names}
use Rattle.ranked_rows.proofs.KeptNames.{kept_sorted, told_ranks}
use Rattle.ranked_rows.proofs.name_ranks.ranks_of_told.Goals as goal

pub rank-requires : goal.rank-requires
rank-requires c =
    let told = c.args.told in
    (kept_names told.kept.items, kept_sorted c.requires.0 told.kept.items c.sort_unstable.new.self.items c.deref.result.now told.places.items c.requires.1 c.sort_unstable.ensures.permutation c.sort_unstable.ensures.sorted c.deref.ensures.value)

pub returns : goal.returns
returns c names h =
    let told = c.args.told in
    let kept = told.kept.items in
    let sorted = kept_sorted names kept c.sort_unstable.new.self.items c.deref.result.now told.places.items h c.sort_unstable.ensures.permutation c.sort_unstable.ensures.sorted c.deref.ensures.value in
    let ranked = c.in_ok-names.ensures (kept_names kept) sorted in
    subst (AreRanks names (map string_bytes c.in_ok-names.field-0.names.items)) (sym (c.ranks_for-ranks.ensures ∙ ap (λ ranks. map (slice_index ranks) told.places.items) c.deref-2.ensures.value)) (told_ranks _ kept _ ranked names told.places.items h)
