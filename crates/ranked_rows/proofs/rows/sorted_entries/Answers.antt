use Rattle.std.proofs.Common.{◌≤◌, length, map, subst, IsPermutation}
use Rattle.std.proofs.lemmas.List.Sorted.{All-permutation, IsPermutation-map, IsPermutation-trans}
use Rattle.ranked_rows.specs.declared.rows.RankedRow.{RankedRow}
use Rattle.ranked_rows.specs.checked.Entries.{ranked_row, ranked_entry, IsEntryOf}
use Rattle.ranked_rows.proofs.JoinedRows.{entries_ascend}
use Rattle.ranked_rows.proofs.rows.sorted_entries.Goals as goal

pub entries-requires : goal.entries-requires
entries-requires g c =
    All-permutation (λ (row : RankedRow). (row.start ≤ row.end) × (row.end ≤ length c.args.frames.now)) _ _ c.in_ok-rows.ensures c.requires

pub returns-clause-ranked : goal.returns-clause-ranked
returns-clause-ranked g c =
    IsPermutation-trans _ _ _ (IsPermutation-map (ranked_row c.args.frames.now) _ _ c.in_ok-rows.ensures)
    (subst (λ rows. IsPermutation rows (map ranked_entry c.sort_unstable.new.self.items)) c.in_ok-entries.ensures.ranked (IsPermutation-map ranked_entry _ _ c.sort_unstable.ensures.permutation))

pub returns-clause-within : goal.returns-clause-within
returns-clause-within g c = All-permutation (IsEntryOf c.args.frames.now) _ _ c.sort_unstable.ensures.permutation c.in_ok-entries.ensures.within

pub returns-clause-ascending : goal.returns-clause-ascending
returns-clause-ascending g c = entries_ascend c.sort_unstable.new.self.items c.sort_unstable.ensures.sorted
