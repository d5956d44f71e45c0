use Rattle.std.proofs.Common.{◌≡◌, ◌+◌, ◌-◌, ℕ, length, map, get_or, string_bytes}
use Rattle.sample_tables.specs.Rows.{name_at}
use Rattle.ranked_rows.specs.Ranks.{AreRising}
use Rattle.ranked_rows.specs.checked.Names.{NameAt}
use Rattle.ranked_rows.proofs.RankedNames.{AreRanked}
use Rattle.ranked_rows.proofs.name_ranks.rank.Given as goal

abbrev pub invariant-loop-name : goal.invariant-loop-name
invariant-loop-name l = record {
  rising : AreRising (map string_bytes l.names.items);
  none : l.name-index ≡ 0 → length l.names.items ≡ 0;
  last : (k : ℕ) (d : NameAt) → l.name-index ≡ k + 1 → name_at (map string_bytes l.names.items) (length l.names.items - 1) ≡ (get_or l.told k d).0.now;
  len : length l.ranks.items ≡ length l.told;
  ranked : AreRanked l.told (map string_bytes l.names.items) l.ranks.items l.name-index;
}
