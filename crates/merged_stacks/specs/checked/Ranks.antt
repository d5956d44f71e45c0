-- The ranks of told names, as the crate below has them.
pub use Rattle.ranked_rows.specs.Ranks.{all_told, AreRanks}
pub use Rattle.ranked_rows.specs.checked.Names.{Grows}
