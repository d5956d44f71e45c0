-- Samples in parts, each of which is folded by itself.
use Rattle.std.specs.Prelude.{ℕ, ◌≤◌, List, All}
use Rattle.sample_tables.specs.Samples.{total_weight}
use Rattle.sample_tables.specs.declared.samples.TheConstants.{WEIGHT_LIMIT}
use Rattle.sample_tables.specs.declared.samples.Sample.{Sample}
use Rattle.folded_lines.specs.Reading.{read_folded}
use Rattle.folded_lines.specs.ReadingBack.{IsPlain}
use Rattle.merged_stacks.specs.Timeline.{drawn}
use Rattle.view_texts.specs.Fold.{fold_text}

-- a part whose fold text reads back: lines can carry each stack with weight, and the weights are within the limit of a source
pub record IsFoldable (part : List Sample) : Type 0 where
  pub stacks : All IsPlain (drawn part)
  pub total : total_weight part ≤ WEIGHT_LIMIT

-- the samples as which the fold text of a part reads back
abbrev pub refolded : List Sample → List Sample
refolded part = (read_folded (fold_text part)).samples

-- what `fold` writes of folded text
abbrev pub fold_of : List ℕ → List ℕ
fold_of text = fold_text (read_folded text).samples
