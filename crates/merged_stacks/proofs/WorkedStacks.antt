-- Worked examples, computed on the definitions.
use Rattle.std.proofs.Common.{◌≡◌, ℕ, List, [], ◌∷◌, codes, refl}
use Rattle.sample_tables.specs.declared.samples.Sample.{Sample}
use Rattle.merged_stacks.specs.declared.paired_sides.Side.TheVariants.{Before, After}
use Rattle.merged_stacks.specs.Fronts.{fronts}
use Rattle.merged_stacks.specs.Timeline.{Stack}
use Rattle.merged_stacks.specs.Merged.{sum_at, stacks_of, merged, merged_samples}
use Rattle.merged_stacks.specs.RankedStacks.{ranked_samples}
use Rattle.merged_stacks.specs.Paired.{PairedStack, paired_stacks, side_samples}

abbrev taken : Stack → ℕ → Sample
taken stack weight = record { stack = stack; weight = weight }

abbrev a : List ℕ
a = codes "a"

abbrev b : List ℕ
b = codes "b"

-- a stack that comes twice stands once, and one without weight not at all
stacks_of_lines : merged_samples (taken (a ∷ b ∷ []) 2 ∷ taken (a ∷ []) 1 ∷ taken (b ∷ []) 0 ∷ taken [] 5 ∷ taken (a ∷ b ∷ []) 3 ∷ [])
    ≡ taken [] 5 ∷ taken (a ∷ []) 1 ∷ taken (a ∷ b ∷ []) 5 ∷ []
unfolding sum_at stacks_of merged
stacks_of_lines = refl

-- each rank is replaced by its name
stacks_by_rank : ranked_samples (record { names = a ∷ b ∷ []; rows = (1 ∷ 0 ∷ 1 ∷ [], 5) ∷ ([], 2) ∷ [] })
    ≡ taken (b ∷ a ∷ b ∷ []) 5 ∷ taken [] 2 ∷ []
stacks_by_rank = refl

abbrev pair : Stack → ℕ → ℕ → PairedStack
pair stack before after = record { stack = stack; before = before; after = after }

-- a stack of one list alone has no weight in the other
stacks_side_by_side : paired_stacks (taken (b ∷ []) 1 ∷ taken (a ∷ b ∷ []) 3 ∷ []) (taken (a ∷ b ∷ []) 1 ∷ taken [] 1 ∷ taken (a ∷ []) 0 ∷ [])
    ≡ pair [] 0 1 ∷ pair (a ∷ b ∷ []) 3 1 ∷ pair (b ∷ []) 1 0 ∷ []
unfolding sum_at stacks_of merged
stacks_side_by_side = refl

abbrev both : List PairedStack
both = paired_stacks (taken (b ∷ []) 1 ∷ taken (a ∷ b ∷ []) 3 ∷ []) (taken (a ∷ b ∷ []) 1 ∷ taken (b ∷ a ∷ []) 2 ∷ [])

-- one side has the stacks of both, with weight 0 where it has none of its own
stacks_before : side_samples Before both ≡ taken (a ∷ b ∷ []) 3 ∷ taken (b ∷ []) 1 ∷ taken (b ∷ a ∷ []) 0 ∷ []
unfolding sum_at stacks_of merged
stacks_before = refl

stacks_after : side_samples After both ≡ taken (a ∷ b ∷ []) 1 ∷ taken (b ∷ []) 0 ∷ taken (b ∷ a ∷ []) 2 ∷ []
unfolding sum_at stacks_of merged
stacks_after = refl

-- of each list its first samples, and none of one of which nothing came
fronts_of_lists : fronts ((taken (a ∷ []) 1 ∷ taken (b ∷ []) 2 ∷ []) ∷ (taken (b ∷ []) 3 ∷ []) ∷ []) (1 ∷ 0 ∷ []) ≡ (taken (a ∷ []) 1 ∷ []) ∷ [] ∷ []
fronts_of_lists = refl
