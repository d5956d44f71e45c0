-- Worked examples, computed on the definition.
use Rattle.std.proofs.Common.{◌≡◌, [], ◌∷◌, codes, refl}
use Rattle.merged_stacks.specs.Merged.{merged, stacks_of, sum_at}
use Rattle.std.specs.Fmt.{digits}
use Rattle.flame_tool.specs.Runs.{text_of}
use Rattle.folded_lines.proofs.Computing.{computing}

stored_run : merged ((codes "a" ∷ codes "b" ∷ [], 2) ∷ (codes "a" ∷ [], 1) ∷ (codes "a" ∷ codes "b" ∷ [], 3) ∷ []) ≡ (codes "a" ∷ [], 1) ∷ (codes "a" ∷ codes "b" ∷ [], 5) ∷ []
unfolding merged stacks_of sum_at
stored_run = refl

-- an empty stack comes first, an empty name before others, and a stack of weight 0 has no row
odd_lines : merged ((codes "a" ∷ [] ∷ codes "b" ∷ [], 1) ∷ ([], 5) ∷ (codes "b" ∷ [], 0) ∷ (codes "a" ∷ [], 1) ∷ []) ≡ ([], 5) ∷ (codes "a" ∷ [], 1) ∷ (codes "a" ∷ [] ∷ codes "b" ∷ [], 1) ∷ []
unfolding merged stacks_of sum_at
odd_lines = refl

-- the text of a whole input
stored_text : text_of (codes "a;b 2\na 1\na;b 3\n") ≡ codes "a 1\na;b 5\n"
unfolding merged stacks_of sum_at computing digits
stored_text = refl
