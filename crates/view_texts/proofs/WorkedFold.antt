-- Worked examples, computed on the definitions.
use Rattle.std.proofs.Common.{◌≡◌, ℕ, List, [], ◌∷◌, codes, refl}
use Rattle.std.specs.Fmt.{digits}
use Rattle.call_tree.specs.PathSums.{total_of, own_of}
use Rattle.sample_tables.specs.declared.samples.Sample.{Sample}
use Rattle.merged_stacks.specs.Timeline.{Stack}
use Rattle.view_texts.specs.Pairs.{pairs_text}

abbrev pub taken : Stack → ℕ → Sample
taken stack weight = record { stack = stack; weight = weight }

abbrev old : List Sample
old = taken (codes "a" ∷ []) 3 ∷ taken (codes "b" ∷ []) 1 ∷ []

abbrev new : List Sample
new = taken (codes "a" ∷ []) 1 ∷ taken (codes "c" ∷ []) 2 ∷ []

comparison : pairs_text old new ≡ codes "a 3 1\nb 1 0\nc 0 2\n"
unfolding total_of own_of digits
comparison = refl

-- a stack without an own weight has no line, whatever begins with it
inner_stacks : pairs_text (taken (codes "a" ∷ codes "b" ∷ []) 2 ∷ []) (taken [] 5 ∷ taken (codes "a" ∷ []) 0 ∷ []) ≡ codes " 0 5\na;b 2 0\n"
unfolding total_of own_of digits
inner_stacks = refl
