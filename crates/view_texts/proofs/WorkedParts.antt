-- Worked examples of parts, computed on the definitions.
use Rattle.std.proofs.Common.{◌≡◌, List, [], ◌∷◌, ◌++◌, codes, map, refl}
use Rattle.std.specs.List.{concat}
use Rattle.std.specs.Fmt.{digits}
use Rattle.sample_tables.specs.declared.samples.Sample.{Sample}
use Rattle.stack_core.specs.declared.endings.ReadKind.TheVariants.{TwoColumns}
use Rattle.stack_core.specs.declared.endings.SourceEnd.TheVariants as ends
use Rattle.folded_lines.specs.Reading.{read_folded}
use Rattle.folded_lines.proofs.Computing.{computing}
use Rattle.flame_layout.specs.Graph.{graph_of}
use Rattle.merged_stacks.specs.Merged.{sum_at, stacks_of, merged}
use Rattle.view_texts.specs.Fold.{fold_text}
use Rattle.view_texts.specs.Parts.{refolded, fold_of}
use Rattle.view_texts.proofs.WorkedFold.{taken}

abbrev one : List Sample
one = taken (codes "b" ∷ []) 2 ∷ taken (codes "a" ∷ codes "b" ∷ []) 1 ∷ taken (codes "c" ∷ []) 0 ∷ taken (codes "b" ∷ []) 3 ∷ []

abbrev other : List Sample
other = taken (codes "a" ∷ codes "b" ∷ []) 4 ∷ taken [] 1 ∷ []

folds : (fold_text one ≡ codes "a;b 1\nb 5\n") × (fold_text other ≡ codes " 1\na;b 4\n") × (fold_text (one ++ other) ≡ codes " 1\na;b 5\nb 5\n")
unfolding merged stacks_of sum_at digits
folds = (refl, refl, refl)

folds_of_folds : (fold_text (refolded one ++ refolded other) ≡ codes " 1\na;b 5\nb 5\n") × (graph_of (refolded one ++ refolded other) ≡ graph_of (one ++ other))
unfolding computing merged stacks_of sum_at digits
folds_of_folds = (refl, refl)

texts_in_parts : (fold_of (codes "b 2\na;b 1\nb 3\n") ≡ codes "a;b 1\nb 5\n") × (fold_of (concat (map fold_of (codes "b 2\na;b 1\n" ∷ codes "b 3\n" ∷ []))) ≡ codes "a;b 1\nb 5\n")
unfolding computing merged stacks_of sum_at digits
texts_in_parts = (refl, refl)

-- a last name that ends in a space and a number does not read back
not_foldable : read_folded (fold_text (taken (codes "a 1" ∷ []) 2 ∷ [])) ≡ record { samples = []; ending = ends.Fault (record { kind = TwoColumns; at = 1 }) }
unfolding computing merged stacks_of sum_at digits
not_foldable = refl
