-- Text cut at line ends into parts, each of which is read by itself.
use Rattle.std.specs.Prelude.{◌≡◌, ◌⊎◌, ℕ, List, [], ◌∷◌, ◌++◌, All, sum_by}
use Rattle.std.specs.List.{flat_map}
use Rattle.sample_tables.specs.declared.samples.Sample.{Sample}
use Rattle.stack_core.specs.Parts.{ignored_of}
use Rattle.stack_core.specs.declared.endings.SourceEnd.TheVariants as ends
use Rattle.folded_lines.specs.Reading.{read_folded}

-- nothing, or text that ends in LF
abbrev pub IsWholeLines : List ℕ → Type 0
IsWholeLines text = (text ≡ []) ⊎ ((front : List ℕ) × (text ≡ front ++ 10 ∷ []))

-- each part but the last is whole lines
abbrev pub AreCutAtLines : List (List ℕ) → Type 0
AreCutAtLines [] = Unit {0}
AreCutAtLines (part ∷ []) = Unit {0}
AreCutAtLines (part ∷ next ∷ parts) = IsWholeLines part × AreCutAtLines (next ∷ parts)

-- all of it is read
abbrev pub IsFaultless : List ℕ → Type 0
IsFaultless text = (ignored : ℕ) × ((read_folded text).ending ≡ ends.Clean ignored)

-- the samples of the parts, one part after another
abbrev pub samples_of_parts : List (List ℕ) → List Sample
samples_of_parts parts = flat_map (λ part. (read_folded part).samples) parts

-- all of each part is read, and the whole has their samples and ignores as many lines as they do
pub record ReadsAsParts (whole : List ℕ) (parts : List (List ℕ)) : Type 0 where
  pub each : All IsFaultless parts
  pub samples : (read_folded whole).samples ≡ samples_of_parts parts
  pub ending : (read_folded whole).ending ≡ ends.Clean (sum_by (λ part. ignored_of (read_folded part).ending) parts)
