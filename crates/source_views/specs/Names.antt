-- The names of sources.
use Rattle.std.specs.Prelude.{ℕ, List, codes, unwrap_or}
use Rattle.std.specs.List.{slice_get}

-- what messages and pages call the source at a place: its file as it was given, or `-` where there is none
abbrev pub source_name : List (List ℕ) → ℕ → List ℕ
source_name files at = unwrap_or (slice_get files at) (codes "-")
