-- Counts of all sources, where those without samples may be left out at the end.
use Rattle.std.specs.Prelude.{ℕ, List, map}
use Rattle.std.specs.List.{range_with_len, slice_index_or}

abbrev pub filled : ℕ → List ℕ → List ℕ
filled sources counts = map (λ source. slice_index_or counts source 0) (range_with_len 0 sources)
