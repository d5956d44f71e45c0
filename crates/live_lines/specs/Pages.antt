-- The pages of samples while they come: one for each snapshot, and at the end that of all.
use Rattle.std.specs.Prelude.{ℕ, true, false, List, ◌++◌, Some, length}
use Rattle.std.specs.List.{flat_map}
use Rattle.sample_tables.specs.declared.samples.Sample.{Sample}
use Rattle.page_texts.specs.Document.{document_text}
use Rattle.source_views.specs.Pages.{growing_page}
use Rattle.merging.specs.Snapshots.{first_samples, samples_of_pairs, snapshot_places}

-- the page of the first m pairs, of which more are to come
abbrev pub page_at : List (ℕ × Sample) → ℕ → List ℕ
page_at pairs m = document_text (growing_page true (first_samples pairs m))

-- that of all pairs
abbrev pub last_page : List (ℕ × Sample) → List ℕ
last_page pairs = document_text (growing_page false (samples_of_pairs pairs))

-- all of these, one behind the other
abbrev pub pages_text : ℕ → List (ℕ × Sample) → List ℕ
pages_text every pairs =
    flat_map (page_at pairs) (snapshot_places (Some every) (length pairs)) ++ last_page pairs
