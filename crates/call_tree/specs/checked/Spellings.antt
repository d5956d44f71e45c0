-- The entries of a cache of spellings, as its callers see them.
use Rattle.std.specs.Prelude.{◌≡◌, ◌<◌, ℕ, List, length, map, slice_range}
use Rattle.std.specs.List.{slice_index_or}
use Rattle.call_tree.specs.SpellingCache.{Spelling}
use Rattle.call_tree.specs.declared.spellings.Entry.{Entry}

abbrev pub spelling_of : Entry → Spelling
spelling_of entry = record { start = entry.start; end = entry.end; row = entry.row }

abbrev pub spellings_of : List Entry → List Spelling
spellings_of entries = map spelling_of entries

-- the spelling at a place has these bytes
pub record IsSpelledAt (known : List Spelling) (text bytes : List ℕ) (place : ℕ) : Type 0 where
  pub within : place < length known
  pub same_bytes : (none : Spelling) → slice_range text (slice_index_or known place none).start (slice_index_or known place none).end ≡ bytes
