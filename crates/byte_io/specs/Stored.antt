-- What a clause reads of stored texts, and of their ranges.
use Rattle.std.specs.Prelude.{ℕ, List, Option, Some, option_map, take, drop}
use Rattle.std.specs.Arc.{arc_value}
use Rattle.byte_io.specs.Files.{unknown}
use Rattle.byte_io.specs.Inlet.{inner_reader}
use Rattle.byte_io.specs.declared.stored_bytes.StoredBytes.{StoredBytes}
use Rattle.byte_io.specs.declared.stored_bytes.StoredBytes.TheVariants.{File, Memory}
use Rattle.byte_io.specs.declared.stored_range.RangeReader.{RangeReader}
use Rattle.byte_io.specs.declared.stored_range.StoredRange.{StoredRange}

-- the bytes, where they are known: in memory, and not in a file
abbrev pub stored_content : StoredBytes → Option (List ℕ)
stored_content (File _) = unknown
stored_content (Memory bytes) = Some bytes.items

-- at most so many bytes from a place on, where the bytes are known
abbrev pub known_range : Option (List ℕ) → ℕ → ℕ → Option (List ℕ)
known_range known at count = option_map (λ all. take count (drop at all)) known

-- what is left of a range
abbrev pub range_left : RangeReader → Option (List ℕ)
range_left range = known_range (stored_content (arc_value range.bytes)) range.at range.left

abbrev pub unread_range : StoredRange → Option (List ℕ)
unread_range range = range_left (inner_reader range.reader)
