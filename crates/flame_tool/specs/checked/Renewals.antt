-- A file whose place one text takes after the other.
use Rattle.std.specs.Prelude.{◌≡◌, ℕ, List, [], ◌∷◌, ◌++◌, Option, None, Some, length, map, drop, option_map, replicate, string_bytes}
use Rattle.std.specs.Io.KnownBytes.{Keeps}
use Rattle.byte_io.specs.Outputs.{PlacedFile}
use Rattle.flame_tool.specs.declared.renewed_file.Renewal.{Renewal}
use Rattle.flame_tool.specs.declared.renewed_file.Renewal.TheVariants.{Between, Begun, Failed}

-- bytes, and behind them others, where both are known
abbrev pub both_bytes : Option (List ℕ) → Option (List ℕ) → Option (List ℕ)
both_bytes None more = None
both_bytes (Some bytes) more = option_map (λ rest. bytes ++ rest) more

-- the bytes of files, one after another
abbrev pub bytes_of : List PlacedFile → Option (List ℕ)
bytes_of [] = Some []
bytes_of (file ∷ files) = both_bytes file.bytes (bytes_of files)

-- what was written since the last text took its place, and did not take it yet
abbrev pub renewal_bytes : {W : Type 0} → (W → Option (List ℕ)) → Renewal W → Option (List ℕ)
renewal_bytes contents Between = Some []
renewal_bytes contents (Begun draft) = contents draft.writer
renewal_bytes contents (Failed written) = contents written.value

-- the draft is one of that path
abbrev pub IsAt : {W : Type 0} → List ℕ → Renewal W → Type 0
IsAt path Between = Unit {0}
IsAt path (Begun draft) = string_bytes draft.path ≡ path
IsAt path (Failed written) = Unit {0}

-- nothing was written since
abbrev pub IsBetween : {W : Type 0} → Renewal W → Type 0
IsBetween Between = Unit {0}
IsBetween (Begun draft) = ⊥
IsBetween (Failed written) = ⊥

-- the files that took their places since
abbrev pub files_since : Option (List PlacedFile) → Option (List PlacedFile) → List PlacedFile
files_since None now = []
files_since (Some before) None = []
files_since (Some before) (Some now) = drop (length before) now

abbrev pub with_files : Option (List PlacedFile) → List PlacedFile → Option (List PlacedFile)
with_files placed files = option_map (λ before. before ++ files) placed

abbrev pub paths_of : List PlacedFile → List (List ℕ)
paths_of files = map (λ file. file.path) files

-- no other file took a place
abbrev pub IsGrown : Option (List PlacedFile) → Option (List PlacedFile) → Type 0
IsGrown before now = now ≡ with_files before (files_since before now)

-- each of them is at that path
abbrev pub AreAt : List ℕ → List PlacedFile → Type 0
AreAt path files = paths_of files ≡ replicate (length files) path

-- all that was written, where it is known which files took their places
abbrev pub all_bytes : Option (List PlacedFile) → Option (List PlacedFile) → Option (List ℕ) → Option (List ℕ)
all_bytes None now last = None
all_bytes (Some before) now last = both_bytes (bytes_of (files_since (Some before) now)) last

-- what took its place at that path, of files before, and what is left of old bytes then
pub record Renews (path : List ℕ) (before now : Option (List PlacedFile)) (old new : Option (List ℕ)) : Type 0 where
  pub files : List PlacedFile
  pub placed : now ≡ with_files before files
  pub at : AreAt path files
  pub bytes : Keeps old (both_bytes (bytes_of files) new)
