-- What a clause reads of files that took their places, and of those in memory.
use Rattle.std.specs.Prelude.{ℕ, Bool, List, [], ◌∷◌, ◌++◌, Option, Some, None, string_bytes, map, option_map}
use Rattle.byte_io.specs.declared.machine_outputs.MachineOutputs.{MachineOutputs}
use Rattle.byte_io.specs.declared.memory_files.NamedFile.{NamedFile}
use Rattle.byte_io.specs.declared.memory_outputs.MemoryOutputs.{MemoryOutputs}
use Rattle.byte_io.specs.declared.memory_outputs.OutputStep.{OutputStep}

-- a file that took its place: its path, and its bytes, where they are known
pub record PlacedFile : Type 0 where
  pub path : List ℕ
  pub bytes : Option (List ℕ)

-- the files that took their places, and behind them one of this path with these bytes
abbrev pub with_file : List PlacedFile → List ℕ → Option (List ℕ) → List PlacedFile
with_file files path bytes = files ++ record { path = path; bytes = bytes } ∷ []

-- the same, where it is known which did
abbrev pub placed_after : Option (List PlacedFile) → List ℕ → Option (List ℕ) → Option (List PlacedFile)
placed_after placed path bytes = option_map (λ files. with_file files path bytes) placed

-- those of files in memory
abbrev pub files_of : List NamedFile → List PlacedFile
files_of files = map (λ file. record { path = string_bytes file.path; bytes = Some file.bytes.items }) files

-- the files that took their places in memory
abbrev pub placed_of : MemoryOutputs → List PlacedFile
placed_of outputs = files_of outputs.placed.items

-- the step that fails
abbrev pub failing_step : MemoryOutputs → Option OutputStep
failing_step outputs = outputs.failing

-- standard output counts as a terminal
abbrev pub has_memory_terminal : MemoryOutputs → Bool
has_memory_terminal outputs = outputs.is_terminal

-- which files of the machine took their places is not known
abbrev pub unknown_placed : Option (List PlacedFile)
unknown_placed = None

abbrev pub has_machine_terminal : {T : Type 0} → MachineOutputs T → Bool
has_machine_terminal outputs = outputs.is_terminal
