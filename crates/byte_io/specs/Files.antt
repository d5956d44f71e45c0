-- What a clause reads of files in memory and of the machine's.
use Rattle.std.specs.Prelude.{ℕ, Bool, List, Option, None, nat_eq, string_bytes, find, option_map}
use Rattle.std.specs.Cmp.Lexicographic.{pointwise}
use Rattle.byte_io.specs.declared.memory_files.MemoryFiles.{MemoryFiles}
use Rattle.byte_io.specs.declared.memory_files.NamedFile.{NamedFile}

-- the bytes of the input
abbrev pub input_bytes : MemoryFiles → List ℕ
input_bytes files = files.input.items

-- the files with their paths
abbrev pub named_files : MemoryFiles → List NamedFile
named_files files = files.named.items

-- the most bytes that are handed out at once
abbrev pub byte_limit : MemoryFiles → ℕ
byte_limit files = files.limit

-- whether a file is given as a stored text
abbrev pub gives_stored : MemoryFiles → Bool
gives_stored files = files.gives_stored

-- the first file of a path
abbrev pub file_at : List NamedFile → List ℕ → Option NamedFile
file_at files path = find (λ file. pointwise nat_eq (string_bytes file.path) path) files

-- the bytes of that file
abbrev pub bytes_at : MemoryFiles → List ℕ → Option (List ℕ)
bytes_at files path = option_map (λ file. file.bytes.items) (file_at (named_files files) path)

-- the bytes of the machine's files and of its input are not known
abbrev pub unknown : Option (List ℕ)
unknown = None

abbrev pub unknown_files : List ℕ → Option (List ℕ)
unknown_files path = unknown
