-- What a reader of either format still has to give.
use Rattle.std.specs.Prelude.{◌≡◌, IsTrue}
use Rattle.stack_core.specs.Reading.{Rest}
use Rattle.stack_core.specs.RowSamples.{left_with}
use Rattle.stack_core.specs.declared.readers.KnownRows as known_rows
use Rattle.stack_core.specs.declared.readers.RowReader as row_reader
use Rattle.stack_core.specs.declared.row_samples.NamingReader.{NamingReader}
use Rattle.sample_tables.specs.Rows.{ToldRows}
use Rattle.run_options.specs.Filters.{kept_rest}
use Rattle.source_lists.specs.declared.filtered_reader.FilteredReader.{FilteredReader}
use Rattle.source_lists.specs.declared.source_reader.SourceReader.{SourceReader}
use Rattle.source_lists.specs.declared.source_reader.SourceReader.TheVariants.{Folded, Pprof}

abbrev pub reader_rest : SourceReader → Rest
reader_rest (Folded reader) = reader.rest
reader_rest (Pprof reader) = reader.rest

-- the names and stacks that it told
abbrev pub reader_told : SourceReader → ToldRows
reader_told (Folded reader) = reader.told
reader_told (Pprof reader) = reader.told

-- it has answered the ending
abbrev pub HasEnded : SourceReader → Type 0
HasEnded (Folded reader) = IsTrue reader.has_ended
HasEnded (Pprof reader) = IsTrue reader.has_ended

-- what contracts see of it
abbrev pub rows : row_reader.Ghosts SourceReader
rows = record { gives = λ reader rest. rest ≡ reader_rest reader; told = reader_told; has_ended = HasEnded }

abbrev pub known : known_rows.Ghosts SourceReader
known = record { rest = reader_rest }

-- what a reader of its samples still has to give
abbrev pub naming_rest : NamingReader SourceReader known rows → Rest
naming_rest naming = left_with (reader_told naming.reader).names naming.samples.awaited (reader_rest naming.reader)

-- what a reader that leaves samples out still has to give
abbrev pub filtered_rest : FilteredReader (NamingReader SourceReader known rows) → Rest
filtered_rest filtered = kept_rest filtered.filter (naming_rest filtered.reader)
