-- What a reader of an input still may give.
use Rattle.std.specs.Prelude.{◌≡◌, ◌⊎◌, ℕ, false, List, [], Option, IfSome, IsSome}
use Rattle.byte_io.specs.Stored.{unread_range}
use Rattle.byte_io.specs.declared.inlet.Inlet as inlet
use Rattle.byte_io.specs.Inlet.{failed_reads}
use Rattle.byte_io.specs.declared.stored_range.StoredRange.{StoredRange}
use Rattle.folded_lines.specs.declared.streams.FoldedStream.{FoldedStream}
use Rattle.folded_lines.specs.checked.StreamPlaces.{GivesBy}
use Rattle.stack_core.specs.Reading.{IsSourceLimited, Rest}
use Rattle.stack_core.specs.RowReading.{GivesSome}
use Rattle.stack_core.specs.declared.endings.SourceEnd.TheVariants.{Stopped}
use Rattle.sample_tables.specs.Rows.{ToldRows}
use Rattle.run_options.specs.declared.formats.Format.{Format}
use Rattle.run_options.specs.declared.options.Options.{Options}
use Rattle.source_lists.specs.Sources.{known_input, whole_rest}
use Rattle.folded_lines.specs.State as folded
use Rattle.profile_tables.specs.State as pprof
use Rattle.source_lists.specs.declared.source_reader.SourceReader.TheVariants.{Folded, Pprof}
use Rattle.source_lists.specs.checked.Readers.{HasEnded, reader_rest, reader_told}
use Rattle.source_lists.specs.checked.StoredProfiles.{HasProfileEnded, profile_gives, profile_told}
use Rattle.source_lists.specs.declared.input_readers.InputReader.{InputReader}
use Rattle.source_lists.specs.declared.input_readers.InputReader.TheVariants.{Loaded, Text, Profile}

-- what contracts see of a range of a stored text
abbrev pub range : inlet.Ghosts StoredRange
range = record { remaining = unread_range; failures = λ range. failed_reads range.reader; is_sure = λ _. false }

abbrev pub stream_gives : FoldedStream StoredRange range → Rest → Type 0
stream_gives stream rest = GivesBy (unread_range stream.lines.inlet) false stream.lines stream.counts stream.ended rest

-- the readers of bytes that are there
abbrev pub of_folded : folded.State → InputReader
of_folded rows = Loaded (Folded rows)

abbrev pub of_pprof : pprof.State → InputReader
of_pprof rows = Loaded (Pprof rows)

abbrev pub input_gives : InputReader → Rest → Type 0
input_gives (Loaded reader) rest = rest ≡ reader_rest reader
input_gives (Text stream) rest = stream_gives stream rest
input_gives (Profile profile) rest = profile_gives profile rest

-- the names and stacks that it told
abbrev pub input_told : InputReader → ToldRows
input_told (Loaded reader) = reader_told reader
input_told (Text stream) = stream.telling
input_told (Profile profile) = profile_told profile

-- it has answered the ending
abbrev pub HasInputEnded : InputReader → Type 0
HasInputEnded (Loaded reader) = HasEnded reader
HasInputEnded (Text stream) = IsSome stream.ended
HasInputEnded (Profile profile) = HasProfileEnded profile

-- a source that could not be read to its end
abbrev pub IsCutOff : Rest → Type 0
IsCutOff rest = (after : ℕ) × (rest.ending ≡ Stopped after)

-- a reader that told nothing. It may give what the bytes stand for, where they are known, and nothing else, unless they can't be read
pub record IsReaderOf (options : Options) (input : Format × Option (List ℕ)) (reader : InputReader) : Type 0 where
  pub told : input_told reader ≡ record { names = []; stacks = [] }
  pub possible : GivesSome (input_gives reader)
  pub limited : (rest : Rest) → input_gives reader rest → IsSourceLimited rest.samples
  pub reads : (rest : Rest) → input_gives reader rest → IsCutOff rest ⊎ IfSome (known_input input) (λ source. rest ≡ whole_rest options source)
