-- What is said on a terminal behind a message: what it means, and what to do.
use Rattle.std.specs.Prelude.{ℕ, ◌&&◌, ◌||◌, ◌==◌, Bool, false, List, [], ◌∷◌, ◌++◌, Option, Some, None, codes, if◌then◌else◌, length, nat_eq, nat_le, not}
use Rattle.std.specs.Char.{is_ascii_alphanumeric}
use Rattle.std.specs.List.{filter, flat_map, list_all, list_any, starts_with}
use Rattle.std.specs.Option.{option_map_or}
use Rattle.std.specs.Str.{bytes_eq}
use Rattle.clap.specs.Walk.{Text}
use Rattle.stack_core.specs.declared.endings.ReadKind.{ReadKind}
use Rattle.stack_core.specs.declared.endings.ReadKind.TheVariants as kind
use Rattle.byte_io.specs.declared.piece_output.PieceFault.TheVariants as piece
use Rattle.source_views.specs.Names.{source_name}
use Rattle.source_views.specs.declared.failures.Failure.{Failure}
use Rattle.source_views.specs.declared.failures.Failure.TheVariants as failure
use Rattle.folded_lines.specs.declared.strictness.StrictKind.{StrictKind}
use Rattle.folded_lines.specs.declared.strictness.StrictKind.TheVariants as strict
use Rattle.byte_io.specs.declared.refusals.Refusal.{Refusal}
use Rattle.byte_io.specs.declared.refusals.Refusal.TheVariants as refusal
use Rattle.profile_messages.specs.declared.types.SampleType.{SampleType}
use Rattle.flame_tool.specs.declared.next_steps.Remedy.{Remedy}
use Rattle.flame_tool.specs.declared.next_steps.Remedy.TheVariants as remedy
use Rattle.flame_tool.specs.declared.next_steps.Seen.{Seen}
use Rattle.flame_tool.specs.declared.next_steps.Seen.TheVariants as seen
use Rattle.flame_tool.specs.declared.next_steps.Trouble.{Trouble}
use Rattle.flame_tool.specs.declared.next_steps.Trouble.TheVariants as trouble

-- ---- words as a shell takes them

abbrev pub is_plain_byte : ℕ → Bool
is_plain_byte byte = is_ascii_alphanumeric byte || list_any (λ plain. plain == byte) (codes "%+,-./:=@_")

abbrev pub is_plain : Text → Bool
is_plain word = not (length word == 0) && list_all is_plain_byte word

-- in `'`, unless a shell takes all of it as it is
abbrev pub shell_word : Text → Text
shell_word word = if is_plain word then word else 39 ∷ word ++ 39 ∷ []

abbrev pub has_quote : Text → Bool
has_quote word = list_any (λ byte. byte == 39) word

-- no word has a `'`
abbrev pub is_quotable : List Text → Bool
is_quotable words = not (list_any has_quote words)

-- a word behind a space; for the one that is dropped stands another text
abbrev pub word_text : Option Text → Text → Text → Text
word_text dropped stand_in word = if option_map_or (λ path. bytes_eq word path) dropped false
    then stand_in else 32 ∷ shell_word word

-- the command of words, with a format behind its name; without words it is `fold`
abbrev pub command_text : Option Text → Text → Text → List Text → Text
command_text dropped stand_in format [] = codes "flamecollect fold" ++ format
command_text dropped stand_in format (name ∷ rest) =
    codes "flamecollect " ++ (shell_word name ++ (format ++ flat_map (word_text dropped stand_in) rest))

-- the name of a sample type behind a space
abbrev pub type_word : SampleType → Text
type_word type = 32 ∷ shell_word type.name

abbrev pub is_types : List Text → Bool
is_types [] = false
is_types (name ∷ rest) = bytes_eq name (codes "types")

abbrev pub is_svg : List Text → Bool
is_svg [] = false
is_svg (name ∷ rest) = bytes_eq name (codes "svg")

abbrev pub asks_format : Text → Bool
asks_format word = starts_with nat_eq word (codes "--format")

abbrev pub has_format : List Text → Bool
has_format words = list_any asks_format words

abbrev pub format_text : List Text → Text
format_text words = if is_types words || has_format words then [] else codes " --format pprof"

-- what stands for the file in a command that reads a pipe
abbrev pub pipe_word : List Text → Text
pipe_word words = if is_types words then codes " /dev/stdin" else []

-- what the source of a path is called in a command
abbrev pub source_word : List Text → List Text → Text → Text
source_word words files path =
    if (length files == 0) || not (is_quotable words) then codes "FILE" else shell_word path

-- the only source can come by a pipe: it is the input, or its path is one word alone, which does not name the picture
abbrev pub can_pipe : List Text → List Text → Text → Bool
can_pipe words files path = is_quotable words && ((length files == 0)
    || (((length files == 1) && not (is_svg words)) && (length (filter (λ word. bytes_eq word path) words) == 1)))

-- ---- what is seen

-- its first field is a sample type, whose own first field is its name
abbrev pub begins_profile : List ℕ → Bool
begins_profile (first ∷ second ∷ third ∷ rest) = (first == 10) && (third == 8)
begins_profile other = false

-- ---- what is said

abbrev pub no_profile : Text
no_profile = codes "it is no whole pprof profile: copy it again; if it is folded text, read it with --format folded"

abbrev pub contradiction : Text
contradiction = codes "the profile contradicts itself: have the tool that made it write it again"

abbrev pub no_memory : Text
no_memory = codes "the system gave no more memory: read fewer or smaller files"

abbrev pub fault_meaning : ReadKind → Text
fault_meaning kind.Compressed = codes "it is compressed by gzip"
fault_meaning kind.Truncated = no_profile
fault_meaning kind.BadVarint = no_profile
fault_meaning kind.BadFieldNumber = no_profile
fault_meaning kind.BadWireType = no_profile
fault_meaning kind.WrongKind = no_profile
fault_meaning kind.BadStringZero = no_profile
fault_meaning kind.BadString = no_profile
fault_meaning kind.ZeroId = contradiction
fault_meaning kind.DuplicateId = contradiction
fault_meaning kind.UnknownFunction = contradiction
fault_meaning kind.UnknownSampleType = codes "it has no such sample type"
fault_meaning kind.NoSampleType = contradiction
fault_meaning kind.ValueCount = contradiction
fault_meaning kind.UnknownLocation = contradiction
fault_meaning kind.NegativeWeight = codes "a weight is below 0, as in a difference of profiles: give both profiles to compare or diff"
fault_meaning kind.TooDeep = codes "a stack has more than 4096 frames: have the tool that made it cut stacks"
fault_meaning kind.TotalTooLarge = codes "its weights add up to more than 72057594037927935: cut it into several files"
fault_meaning kind.DecimalWeight = codes "a count is no whole number: multiply or round the counts"
fault_meaning kind.TwoColumns = codes "a line has two counts, as compare writes them: give the profiles that were compared"

abbrev pub refusal_meaning : Refusal → Text
refusal_meaning refusal.Absent = codes "there is no such file: ls shows which there are"
refusal_meaning refusal.Denied = codes "you may not read it: ls -l shows who may"
refusal_meaning refusal.Folder = codes "it is a folder: give the files in it"
refusal_meaning refusal.Unknown = codes "the system can't read it: ls -l shows what it is"

abbrev pub failure_meaning : Failure → Refusal → Text
failure_meaning failure.TooManyFiles refused = codes "at most 64 files are read at once: fold parts of them, and then the folds"
failure_meaning (failure.Unreadable source) refused = refusal_meaning refused
failure_meaning (failure.TooLarge source) refused = codes "at most 1073741824 bytes of a file are read: fold parts of it, and then the folds"
failure_meaning failure.OutOfMemory refused = no_memory
failure_meaning failure.NoThread refused = codes "the system gave no more threads: read fewer files"
failure_meaning (failure.Unfinished source) refused = codes "not all of it came through: run it again"
failure_meaning failure.Faults refused = []
failure_meaning (failure.Output piece.OutOfMemory) refused = no_memory
failure_meaning (failure.Output piece.Output) refused = codes "its reader ended, or its disk is full: lead the output elsewhere"

abbrev pub strict_meaning : StrictKind → Text
strict_meaning strict.NoCount = codes "that line is no stack and a count: without --strict it is ignored"
strict_meaning strict.NoSamples = codes "nothing was recorded in it: record it again; without --strict it is shown as it is"
strict_meaning (strict.Read k) = fault_meaning k

abbrev pub meaning : Trouble → Text
meaning (trouble.Fault k) = fault_meaning k
meaning (trouble.Strict k) = strict_meaning k
meaning trouble.NoSamples = codes "no line of it is a stack and a count"
meaning (trouble.Failed f refused) = failure_meaning f refused

abbrev pub fault_remedy : ReadKind → Remedy
fault_remedy kind.Compressed = remedy.Unpack
fault_remedy kind.UnknownSampleType = remedy.AskForTypes
fault_remedy other = remedy.Nothing

abbrev pub strict_remedy : StrictKind → Remedy
strict_remedy strict.NoCount = remedy.ReadAsProfile
strict_remedy strict.NoSamples = remedy.Nothing
strict_remedy (strict.Read k) = fault_remedy k

abbrev pub remedy_for : Trouble → Remedy
remedy_for (trouble.Fault k) = fault_remedy k
remedy_for (trouble.Strict k) = strict_remedy k
remedy_for trouble.NoSamples = remedy.ReadAsProfile
remedy_for (trouble.Failed f refused) = remedy.Nothing

-- how what is compressed is read: through a pipe, by the command of the run
abbrev pub unpacking : List Text → List Text → Text → Text
unpacking words files path = if can_pipe words files path
    then codes ": gzip -dc " ++ (source_word words files path ++ (codes " | "
    ++ command_text (Some path) (pipe_word words) (format_text words) words))
    else codes ": gzip -dc FILE > FILE.pb, and read FILE.pb in its place"

-- which types there are, or how they are asked for
abbrev pub naming : List Text → List Text → Text → Seen → Text
naming words files path (seen.Types types) = codes ", but these:" ++ flat_map type_word types
naming words files path other = codes "; these are its types: flamecollect types " ++ source_word words files path

-- how what is no folded text is read
abbrev pub reading_profile : List Text → List Text → Text
reading_profile words files = if (nat_le (length files) 1 && is_quotable words) && not (has_format words)
    then codes "; it begins as a pprof profile does: " ++ command_text None [] (format_text words) words
    else codes "; it begins as a pprof profile does, and those are read with --format pprof"

abbrev pub reading : List Text → List Text → Seen → Text
reading words files seen.Profile = reading_profile words files
reading words files other = []

abbrev pub what_to_do : List Text → List Text → ℕ → Remedy → Seen → Text
what_to_do words files source remedy.Nothing look = []
what_to_do words files source remedy.Unpack look = unpacking words files (source_name files source)
what_to_do words files source remedy.AskForTypes look = naming words files (source_name files source) look
what_to_do words files source remedy.ReadAsProfile look = reading words files look

-- the line behind the message
abbrev pub next_step : List Text → List Text → ℕ → Trouble → Seen → Text
next_step words files source met look =
    codes "  " ++ (meaning met ++ (what_to_do words files source (remedy_for met) look ++ 10 ∷ []))
