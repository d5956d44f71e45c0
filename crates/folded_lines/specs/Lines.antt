-- How a folded line reads: names joined by ';', root first, a space or tab, and a count.
use Rattle.std.specs.Prelude.{ℕ, ◌+◌, Bool, false, ◌==◌, ◌||◌, ◌&&◌, not, nat_lt, nat_le, if◌then◌else◌, List, [], ◌∷◌, length, take, drop, map, Option, Some, None, slice_index, count_by}
use Rattle.std.specs.Option.{option_map}
use Rattle.std.specs.List.{list_all, list_any, slice_split}
use Rattle.std.specs.Char.{is_ascii_digit}
use Rattle.std.specs.Str.{encode_utf8_all}
use Rattle.std.specs.Str.Parse.{digits_value}
use Rattle.memchr.specs.Find.{is_byte2, places, last_of}
use Rattle.bstr.specs.Text.{lines_of, without_terminator}
use Rattle.bstr.specs.Utf8.{lossy_chars}
use Rattle.sample_tables.specs.declared.samples.TheConstants.{FRAME_LIMIT}
use Rattle.stack_core.specs.declared.endings.ReadKind.TheVariants.{DecimalWeight, TwoColumns, TooDeep}
use Rattle.folded_lines.specs.Line.{Line}
use Rattle.folded_lines.specs.Line.{Ignored, Fault, Sample}

-- the lines of a text: each ends in LF or CRLF, which it loses, and a last one without an end counts
abbrev pub text_lines : List ℕ → List (List ℕ)
text_lines bytes = map without_terminator (lines_of bytes)

-- where the last space or tab stands
abbrev pub last_blank : List ℕ → Option ℕ
last_blank line = last_of (places (is_byte2 32 9) line)

-- what stands before the last space or tab, and what after it
abbrev pub columns : List ℕ → Option (List ℕ × List ℕ)
columns line = option_map (λ k. (take k line, drop (k + 1) line)) (last_blank line)

abbrev pub is_point : ℕ → Bool
is_point b = b == 46

-- one or more digits, and at most one point, which is not the first
abbrev pub is_number : List ℕ → Bool
is_number text = is_ascii_digit (slice_index text 0)
    && (list_all (λ b. is_ascii_digit b || is_point b) text && nat_le (count_by is_point text) 1)

abbrev pub has_point : List ℕ → Bool
has_point text = list_any is_point text

-- whether the column after the last space or tab is a number
abbrev pub ends_in_number : Option (List ℕ × List ℕ) → Bool
ends_in_number None = false
ends_in_number (Some parts) = is_number parts.1

-- a name in front of the names that are kept: none is dropped but an empty one at the end
abbrev pub onto_kept : List ℕ → List (List ℕ) → List (List ℕ)
onto_kept [] [] = []
onto_kept [] (next ∷ names) = [] ∷ next ∷ names
onto_kept (b ∷ bs) names = (b ∷ bs) ∷ names

abbrev pub without_trailing_empty : List (List ℕ) → List (List ℕ)
without_trailing_empty [] = []
without_trailing_empty (name ∷ names) = onto_kept name (without_trailing_empty names)

-- the text of some bytes, with U+FFFD for what is not UTF-8
abbrev pub lossy_text : List ℕ → List ℕ
lossy_text bytes = encode_utf8_all (lossy_chars bytes)

abbrev pub is_semicolon : ℕ → Bool
is_semicolon b = b == 59

-- the stack that the first column writes
abbrev pub names_of : List ℕ → List (List ℕ)
names_of head = map lossy_text (without_trailing_empty (slice_split is_semicolon head))

-- a stack and a weight, unless the stack is too deep
abbrev pub sample_of : List ℕ → List ℕ → Line
sample_of head count = if nat_lt FRAME_LIMIT (length (names_of head)) then Fault TooDeep
    else Sample (record { stack = names_of head; weight = digits_value 10 count })

abbrev pub read_columns : Option (List ℕ × List ℕ) → Line
read_columns None = Ignored
read_columns (Some (head, count)) =
    if not (is_number count) then Ignored
    else if has_point count then Fault DecimalWeight
    else if ends_in_number (columns head) then Fault TwoColumns
    else sample_of head count

-- what one line is
abbrev pub read_line : List ℕ → Line
read_line line = read_columns (columns line)
