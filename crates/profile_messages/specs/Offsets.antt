-- Where the samples of a file stand, and what is found there.
use Rattle.std.specs.Prelude.{ℕ, List, [], Option, Some, None, drop, unwrap_or}
use Rattle.wire_fields.specs.Field.{WireField}
use Rattle.wire_fields.specs.Reading.{fields_of}
use Rattle.profile_messages.specs.Message.{first, bytes_in, Content}

abbrev pub offset_of : Content → ℕ
offset_of content = content.at

abbrev pub bytes_or_none : Option WireField → List ℕ
bytes_or_none None = []
bytes_or_none (Some field) = unwrap_or (bytes_in field.value) []

-- the bytes of the field at a place
abbrev pub content_at : List ℕ → ℕ → List ℕ
content_at file at = bytes_or_none (first (fields_of (drop at file)).items)

abbrev pub found_at : List ℕ → ℕ → Content
found_at file at = record { at = at; bytes = content_at file at }
