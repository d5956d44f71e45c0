-- What is left of a text that was not sent whole.
use Rattle.std.specs.Prelude.{ℕ, List, Option, take}
use Rattle.std.specs.Io.KnownBytes.{Appends}

-- known bytes grow by a part of the text from its front, or by nothing
abbrev pub AppendsFront : List ℕ → Option (List ℕ) → Option (List ℕ) → Type 0
AppendsFront text old new = (count : ℕ) × Appends old new (take count text)
