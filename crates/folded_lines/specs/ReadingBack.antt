-- Which samples folded lines can carry, and their text.
use Rattle.std.specs.Prelude.{◌≡◌, ◌≢◌, ◌≤◌, ℕ, false, List, [], ◌∷◌, length, All}
use Rattle.std.specs.List.{flat_map}
use Rattle.std.specs.Str.{IsUtf8}
use Rattle.sample_tables.specs.declared.samples.TheConstants.{FRAME_LIMIT}
use Rattle.sample_tables.specs.declared.samples.Sample.{Sample}
use Rattle.folded_lines.specs.Lines.{columns, ends_in_number}
use Rattle.folded_lines.specs.Writing.{line_of}

-- the lines of the samples, one after another
abbrev pub text_of : List Sample → List ℕ
text_of samples = flat_map (λ sample. line_of sample.stack sample.weight) samples

-- the last name, if there is one, is not empty and does not end in a space or tab and a number
abbrev pub EndsPlainly : List (List ℕ) → Type 0
EndsPlainly [] = Unit {0}
EndsPlainly (name ∷ []) = (name ≢ []) × (ends_in_number (columns name) ≡ false)
EndsPlainly (name ∷ next ∷ names) = EndsPlainly (next ∷ names)

-- text without ';' and LF
pub record IsPlainName (name : List ℕ) : Type 0 where
  pub text : IsUtf8 name
  pub whole : All (λ b. (b ≢ 59) × (b ≢ 10)) name

-- a stack that reads back
pub record IsPlain (sample : Sample) : Type 0 where
  pub names : All IsPlainName sample.stack
  pub last : EndsPlainly sample.stack
  pub depth : length sample.stack ≤ FRAME_LIMIT
