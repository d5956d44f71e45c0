-- Names that lie end to end.
use Rattle.std.specs.Prelude.{ℕ, List, All}
use Rattle.std.specs.Str.{IsUtf8}
use Rattle.sample_tables.specs.Spans.{stacks_of, AreWithin}
use Rattle.sample_tables.specs.declared.stacks.Span.{Span}

-- each span lies in the bytes, and is a text
pub record AreTexts (bytes : List ℕ) (spans : List Span) : Type 0 where
  pub within : AreWithin bytes spans
  pub texts : All IsUtf8 (stacks_of bytes spans)
