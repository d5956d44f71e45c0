use Rattle.std.specs.Prelude.{ℕ, List, [], ◌∷◌, ◌++◌, length, All}
use Rattle.std.specs.List.{range_with_len}
use Rattle.sample_tables.specs.Rows.{ToldRows}
pub use Rattle.sample_tables.specs.Spans.{stack_of, stacks_of, AreWithin}
use Rattle.sample_tables.specs.Tables.{IsStack}
use Rattle.sample_tables.specs.declared.stacks.Span.{Span}

-- each span lies in the numbers, and the stacks are as they should be
pub record AreSpans (names : List (List ℕ)) (frames : List ℕ) (spans : List Span) : Type 0 where
  pub within : AreWithin frames spans
  pub stacks : All (IsStack names) (stacks_of frames spans)

-- names come last, each under the next number, and so does the stack of these numbers
abbrev pub with_fresh_stack : ToldRows → List (List ℕ) → ToldRows
with_fresh_stack told stack =
    record {
      names = told.names ++ stack;
      stacks = told.stacks ++ range_with_len (length told.names) (length stack) ∷ [];
    }
