-- The pieces of a text that is one of two.
use Rattle.std.specs.Prelude.{ℕ, List}
use Rattle.source_views.specs.declared.long_texts.OneOf.{OneOf}
use Rattle.source_views.specs.declared.long_texts.OneOf.TheVariants.{First, Second}

abbrev pub pieces_of_one : {A B : Type 0} → (A → List (List ℕ)) → (B → List (List ℕ)) → OneOf A B → List (List ℕ)
pieces_of_one first second (First text) = first text
pieces_of_one first second (Second text) = second text
