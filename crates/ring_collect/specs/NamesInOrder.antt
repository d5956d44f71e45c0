-- The names of samples, in the order in which they first appear.
use Rattle.std.specs.Prelude.{◌≡◌, List, ◌++◌}
pub use Rattle.stack_core.specs.NamesInOrder.{with_stack, with_stacks, names_in_order}

-- more may stand behind what stood there
abbrev pub GrowsTo : {A : Type 0} → List A → List A → Type 0
GrowsTo {A} old new = (more : List A) × (new ≡ old ++ more)
