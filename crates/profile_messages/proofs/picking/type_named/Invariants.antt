use Rattle.std.proofs.Common.{◌≡◌, [], ℕ, ◌<◌, false, get_or}
use Rattle.std.specs.Prelude.{bytes_eq}
use Rattle.profile_messages.specs.checked.Choosing.{names_of_types}
use Rattle.profile_messages.proofs.picking.type_named.Given as goal

abbrev pub invariant-loop-place : goal.invariant-loop-place
invariant-loop-place l = (k : ℕ) → k < l.place → bytes_eq (get_or (names_of_types l.profile) k []) l.name ≡ false
