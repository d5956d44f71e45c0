use Rattle.std.proofs.Common.{◌≡◌, ◌<◌, ℕ, ◌+◌, ◌*◌, length, get_or, vec_capacity}
use Rattle.call_tree.specs.declared.links.Link.{Link}
use Rattle.call_tree.specs.checked.Links.{hash_of_link}
use Rattle.call_tree.specs.checked.Places.{AreSound, IsPlaced}
use Rattle.call_tree.proofs.links.places_of.Given as goal

abbrev pub invariant-loop-number : goal.invariant-loop-number
invariant-loop-number l = record {
  sound : AreSound l.places.slots l.places.cells.items (vec_capacity l.places.cells);
  slots : l.places.slots ≡ l.slots;
  len : length l.places.cells.items ≡ l.places.slots + 2 * l.number;
  placed : (k : ℕ) → k < l.number → (d : Link) → IsPlaced l.places.cells.items l.places.slots (hash_of_link (get_or l.links k d)) k;
}
