-- Links that are found: what a walk that meets none says, and what one link more changes.
use Rattle.std.proofs.Common.{◌≡◌, ℕ, ◌+◌, ◌*◌, ◌<◌, List, [], ◌∷◌, ◌++◌, length, get_or, sym, ap, subst, ◌∙◌, arith, length-append}
use Rattle.call_tree.specs.declared.links.Link.{Link}
use Rattle.call_tree.specs.checked.Places.{IsPlaced, KeepsNumbers, AreSound}
use Rattle.call_tree.specs.checked.Links.{hash_of_link, HasLinks, IsNoLink}
use Rattle.call_tree.proofs.PlaceWalks.{met_keeps}
use Rattle.call_tree.proofs.Steps.{pushed}

-- a link that the walk of its hash does not meet is not there
pub none_if_not_met : (links : List Link) (cells : List ℕ) (slots capacity : ℕ) (link : Link) (hash : ℕ)
    → HasLinks links slots cells capacity → hash ≡ hash_of_link link
    → ((n : ℕ) → IsPlaced cells slots hash n → (n < length links) × (get_or links n link ≡ link) → ⊥) → IsNoLink links link
none_if_not_met links cells slots capacity link hash has is not_met n lt at =
    not_met n (subst (λ h. IsPlaced cells slots h n) (ap hash_of_link at ∙ sym is) (has.placed n link lt)) (lt, at)

-- the places of links keep those that they have
pub placed_keeps : {cells new : List ℕ} {slots : ℕ} (links : List Link) → KeepsNumbers cells new
    → ((n : ℕ) (d : Link) → n < length links → IsPlaced cells slots (hash_of_link (get_or links n d)) n)
    → (n : ℕ) (d : Link) → n < length links → IsPlaced new slots (hash_of_link (get_or links n d)) n
placed_keeps links keeps placed n d lt = met_keeps keeps (placed n d lt)

pub links_push : {links : List Link} {cells new : List ℕ} {slots capacity more : ℕ} (link : Link) → HasLinks links slots cells capacity
    → AreSound slots new more → length new ≡ slots + 2 * (length links + 1) → length links < slots → KeepsNumbers cells new
    → IsPlaced new slots (hash_of_link link) (length links) → HasLinks (links ++ link ∷ []) slots new more
links_push {links} {cells} {new} {slots} link has sound len room keeps placed = record {
  sound = sound;
  len = omega (arith, len, length-append links (link ∷ []));
  fit = omega (arith, room, length-append links (link ∷ []));
  placed = pushed (λ n x. IsPlaced new slots (hash_of_link x) n) links link (placed_keeps links keeps has.placed) placed;
}
