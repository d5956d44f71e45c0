use Rattle.std.proofs.Common.{◌<◌, ℕ, ◌+◌, get_or, subst, ◌∙◌, ap}
use borrow.Author.Count.{below_more}
use Rattle.std.proofs.lemmas.List.{get_or_default}
use Rattle.call_tree.specs.declared.links.Link.{Link}
use Rattle.call_tree.specs.checked.Links.{hash_of_link}
use Rattle.call_tree.specs.checked.Places.{IsPlaced}
use Rattle.call_tree.proofs.PlaceWalks.{met_keeps}
use Rattle.call_tree.proofs.links.places_of.Goals as goal

pub loop-number-preserved : goal.loop-number-preserved
loop-number-preserved c =
    let links = c.args.links.now in
    let slots : ℕ = c.loop-number.places.slots in
    let cells = c.push.new.self.cells.items in
    let number : ℕ = c.loop-number.number in
    let here : (d : Link) → IsPlaced cells slots (hash_of_link (get_or links number d)) number =
    λ d. subst (λ hash. IsPlaced cells slots hash number) (c.hash_of-hash.ensures ∙ ap hash_of_link (get_or_default links number _ d c.loop-number-test.true)) (rw c.push.ensures.slots at c.push.ensures.placed) in
    let all : (k : ℕ) → k < number + 1 → (d : Link) → IsPlaced cells slots (hash_of_link (get_or links k d)) k =
    below_more (λ k. (d : Link) → IsPlaced cells slots (hash_of_link (get_or links k d)) k) number
    (λ k lt d. met_keeps c.push.ensures.keeps (c.loop-number.invariant.placed k lt d)) here in
    record {
      sound = c.push.ensures.sound;
      slots = c.push.ensures.slots ∙ c.loop-number.invariant.slots;
      len = c.push.ensures.len;
      placed = λ k lt d. rw c.push.ensures.slots (all k lt d);
    }
