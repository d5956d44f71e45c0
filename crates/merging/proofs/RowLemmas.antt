-- Numbers of names, and the table that they are in.
use Rattle.std.proofs.Common.{◌≡◌, ◌<◌, ℕ, List, [], ◌∷◌, ◌++◌, length, get_or, sym, ◌∙◌, subst}
use Rattle.std.proofs.lemmas.List.{map_push}
use Rattle.call_tree.specs.Listing.{named}
use Rattle.ring_collect.specs.NamesInOrder.{GrowsTo}
use Rattle.flame_layout.proofs.Held.{known-grows, named-grows, each-push}
use Rattle.merging.specs.checked.TakenRows.{AreNumbersOf}

-- one number more
pub numbers-push : (stack names longer : List (List ℕ)) (numbers more : List ℕ) (name : List ℕ) (n : ℕ) → AreNumbersOf stack names numbers → GrowsTo names longer → get_or longer n [] ≡ name → n < length longer → more ≡ numbers ++ n ∷ []
    → AreNumbersOf (stack ++ name ∷ []) longer more
numbers-push stack names longer numbers more name n h g e l is =
    let front : named longer numbers ≡ stack = sym (named-grows names longer numbers g h.known) ∙ h.named_as in
    let all : AreNumbersOf (stack ++ name ∷ []) longer (numbers ++ n ∷ []) = record {
      named_as = map_push (λ k. get_or longer k []) numbers n ∙ (λ i. front i ++ e i ∷ []);
      known = each-push (λ k. k < length longer) numbers n (known-grows names longer numbers g h.known) l;
    } in
    subst (λ (numbers : List ℕ). AreNumbersOf (stack ++ name ∷ []) longer numbers) (sym is) all
