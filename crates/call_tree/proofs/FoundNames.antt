-- Names that are found: what a new name changes, and what a look-up that finds none says.
use Rattle.std.proofs.Common.{◌≡◌, ℕ, ◌<◌, inl, inr, false, List, [], ◌∷◌, ◌++◌, length, get_or, Option, Some, sym, ap, ◌∙◌}
use Rattle.std.specs.List.{list_any}
use Rattle.std.specs.Str.{bytes_eq}
use Rattle.std.proofs.lemmas.Bool.{false_from_ne_true}
use Rattle.std.proofs.lemmas.List.Folds.{Any-from_list_any}
use Rattle.std.proofs.lemmas.List.{get_or_default}
use Rattle.std.proofs.lemmas.Slice.Eq.{bytes_eq-Decides}
use Rattle.sample_tables.specs.NameHashes.{hash_of_name}
use Rattle.call_tree.specs.checked.FoundNames.{IsFound, AreFound}
use Rattle.call_tree.proofs.Steps.{pushed}

-- a name that stands at no place is not among the names
pub none_among : (names : List (List ℕ)) (name : List ℕ) → ((n : ℕ) → n < length names → get_or names n [] ≡ name → ⊥) → list_any (bytes_eq name) names ≡ false
none_among names name none = false_from_ne_true _ (λ any.
    let at = Any-from_list_any (bytes_eq name) names any in
    none at.0 at.2 (get_or_default names at.0 [] at.1 at.2 ∙ at.3 ∙ sym ((bytes_eq-Decides name at.1).0 at.4)))

-- a name whose number is neither that of its hash nor among the crowded stands at no place
pub none_if_not_found : (names : List (List ℕ)) (hashed : ℕ → Option ℕ) (crowded : List ℕ → Option ℕ) (name : List ℕ) (hash : ℕ) (one two : Option ℕ)
    → AreFound names hashed crowded → hash ≡ hash_of_name name → one ≡ hashed hash → two ≡ crowded name
    → ((n : ℕ) → one ≡ Some n → n < length names → get_or names n [] ≡ name → ⊥)
    → ((n : ℕ) → two ≡ Some n → n < length names → get_or names n [] ≡ name → ⊥)
    → (n : ℕ) → n < length names → get_or names n [] ≡ name → ⊥
none_if_not_found names hashed crowded name hash one two found is of_hash of_name not_one not_two n lt at = by (found n [] lt)
  where
    by : IsFound hashed crowded (get_or names n []) n → ⊥
    by (inl e) = not_one n (of_hash ∙ ap hashed (is ∙ ap hash_of_name (sym at)) ∙ e) lt at
    by (inr e) = not_two n (of_name ∙ ap crowded (sym at) ∙ e) lt at

module _ (names : List (List ℕ)) (hashed more : ℕ → Option ℕ) (crowded after : List ℕ → Option ℕ) (name : List ℕ)
    (keeps : (other : List ℕ) (n : ℕ) → (other ≡ name → ⊥) → IsFound hashed crowded other n → IsFound more after other n)
    (none : (n : ℕ) → n < length names → get_or names n [] ≡ name → ⊥) (found : AreFound names hashed crowded) where
  -- where the others keep their numbers, names among which the new one is not are found
  pub found_keep : AreFound names more after
  found_keep n d lt = keeps (get_or names n d) n (λ is. none n lt (get_or_default names n [] d lt ∙ is)) (found n d lt)

  -- and with the new one, where that is found
  pub found_push : IsFound more after name (length names) → AreFound (names ++ name ∷ []) more after
  found_push here = pushed (λ n x. IsFound more after x n) names name found_keep here
