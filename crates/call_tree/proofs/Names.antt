-- Names in a table: what a look-up finds, and what a new name leaves.
use Rattle.std.proofs.Common.{◌≡◌, ℕ, ◌+◌, ◌-◌, ◌<◌, inl, inr, true, false, List, [], ◌∷◌, ◌++◌, length, get_or, slice_get, Some, refl, sym, ap, ◌∙◌, arith, true≢false, if◌then◌else◌}
use Rattle.std.specs.List.{list_any}
use Rattle.std.specs.Str.{bytes_eq}
use Rattle.std.proofs.lemmas.List.Folds.{list_any_at}
use Rattle.std.proofs.lemmas.Option.{slice_get-get_or}
use Rattle.std.proofs.lemmas.Slice.Eq.{bytes_eq-Decides}
use Rattle.std.proofs.lemmas.List.{length-append, get_or_append_left, get_or-append_right}
use Rattle.call_tree.specs.FrameTable.{with_name, HasDistinctNames}
use Rattle.call_tree.proofs.Steps.{last_or_before}

-- `name` stands at place n
pub record IsAt (names : List (List ℕ)) (name : List ℕ) (n : ℕ) : Type 0 where
  pub below : n < length names
  pub is : get_or names n [] ≡ name

pub slice_get-IsAt : (names : List (List ℕ)) (name : List ℕ) (n : ℕ) → IsAt names name n → slice_get names n ≡ Some name
slice_get-IsAt names name n at = slice_get-get_or names n [] at.below ∙ ap Some at.is

-- a known name leaves the table as it is
pub with_name_known : (names : List (List ℕ)) (name : List ℕ) (n : ℕ) → IsAt names name n → with_name names name ≡ names
with_name_known names name n at =
    let found : list_any (bytes_eq name) names ≡ true = list_any_at (bytes_eq name) names n [] at.below ((bytes_eq-Decides name (get_or names n [])).1 (sym at.is)) in
    ap (λ b. if b then names else names ++ name ∷ []) found

-- a new name goes last
pub with_name_new : (names : List (List ℕ)) (name : List ℕ) → list_any (bytes_eq name) names ≡ false → with_name names name ≡ names ++ name ∷ []
with_name_new names name none = ap (λ b. if b then names else names ++ name ∷ []) none

pub IsAt_push : (names : List (List ℕ)) (name : List ℕ) → IsAt (names ++ name ∷ []) name (length names)
IsAt_push names name = record {
  below = omega (arith, length-append names (name ∷ []));
  is = get_or-append_right names (name ∷ []) (length names) (length names) [] refl (omega arith) ∙ at_start (length names - length names) (omega arith);
}
  where
    at_start : (n : ℕ) → n ≡ 0 → get_or (name ∷ []) n [] ≡ name
    at_start n e = ap (λ m. get_or (name ∷ []) m []) e

-- a name that the table lacks stands at no place of it
absent : (names : List (List ℕ)) (name : List ℕ) → list_any (bytes_eq name) names ≡ false → (i : ℕ) → i < length names → name ≡ get_or names i [] → ⊥
absent names name none i lt is = true≢false (sym (list_any_at (bytes_eq name) names i [] lt ((bytes_eq-Decides name (get_or names i [])).1 is)) ∙ none)

pub HasDistinctNames_push : (names : List (List ℕ)) (name : List ℕ) → HasDistinctNames names → list_any (bytes_eq name) names ≡ false → HasDistinctNames (names ++ name ∷ [])
HasDistinctNames_push names name distinct none i j li lj same =
    let n = length names in
    let ll : length (names ++ name ∷ []) ≡ n + 1 = length-append names (name ∷ []) in
    let before : (k : ℕ) → k < n → get_or (names ++ name ∷ []) k [] ≡ get_or names k [] = λ k lt. get_or_append_left names (name ∷ []) [] k lt in
    let last : get_or (names ++ name ∷ []) n [] ≡ name = (IsAt_push names name).is in
    let at_last : (k : ℕ) → k ≡ n → get_or (names ++ name ∷ []) k [] ≡ name = λ k e. ap (λ m. get_or (names ++ name ∷ []) m []) e ∙ last in
    elim (last_or_before i n (omega arith)) [
      | inl ei ↦ elim (last_or_before j n (omega arith)) [
        | inl ej ↦ ei ∙ sym ej
        | inr bj ↦ absurd (absent names name none j bj (sym (at_last i ei) ∙ same ∙ before j bj))
      ]
      | inr bi ↦ elim (last_or_before j n (omega arith)) [
        | inl ej ↦ absurd (absent names name none i bi (sym (at_last j ej) ∙ sym same ∙ before i bi))
        | inr bj ↦ distinct i j bi bj (sym (before i bi) ∙ same ∙ before j bj)
      ]
    ]
