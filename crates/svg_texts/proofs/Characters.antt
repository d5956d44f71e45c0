-- A loop over the characters of a text.
use Rattle.std.proofs.Common.{◌≡◌, ℕ, ◌+◌, List, ◌∷◌, ◌++◌, length, take, drop, Option, Some, None, sym, ap, ◌∙◌}
use Rattle.std.specs.Iterator.{Yields}
use Rattle.std.proofs.lemmas.Iterator.{YieldsList}
use Rattle.std.proofs.lemmas.Iterator.Consumers.{YieldsList-so_far, YieldsList-turn, YieldsList-end}
use Rattle.std.proofs.lemmas.List.{map-id, take-append-drop, drop_more}

-- at its end all were there
pub all_there : {S : Type 0} {steps : S → Option ℕ → S → Type 0} {s : S} {all : List ℕ} (e : YieldsList steps (λ (c : ℕ). c) s all) (xs : List ℕ) (t : S) (y : Yields steps s xs t)
    → (r : Option ℕ) (u : S) → r ≡ None → steps t r u → xs ≡ all
all_there e xs t y r u is step = sym (map-id xs) ∙ (YieldsList-end e xs t y r u is step).0

-- in a turn its character stands behind those before it
pub in_turn : {S : Type 0} {steps : S → Option ℕ → S → Type 0} {s : S} {all : List ℕ} (e : YieldsList steps (λ (c : ℕ). c) s all) (xs : List ℕ) (t : S) (y : Yields steps s xs t)
    → (r : Option ℕ) (u : S) (c : ℕ) → r ≡ Some c → steps t r u → (rest : List ℕ) × (all ≡ xs ++ c ∷ rest)
in_turn {all = all} e xs t y r u c is step =
    let n = length xs in
    let before : xs ≡ take n all = sym (map-id xs) ∙ YieldsList-so_far e xs t y in
    let here = YieldsList-turn e xs t y r u c is step in
    let behind : drop n all ≡ c ∷ drop (n + 1) all = drop_more all n c here.0 ∙ ap (λ (x : ℕ). x ∷ drop (n + 1) all) (sym here.1) in
    (drop (n + 1) all, sym (take-append-drop n all) ∙ (λ i. sym before i ++ behind i))
