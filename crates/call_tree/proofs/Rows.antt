-- The worked example of a table and a tree, computed on the definitions.
use Rattle.std.proofs.Common.{◌≡◌, ℕ, List, [], ◌∷◌, nat_eq, refl}
use Rattle.call_tree.specs.FrameTable.{with_name}
use Rattle.call_tree.specs.PathSums.{total_of, own_of}

adds : List (List ℕ × ℕ)
adds = (0 ∷ 1 ∷ [], 2) ∷ (0 ∷ [], 1) ∷ (0 ∷ 1 ∷ [], 3) ∷ (0 ∷ 0 ∷ [], 4) ∷ []

total_of_all : total_of nat_eq adds [] ≡ 10
unfolding adds total_of
total_of_all = refl

total_of_first : total_of nat_eq adds (0 ∷ []) ≡ 10
unfolding adds total_of
total_of_first = refl

own_of_first : own_of nat_eq adds (0 ∷ []) ≡ 1
unfolding adds own_of
own_of_first = refl

total_below : total_of nat_eq adds (0 ∷ 1 ∷ []) ≡ 5
unfolding adds total_of
total_below = refl

total_of_same : total_of nat_eq adds (0 ∷ 0 ∷ []) ≡ 4
unfolding adds total_of
total_of_same = refl

total_elsewhere : total_of nat_eq adds (1 ∷ []) ≡ 0
unfolding adds total_of
total_elsewhere = refl

-- `a`, `b` and `a` again
names_asked : with_name (with_name (with_name [] (97 ∷ [])) (98 ∷ [])) (97 ∷ []) ≡ (97 ∷ []) ∷ (98 ∷ []) ∷ []
names_asked = refl
