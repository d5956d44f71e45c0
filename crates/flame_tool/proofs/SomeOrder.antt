-- An order of any lists: one list after another.
use Rattle.std.proofs.Common.{◌≡◌, ◌∙◌, ◌+◌, ℕ, zero, suc, refl, sym, ap, arith, List, [], ◌∷◌, ◌++◌, length, map, cond, replicate}
use Rattle.std.specs.Prelude.{nat_eq}
use Rattle.std.proofs.lemmas.Bool.Decides.{nat_tests}
use Rattle.std.proofs.lemmas.List.Sums.{sum_by-cons}
use Rattle.stack_core.specs.Interleaving.{IsInterleaving, count_of, list_of}
use Rattle.stack_core.proofs.InterleavingLemmas.{count_of-append, count_of_at, count_of_past}

abbrev pub in_turn : {A : Type 0} → List (List A) → List ℕ
in_turn [] = []
in_turn (list ∷ lists) = replicate (length list) 0 ++ map suc (in_turn lists)

own : (n : ℕ) → count_of 0 (replicate n 0) ≡ n
own zero = refl
own (suc n) = count_of_at 0 0 (replicate n 0) refl ∙ ap suc (own n)

others : (source n : ℕ) → count_of (suc source) (replicate n 0) ≡ 0
others source zero = refl
others source (suc n) = count_of_past (suc source) 0 (replicate n 0) (λ same. absurd cc) ∙ others source n

behind : (order : List ℕ) → count_of 0 (map suc order) ≡ 0
behind [] = refl
behind (source ∷ order) = count_of_past 0 (suc source) (map suc order) (λ same. absurd cc) ∙ behind order

next_same : (one other : ℕ) → nat_eq (suc one) (suc other) ≡ nat_eq one other
next_same one other = grind (arith, nat_tests)

shifted : (source : ℕ) (order : List ℕ) → count_of (suc source) (map suc order) ≡ count_of source order
shifted source [] = refl
shifted source (other ∷ order) =
    sum_by-cons (λ entry. cond (nat_eq entry (suc source)) 1 0) (suc other) (map suc order)
    ∙ ((λ i. cond (next_same other source i) 1 0 + shifted source order i) ∙ sym (sum_by-cons (λ entry. cond (nat_eq entry source) 1 0) other order))

as_often : {A : Type 0} (lists : List (List A)) (source : ℕ) → count_of source (in_turn lists) ≡ length (list_of lists source)
as_often [] zero = refl
as_often [] (suc source) = refl
as_often (list ∷ lists) zero =
    count_of-append 0 (replicate (length list) 0) (map suc (in_turn lists)) ∙ ((λ i. own (length list) i + behind (in_turn lists) i) ∙ omega arith)
as_often (list ∷ lists) (suc source) =
    count_of-append (suc source) (replicate (length list) 0) (map suc (in_turn lists))
    ∙ ((λ i. others source (length list) i + shifted source (in_turn lists) i) ∙ omega (arith, as_often lists source))

pub turned : {A : Type 0} (lists : List (List A)) → IsInterleaving (in_turn lists) lists
turned lists = record { as_often = as_often lists }
