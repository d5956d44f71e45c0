-- A list that gains what one more element of another is mapped to at each step of a loop.
use Rattle.std.proofs.Common.{◌≡◌, ◌∙◌, ℕ, ◌+◌, ◌<◌, ◌≤◌, List, [], ◌∷◌, ◌++◌, length, get_or, map, take, ap, sym, append_assoc}
use Rattle.std.proofs.lemmas.List.{map_more, take_all}

pub mapped_more : {X Y : Type 0} (f : X → Y) (xs : List X) (i : ℕ) (d : X) (all new : List Y) → i < length xs → all ≡ map f (take i xs) → new ≡ all ++ f (get_or xs i d) ∷ [] → new ≡ map f (take (i + 1) xs)
mapped_more f xs i d all new lt is pushed = pushed ∙ ap (λ ys. ys ++ f (get_or xs i d) ∷ []) is ∙ sym (map_more f xs i d lt)

pub mapped_all : {X Y : Type 0} (f : X → Y) (xs : List X) (i : ℕ) (all : List Y) → length xs ≤ i → all ≡ map f (take i xs) → all ≡ map f xs
mapped_all f xs i all le is = is ∙ ap (map f) (take_all i xs le)

-- the same after a front
pub appended_more : {X Y : Type 0} (f : X → Y) (xs : List X) (i : ℕ) (d : X) (front all new : List Y) → i < length xs → all ≡ front ++ map f (take i xs) → new ≡ all ++ f (get_or xs i d) ∷ [] → new ≡ front ++ map f (take (i + 1) xs)
appended_more f xs i d front all new lt is pushed =
    pushed ∙ ap (λ ys. ys ++ f (get_or xs i d) ∷ []) is ∙ append_assoc front (map f (take i xs)) (f (get_or xs i d) ∷ []) ∙ ap (λ ys. front ++ ys) (sym (map_more f xs i d lt))

pub appended_all : {X Y : Type 0} (f : X → Y) (xs : List X) (i : ℕ) (front all : List Y) → length xs ≤ i → all ≡ front ++ map f (take i xs) → all ≡ front ++ map f xs
appended_all f xs i front all le is = is ∙ ap (λ ys. front ++ map f ys) (take_all i xs le)
