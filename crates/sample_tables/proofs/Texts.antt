use Rattle.std.proofs.Common.{◌≡◌, List, [], ◌∷◌, map, Bool, refl}
use Rattle.std.specs.List.{AllZip}
use Rattle.std.specs.Cmp.Lexicographic.{pointwise}

-- copies that read alike map alike
pub map_copies : {X Y : Type 0} (f : X → Y) (xs ys : List X) → AllZip (λ x y. f y ≡ f x) xs ys → map f ys ≡ map f xs
map_copies f [] [] h = refl
map_copies f [] (y ∷ ys) h = absurd h
map_copies f (x ∷ xs) [] h = absurd h
map_copies f (x ∷ xs) (y ∷ ys) h = cc (h.0, map_copies f xs ys h.1)

-- a comparison of what f reads
pub pointwise-map : {X Y : Type 0} (f : X → Y) (eq : Y → Y → Bool) (xs ys : List X) → pointwise (λ x y. eq (f x) (f y)) xs ys ≡ pointwise eq (map f xs) (map f ys)
pointwise-map f eq [] [] = refl
pointwise-map f eq [] (y ∷ ys) = refl
pointwise-map f eq (x ∷ xs) [] = refl
pointwise-map f eq (x ∷ xs) (y ∷ ys) = rw (pointwise-map f eq xs ys) refl
