-- Whether any element passes a test, by what stands for it.
use Rattle.std.proofs.Common.{◌≡◌, ◌||◌, Bool, refl, ap, List, [], ◌∷◌, map}
use Rattle.std.specs.List.{list_any}

pub list_any-map : {X Y : Type 0} (test : X → Bool) (of : Y → X) (ys : List Y) → list_any test (map of ys) ≡ list_any (λ y. test (of y)) ys
list_any-map test of [] = refl
list_any-map test of (y ∷ ys) = ap (λ more. test (of y) || more) (list_any-map test of ys)
