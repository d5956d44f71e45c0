-- What holds of each item of a list, by recursion.
use Rattle.std.proofs.Common.{List, [], ◌∷◌, ◌++◌}
use Rattle.std.specs.List.{AllByRecursion, flat_map}

pub each-append : {X : Type 0} (P : X → Type 0) (xs ys : List X) → AllByRecursion P xs → AllByRecursion P ys → AllByRecursion P (xs ++ ys)
each-append P [] ys one other = other
each-append P (x ∷ xs) ys one other = (one.0, each-append P xs ys one.1 other)

-- what each item gives
pub each-flat_map : {X Y : Type 0} (P : X → Type 0) (Q : Y → Type 0) (f : X → List Y) (gives : (x : X) → P x → AllByRecursion Q (f x)) (xs : List X) → AllByRecursion P xs → AllByRecursion Q (flat_map f xs)
each-flat_map P Q f gives [] all = tt
each-flat_map P Q f gives (x ∷ xs) all = each-append Q (f x) (flat_map f xs) (gives x all.0) (each-flat_map P Q f gives xs all.1)

pub each-weaker : {X : Type 0} (P Q : X → Type 0) (f : (x : X) → P x → Q x) (xs : List X) → AllByRecursion P xs → AllByRecursion Q xs
each-weaker P Q f [] all = tt
each-weaker P Q f (x ∷ xs) all = (f x all.0, each-weaker P Q f xs all.1)
