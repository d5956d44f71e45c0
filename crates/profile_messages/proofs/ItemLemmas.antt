-- Lists by their places.
use Rattle.std.proofs.Common.{◌≡◌, [], ◌∷◌, ◌++◌, ℕ, zero, suc, List, length, Option, Some, refl, ap, map}
use Rattle.std.specs.Prelude.{option_map, unwrap_or}
use Rattle.std.specs.Option.{option_and_then}
use Rattle.std.specs.List.{slice_get}

pub map-push : {A B : Type 0} (f : A → B) (xs : List A) (x : A) → map f (xs ++ x ∷ []) ≡ map f xs ++ f x ∷ []
map-push f [] x = refl
map-push f (y ∷ xs) x = ap (λ zs. f y ∷ zs) (map-push f xs x)

-- what is at a place stays there when more is behind it
pub slice_get-append : {A : Type 0} (xs ys : List A) (k : ℕ) (x : A) → slice_get xs k ≡ Some x → slice_get (xs ++ ys) k ≡ Some x
slice_get-append [] ys k x is = cc
slice_get-append (y ∷ xs) ys zero x is = is
slice_get-append (y ∷ xs) ys (suc k) x is = slice_get-append xs ys k x is

pub slice_get-push : {A : Type 0} (xs : List A) (x : A) → slice_get (xs ++ x ∷ []) (length xs) ≡ Some x
slice_get-push [] x = refl
slice_get-push (y ∷ xs) x = slice_get-push xs x

-- ---- the first list refers to what the second stands for

pub referred-at : {A B C : Type 0} (g : A → Option C) (f : B → C) (xs : List A) (ys : List B) (k : ℕ) → map g xs ≡ map (λ y. Some (f y)) ys → option_and_then g (slice_get xs k) ≡ option_map f (slice_get ys k)
referred-at g f [] [] k same = refl
referred-at g f [] (y ∷ ys) k same = cc
referred-at g f (x ∷ xs) [] k same = cc
referred-at g f (x ∷ xs) (y ∷ ys) zero same = cc
referred-at g f (x ∷ xs) (y ∷ ys) (suc k) same = referred-at g f xs ys k cc

-- what is referred to stays when there is more of it
pub referred-kept : {A B C : Type 0} (g g' : A → Option C) (f : B → C) (xs : List A) (ys : List B) → ((x : A) (z : C) → g x ≡ Some z → g' x ≡ Some z) → map g xs ≡ map (λ y. Some (f y)) ys → map g' xs ≡ map (λ y. Some (f y)) ys
referred-kept g g' f [] [] kept same = refl
referred-kept g g' f [] (y ∷ ys) kept same = cc
referred-kept g g' f (x ∷ xs) [] kept same = cc
referred-kept g g' f (x ∷ xs) (y ∷ ys) kept same =
    let here : g x ≡ Some (f y) = cc in
    let behind : map g xs ≡ map (λ z. Some (f z)) ys = cc in
    let a : g' x ≡ Some (f y) = kept x (f y) here in
    let b : map g' xs ≡ map (λ z. Some (f z)) ys = referred-kept g g' f xs ys kept behind in cc

pub referred-or : {A B C : Type 0} (g : A → Option C) (f : B → C) (d : C) (xs : List A) (ys : List B) → map g xs ≡ map (λ y. Some (f y)) ys → map (λ x. unwrap_or (g x) d) xs ≡ map f ys
referred-or g f d [] [] same = refl
referred-or g f d [] (y ∷ ys) same = cc
referred-or g f d (x ∷ xs) [] same = cc
referred-or g f d (x ∷ xs) (y ∷ ys) same =
    let here : g x ≡ Some (f y) = cc in
    let a : unwrap_or (g x) d ≡ f y = ap (λ o. unwrap_or o d) here in
    let b : map (λ z. unwrap_or (g z) d) xs ≡ map f ys = referred-or g f d xs ys cc in cc
