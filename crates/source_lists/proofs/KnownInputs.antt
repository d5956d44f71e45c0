-- What is told of inputs, where their bytes are known.
use Rattle.std.proofs.Common.{◌≡◌, ◌++◌, suc, List, [], ◌∷◌, Option, Some, None, IfSome, All, ap, length, map, refl, subst, sym}
use Rattle.std.specs.Prelude.{option_and_then, option_map}
use Rattle.std.specs.List.{AllZip}
use Rattle.std.proofs.lemmas.List.Elements.{All-cons, All-head, All-nil, All-tail}
use Rattle.source_lists.specs.Sources.{all_found, format_and_bytes, known_inputs, known_source}
use Rattle.source_lists.specs.declared.sources.Source.{Source}

pub if_some : {A : Type 0} (known : Option A) (P Q : A → Type 0) → ((x : A) → P x → Q x) → IfSome known P → IfSome known Q
if_some None P Q so some = tt
if_some (Some x) P Q so some = so x some

-- ---- two lists, place by place

pub zip_push : {A B : Type 0} (R : A → B → Type 0) (xs : List A) (ys : List B) (x : A) (y : B) → AllZip R xs ys → R x y → AllZip R (xs ++ x ∷ []) (ys ++ y ∷ [])
zip_push R [] [] x y before last = (last, tt)
zip_push R [] (other ∷ ys) x y before last = absurd before
zip_push R (one ∷ xs) [] x y before last = absurd before
zip_push R (one ∷ xs) (other ∷ ys) x y before last = (before.0, zip_push R xs ys x y before.1 last)

pub zip_count : {A B : Type 0} (R : A → B → Type 0) (xs : List A) (ys : List B) → AllZip R xs ys → length ys ≡ length xs
zip_count R [] [] each = refl
zip_count R [] (y ∷ ys) each = absurd each
zip_count R (x ∷ xs) [] each = absurd each
zip_count R (x ∷ xs) (y ∷ ys) each = ap suc (zip_count R xs ys each.1)

pub zip_all : {A B : Type 0} (R : A → B → Type 0) (P : B → Type 0) → ((x : A) (y : B) → R x y → P y) → (xs : List A) (ys : List B) → AllZip R xs ys → All P ys
zip_all R P so xs [] each = All-nil P
zip_all R P so [] (y ∷ ys) each = absurd each
zip_all R P so (x ∷ xs) (y ∷ ys) each = All-cons P y ys (so x y each.0) (zip_all R P so xs ys each.1)

pub zip_each : {A B : Type 0} (xs : List A) (ys : List B) (R : A → B → Type 0) (P : A → Type 0) (Q : B → Type 0) → ((x : A) (y : B) → P x → R x y → Q y) → All P xs → AllZip R xs ys → All Q ys
zip_each [] [] R P Q so all each = All-nil Q
zip_each [] (y ∷ ys) R P Q so all each = absurd each
zip_each (x ∷ xs) [] R P Q so all each = absurd each
zip_each (x ∷ xs) (y ∷ ys) R P Q so all each = All-cons Q y ys (so x y (All-head P x xs all) each.0) (zip_each xs ys R P Q so (All-tail P x xs all) each.1)

pub zip_pushed : {A B : Type 0} (xs : List A) (ys all : List B) (x : A) (y : B) (R : A → B → Type 0) → all ≡ ys ++ y ∷ [] → AllZip R xs ys → R x y → AllZip R (xs ++ x ∷ []) all
zip_pushed xs ys all x y R is before last = subst (AllZip R (xs ++ x ∷ [])) (sym is) (zip_push R xs ys x y before last)

pub zip_taken : {A B : Type 0} (taken xs : List A) (ys : List B) (R : A → B → Type 0) → taken ≡ xs → AllZip R taken ys → AllZip R xs ys
zip_taken taken xs ys R same each = subst (λ xs. AllZip R xs ys) same each

pub zip_weaker : {A B : Type 0} (xs : List A) (ys : List B) (R S : A → B → Type 0) → ((x : A) (y : B) → R x y → S x y) → AllZip R xs ys → AllZip S xs ys
zip_weaker [] [] R S so each = each
zip_weaker [] (y ∷ ys) R S so each = absurd each
zip_weaker (x ∷ xs) [] R S so each = absurd each
zip_weaker (x ∷ xs) (y ∷ ys) R S so each = (so x y each.0, zip_weaker xs ys R S so each.1)

-- ---- what is found for all

found_first : {A B : Type 0} (f : A → B) (found : Option A) (more : Option (List A)) (z : B) (zs : List B) → IfSome found (λ x. z ≡ f x) → IfSome more (λ xs. zs ≡ map f xs)
    → IfSome (option_and_then (λ x. option_map (λ xs. x ∷ xs) more) found) (λ xs. z ∷ zs ≡ map f xs)
found_first f None more z zs first later = tt
found_first f (Some x) None z zs first later = tt
found_first f (Some x) (Some xs) z zs first later = λ i. first i ∷ later i

-- what holds of each that is found holds of all
pub found_all : {A B C : Type 0} (find : A → Option B) (f : B → C) (xs : List A) (zs : List C) → AllZip (λ x z. IfSome (find x) (λ y. z ≡ f y)) xs zs → IfSome (all_found find xs) (λ ys. zs ≡ map f ys)
found_all find f [] [] each = refl
found_all find f [] (z ∷ zs) each = absurd each
found_all find f (x ∷ xs) [] each = absurd each
found_all find f (x ∷ xs) (z ∷ zs) each = found_first f (find x) (all_found find xs) z zs each.0 (found_all find f xs zs each.1)

-- of sources all bytes are known
pub known_of_sources : (sources : List Source) → known_inputs (map known_source sources) ≡ Some (map format_and_bytes sources)
known_of_sources [] = refl
known_of_sources (source ∷ sources) = ap (option_map (λ more. format_and_bytes source ∷ more)) (known_of_sources sources)
