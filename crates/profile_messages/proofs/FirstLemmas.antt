-- The first item of lists one after another.
use Rattle.std.proofs.Common.{◌≡◌, ◌<◌, ◌+◌, ℕ, List, [], ◌∷◌, ◌++◌, drop, get_or, length, Option, Some, None, true, false, is_some, refl, sym, ◌∙◌, ap, append_assoc}
use Rattle.std.specs.Prelude.{flat_map}
use Rattle.std.proofs.lemmas.List.{at_drop_more}
use Rattle.profile_messages.specs.Message.{first}

pub first-append_none : {A : Type 0} (xs ys : List A) → first xs ≡ None → first (xs ++ ys) ≡ first ys
first-append_none [] ys none = refl
first-append_none (x ∷ xs) ys none = cc

pub first-append_some : {A : Type 0} (xs ys : List A) (x : A) → first xs ≡ Some x → first (xs ++ ys) ≡ Some x
first-append_some [] ys x some = cc
first-append_some (y ∷ xs) ys x some = some

-- no item in two lists
pub first-none-parts : {A : Type 0} (xs ys : List A) → first (xs ++ ys) ≡ None → (first xs ≡ None) × (first ys ≡ None)
first-none-parts [] ys none = (refl, none)
first-none-parts (x ∷ xs) ys none = cc

-- what was found is the first of the first list, if there is one
pub first-found : {A : Type 0} (xs ys : List A) (found : Option A) → found ≡ first xs → true ≡ is_some found → found ≡ first (xs ++ ys)
first-found xs ys None is some = cc
first-found xs ys (Some x) is some = sym (first-append_some xs ys x (sym is))

pub first-not_found : {A : Type 0} (xs ys : List A) (found : Option A) → found ≡ first xs → false ≡ is_some found → first (xs ++ ys) ≡ first ys
first-not_found xs ys None is none = first-append_none xs ys (sym is)
first-not_found xs ys (Some x) is none = cc

-- the first of what the items have from a place on, where this is the item there
pub first-from : {A B : Type 0} (f : A → List B) (xs : List A) (i : ℕ) (x : A) → i < length xs → x ≡ get_or xs i x → first (f x ++ flat_map f (drop (i + 1) xs)) ≡ first (flat_map f (drop i xs))
first-from f xs i x below is =
    ap (λ y. first (f y ++ flat_map f (drop (i + 1) xs))) is ∙ sym (at_drop_more (λ ys. first (flat_map f ys)) xs i x below)

-- the first of what each item has, where the first one has none
pub first-behind_item : {A B : Type 0} (f : A → List B) (x : A) (xs : List A) (behind : List B) (all : Option B) → first (f x) ≡ None → first (flat_map f (x ∷ xs) ++ behind) ≡ all → first (flat_map f xs ++ behind) ≡ all
first-behind_item f x xs behind all none is =
    sym (first-append_none (f x) (flat_map f xs ++ behind) none) ∙ ap first (sym (append_assoc (f x) (flat_map f xs) behind)) ∙ is

-- what the items have, of which that of the first is there
pub gathered-item : {A B : Type 0} (f : A → List B) (x : A) (xs : List A) (old new all : List B) → new ≡ old ++ f x → old ++ flat_map f (x ∷ xs) ≡ all → new ++ flat_map f xs ≡ all
gathered-item f x xs old new all more is = ap (λ list. list ++ flat_map f xs) more ∙ append_assoc old (f x) (flat_map f xs) ∙ is
