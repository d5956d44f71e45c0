-- A list of which the first `popped` items were received, those up to `pushed` are queued and the rest is to come: it moves as a lane.
use Rattle.std.proofs.Common.{◌≡◌, ℕ, ◌+◌, ◌-◌, ◌<◌, ◌≤◌, true, List, [], ◌∷◌, ◌++◌, length, take, drop, refl, ◌∙◌, ap, arith, add-one, zero, suc}
use Rattle.std.proofs.lemmas.List.{length-drop, length-take-le, drop-drop, drop-append-le, take-take, drop-take}
use Rattle.std.proofs.lemmas.Bool.Decides.{nat_tests}
use Rattle.stack_core.specs.Schedule.{Lane, can_push, can_pop, pushed, popped}

abbrev pub laid : {A : Type 0} → List A → ℕ → ℕ → Lane A
laid told p q = record { left = drop p told; queue = drop q (take p told); received = take q told }

-- one more of a list
pub take_one_more : {A : Type 0} (p : ℕ) (xs : List A) → take (suc p) xs ≡ take p xs ++ take 1 (drop p xs)
take_one_more zero [] = refl
take_one_more zero (x ∷ xs) = refl
take_one_more (suc p) [] = refl
take_one_more (suc p) (x ∷ xs) = ap (λ ys. x ∷ ys) (take_one_more p xs)

pub length-queue : {A : Type 0} (told : List A) (p q : ℕ) → q ≤ p → p ≤ length told → length (drop q (take p told)) ≡ p - q
length-queue told p q ordered within = length-drop q (take p told) ∙ ap (λ n. n - q) (length-take-le p told within)

pub can_push-laid : {A : Type 0} (told : List A) (p q size : ℕ) → q ≤ p → p < length told → p - q < size → can_push size (laid told p q) ≡ true
can_push-laid told p q size ordered within room =
    let queue : length (drop q (take p told)) ≡ p - q = length-queue told p q ordered (omega arith) in
    let left : length (drop p told) ≡ length told - p = length-drop p told in
    rw (queue, left) (grind (arith, nat_tests))

pub pushed-laid : {A : Type 0} (told : List A) (p q : ℕ) → q ≤ p → p < length told → laid told (p + 1) q ≡ pushed (laid told p q)
pushed-laid told p q ordered within =
    let long : length (take p told) ≡ p = length-take-le p told (omega arith) in
    let inside : q ≤ length (take p told) = omega arith in
    let left : drop 1 (drop p told) ≡ drop (p + 1) told = drop-drop 1 p told in
    let more : take (p + 1) told ≡ take p told ++ take 1 (drop p told) = rw add-one (take_one_more p told) in
    let queue : drop q (take (p + 1) told) ≡ drop q (take p told) ++ take 1 (drop p told) = rw more (drop-append-le q (take p told) (take 1 (drop p told)) inside) in
    rw (left, queue) refl

pub can_pop-laid : {A : Type 0} (told : List A) (p q : ℕ) → q < p → p ≤ length told → can_pop (laid told p q) ≡ true
can_pop-laid told p q some within =
    let queue : length (drop q (take p told)) ≡ p - q = length-queue told p q (omega arith) within in
    rw queue (grind (arith, nat_tests))

pub popped-laid : {A : Type 0} (told : List A) (p q : ℕ) → q < p → p ≤ length told → laid told p (q + 1) ≡ popped (laid told p q)
popped-laid told p q some within =
    let m : ℕ = p - q in
    let split : q + m ≡ p = omega arith in
    let queue : drop 1 (drop q (take p told)) ≡ drop (q + 1) (take p told) = drop-drop 1 q (take p told) in
    let front : take 1 (drop q (take p told)) ≡ take 1 (drop q told) =
    rw (← split) (ap (take 1) (drop-take q m told) ∙ take-take 1 m (drop q told) (omega arith)) in
    let more : take (q + 1) told ≡ take q told ++ take 1 (drop q told) = rw add-one (take_one_more q told) in
    rw (queue, front, more) refl
