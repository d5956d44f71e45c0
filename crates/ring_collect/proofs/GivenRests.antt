-- Rests that readers may give, one of each, and what holds of them.
use Rattle.std.proofs.Common.{All, ◌≡◌, ℕ, zero, suc, List, [], ◌∷◌, length, map, refl, ap, subst, ◌∙◌, Some, slice_get}
use Rattle.std.proofs.lemmas.Option.{get_or_from_slice_get, slice_get_within, same_Some}
use Rattle.stack_core.specs.Reading.{Rest}
use Rattle.stack_core.specs.RowReading.{GivesSome, GivesSuch}
use Rattle.ring_collect.specs.Collection.{AreGiven, GiveSuch}

-- a rest for each reader, of each of which something holds
pub record Chosen {R : Type 0} (gives : R → Rest → Type 0) (readers : List R) (Holds : ℕ → Rest → Type 0) : Type 0 where
  pub rests : List Rest
  pub are_given : AreGiven gives readers rests
  pub each : (source : ℕ) (rest : Rest) → slice_get rests source ≡ Some rest → Holds source rest

one_more : {R : Type 0} (gives : R → Rest → Type 0) (Holds : ℕ → Rest → Type 0) (reader : R) (readers : List R) → GivesSuch (gives reader) (Holds 0) → Chosen gives readers (λ source. Holds (suc source)) → Chosen gives (reader ∷ readers) Holds
one_more gives Holds reader readers first later = record { rests = first.rest ∷ later.rests; are_given = (first.is_given, later.are_given); each = each }
  where
    each : (source : ℕ) (rest : Rest) → slice_get (first.rest ∷ later.rests) source ≡ Some rest → Holds source rest
    each zero rest is = subst (Holds 0) (same_Some first.rest rest is) first.holds
    each (suc source) rest is = later.each source rest is

-- where each reader may give one, there is one for each
pub choose : {R : Type 0} (gives : R → Rest → Type 0) (Holds : ℕ → Rest → Type 0) (readers : List R) → ((source : ℕ) (reader : R) → slice_get readers source ≡ Some reader → GivesSuch (gives reader) (Holds source)) → Chosen gives readers Holds
choose gives Holds [] one = record { rests = []; are_given = tt; each = λ source rest is. absurd (cc) }
choose gives Holds (reader ∷ readers) one =
    one_more gives Holds reader readers (one 0 reader refl) (choose gives (λ source. Holds (suc source)) readers (λ source. one (suc source)))

pub given_count : {R : Type 0} (gives : R → Rest → Type 0) (readers : List R) (rests : List Rest) → AreGiven gives readers rests → length rests ≡ length readers
given_count gives [] [] given = refl
given_count gives [] (rest ∷ rests) given = absurd given
given_count gives (reader ∷ readers) [] given = absurd given
given_count gives (reader ∷ readers) (rest ∷ rests) given = ap suc (given_count gives readers rests given.1)

-- what holds of all holds of the one at an index
pub one_of_all : {A : Type 0} (P : A → Type 0) (xs : List A) → All P xs → (i : ℕ) (x : A) → slice_get xs i ≡ Some x → P x
one_of_all P xs all i x is = subst P (get_or_from_slice_get xs i x x is) (all i x (slice_get_within xs i x is))

-- what holds of any rests holds of some that may be given
pub any_given : {R : Type 0} (gives : R → Rest → Type 0) (readers : List R) {Holds : List Rest → Type 0} → All (λ reader. GivesSome (gives reader)) readers
    → ((rests : List Rest) → length rests ≡ length readers → Holds rests) → GiveSuch gives readers Holds
any_given gives readers possible any =
    let given : Chosen gives readers (λ _ _. Unit {0}) = choose gives (λ _ _. Unit {0}) readers (λ source reader is.
    let some = one_of_all (λ reader. GivesSome (gives reader)) readers possible source reader is in
    record { rest = some.rest; is_given = some.is_given; holds = tt }) in
    record { rests = given.rests; are_given = given.are_given; holds = any given.rests (given_count gives readers given.rests given.are_given) }

-- over bytes that are known there is one rest for each
pub known_rests : {R : Type 0} (gives : R → Rest → Type 0) (rest_of : R → Rest) → ((reader : R) (other : Rest) → gives reader other → other ≡ rest_of reader) → (readers : List R) (rests : List Rest)
    → AreGiven gives readers rests → rests ≡ map rest_of readers
known_rests gives rest_of no_other [] [] given = refl
known_rests gives rest_of no_other [] (rest ∷ rests) given = absurd given
known_rests gives rest_of no_other (reader ∷ readers) [] given = absurd given
known_rests gives rest_of no_other (reader ∷ readers) (rest ∷ rests) given =
    ap (λ first. first ∷ rests) (no_other reader rest given.0) ∙ ap (λ later. rest_of reader ∷ later) (known_rests gives rest_of no_other readers rests given.1)

-- so what holds of some holds of these
pub known_such : {R : Type 0} (gives : R → Rest → Type 0) (rest_of : R → Rest) → ((reader : R) (other : Rest) → gives reader other → other ≡ rest_of reader) → (readers : List R) (Holds : List Rest → Type 0)
    → GiveSuch gives readers Holds → Holds (map rest_of readers)
known_such gives rest_of no_other readers Holds given = subst Holds (known_rests gives rest_of no_other readers given.rests given.are_given) given.holds
