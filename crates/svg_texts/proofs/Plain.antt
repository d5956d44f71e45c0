-- Characters that are written as they are, and take one place.
use Rattle.std.proofs.Common.{◌≡◌, ◌≢◌, ℕ, zero, suc, ◌+◌, ◌-◌, ◌/◌, ◌%◌, ◌<◌, ◌≤◌, ◌⊎◌, inl, inr, List, [], ◌∷◌, ◌++◌, true, false, ltb, length, take, min, refl, sym, ap, ◌∙◌, arith}
use Rattle.std.proofs.lemmas.Bool.{cases_Bool, cases_lt, le-leb, ltb-true, ltb-false}
use Rattle.std.proofs.lemmas.Bool.Decides.{nat_tests}
use Rattle.std.proofs.lemmas.List.{take_all}
use Rattle.std.proofs.lemmas.List.Sums.{sum_by-cons}
use Rattle.std.proofs.lemmas.Str.{encode_ascii}
use Rattle.std.specs.List.{AllByRecursion}
use Rattle.svg_texts.specs.Shown.{hexadecimal, number_text, xml_character, xml_text}
use Rattle.svg_texts.specs.Labels.{places, places_of, front}

pub record IsPlain (character : ℕ) : Type 0 where
  pub written : xml_character character ≡ character ∷ []
  pub places : places character ≡ 1
  pub ascii : character < 128

pub plain : (c : ℕ) → c < 128 → c ≢ 38 → c ≢ 60 → c ≢ 62 → c ≢ 34 → c ≢ 39 → IsPlain c
plain c low amp less more quote tick =
    let e = encode_ascii c low in
    record {
      written = grind (arith, nat_tests, e);
      places = grind (arith, nat_tests);
      ascii = low;
    }

plain-hexadecimal : (digit : ℕ) → digit < 16 → IsPlain (hexadecimal digit)
plain-hexadecimal digit low = by (cases_Bool (ltb digit 10))
  where
    by : ((ltb digit 10 ≡ true) ⊎ (ltb digit 10 ≡ false)) → IsPlain (hexadecimal digit)
    by (inl e) =
        let lt = ltb-true digit 10 e in
        rw e (plain (48 + digit) (omega arith) (λ (h : 48 + digit ≡ 38). omega arith) (λ (h : 48 + digit ≡ 60). omega arith) (λ (h : 48 + digit ≡ 62). omega arith) (λ (h : 48 + digit ≡ 34). omega arith) (λ (h : 48 + digit ≡ 39). omega arith))
    by (inr e) =
        let le = ltb-false digit 10 e in
        rw e (plain (55 + digit) (omega arith) (λ (h : 55 + digit ≡ 38). omega arith) (λ (h : 55 + digit ≡ 60). omega arith) (λ (h : 55 + digit ≡ 62). omega arith) (λ (h : 55 + digit ≡ 34). omega arith) (λ (h : 55 + digit ≡ 39). omega arith))

pub number-plain : (character : ℕ) → AllByRecursion IsPlain (number_text character)
number-plain character = (
  open_bracket,
  (
    letter,
    (
      plus,
      (
        plain-hexadecimal (character / 4096 % 16) (omega arith),
        (
          plain-hexadecimal (character / 256 % 16) (omega arith),
          (
            plain-hexadecimal (character / 16 % 16) (omega arith),
            (
              plain-hexadecimal (character % 16) (omega arith),
              (closed_bracket, tt),
            ),
          ),
        ),
      ),
    ),
  ),
)
  where
    open_bracket : IsPlain 91
    open_bracket = record { written = encode_ascii 91 (omega arith); places = refl; ascii = omega arith }

    letter : IsPlain 85
    letter = record { written = encode_ascii 85 (omega arith); places = refl; ascii = omega arith }

    plus : IsPlain 43
    plus = record { written = encode_ascii 43 (omega arith); places = refl; ascii = omega arith }

    closed_bracket : IsPlain 93
    closed_bracket = record { written = encode_ascii 93 (omega arith); places = refl; ascii = omega arith }

pub places-plain : (characters : List ℕ) → AllByRecursion IsPlain characters → places_of characters ≡ length characters
places-plain [] all = refl
places-plain (c ∷ rest) all = omega (arith, sum_by-cons places c rest, all.0.places, places-plain rest all.1)

pub text-plain : (characters : List ℕ) → AllByRecursion IsPlain characters → xml_text characters ≡ characters
text-plain [] all = refl
text-plain (c ∷ rest) all = λ i. all.0.written i ++ text-plain rest all.1 i

pub front-plain : (room : ℕ) (characters : List ℕ) → AllByRecursion IsPlain characters → front room characters ≡ take room characters
front-plain zero [] all = refl
front-plain (suc room) [] all = refl
front-plain zero (c ∷ rest) all = rw all.0.places refl
front-plain (suc room) (c ∷ rest) all =
    let left : suc room - 1 ≡ room = omega arith in
    let fits = le-leb 1 (suc room) (omega arith) in
    rw (all.0.places, fits, left) (ap (λ text. c ∷ text) (front-plain room rest all.1))

pub plain-take : (room : ℕ) (characters : List ℕ) → AllByRecursion IsPlain characters → AllByRecursion IsPlain (take room characters)
plain-take zero characters all = tt
plain-take (suc room) [] all = tt
plain-take (suc room) (c ∷ rest) all = (all.0, plain-take room rest all.1)

pub front-number : (room character : ℕ) → xml_text (front room (number_text character)) ≡ take (min room 8) (number_text character)
front-number room character =
    let number = number_text character in
    ap xml_text (front-plain room number (number-plain character) ∙ clipped (cases_lt room 8)) ∙ text-plain (take (min room 8) number) (plain-take (min room 8) number (number-plain character))
  where
    clipped : ((room < 8) ⊎ (8 ≤ room)) → take room (number_text character) ≡ take (min room 8) (number_text character)
    clipped (inl few) = let same : room ≡ min room 8 = omega arith in ap (λ n. take n (number_text character)) same
    clipped (inr many) = take_all room (number_text character) many ∙ sym (take_all (min room 8) (number_text character) (omega arith))
