-- The longest front of some characters that has room.
use Rattle.std.proofs.Common.{◌≡◌, ℕ, ◌+◌, ◌-◌, ◌<◌, ◌≤◌, ◌⊎◌, inl, inr, List, [], ◌∷◌, ◌++◌, cond, ap, sym, ◌∙◌, zero-add, append-nil, arith}
use Rattle.std.proofs.lemmas.Bool.{cases_lt, le-leb, lt-leb}
use Rattle.std.proofs.lemmas.List.Sums.{sum_by-cons}
use Rattle.svg_texts.specs.Labels.{places, places_of, front}

front-fits : (room c : ℕ) (rest : List ℕ) → places c ≤ room → front room (c ∷ rest) ≡ c ∷ front (room - places c) rest
front-fits room c rest le = ap (λ fits. cond fits (c ∷ front (room - places c) rest) []) (le-leb (places c) room le)

front-full : (room c : ℕ) (rest : List ℕ) → room < places c → front room (c ∷ rest) ≡ []
front-full room c rest lt = ap (λ fits. cond fits (c ∷ front (room - places c) rest) []) (lt-leb (places c) room lt)

-- behind characters that have room
pub front-append : (xs ys : List ℕ) (total room : ℕ) → total ≡ places_of xs + room → front total (xs ++ ys) ≡ xs ++ front room ys
front-append [] ys total room is = ap (λ n. front n ys) (is ∙ zero-add room)
front-append (c ∷ xs) ys total room is =
    let sum = sum_by-cons places c xs in
    front-fits total c (xs ++ ys) (omega (arith, sum, is)) ∙ ap (λ rest. c ∷ rest) (front-append xs ys (total - places c) room (omega (arith, sum, is)))

-- all have room
pub front-whole : (xs : List ℕ) (room : ℕ) → places_of xs ≤ room → front room xs ≡ xs
front-whole xs room le = ap (front room) (sym (append-nil xs)) ∙ (front-append xs [] room (room - places_of xs) (omega arith) ∙ append-nil xs)

-- not all have room
pub front-over : (xs ys : List ℕ) (room : ℕ) → room < places_of xs → front room (xs ++ ys) ≡ front room xs
front-over [] ys room lt = absurd (omega arith)
front-over (c ∷ xs) ys room lt = by (cases_lt room (places c)) (λ le. front-over xs ys (room - places c) (omega (arith, sum_by-cons places c xs)))
  where
    by : ((room < places c) ⊎ (places c ≤ room)) → (places c ≤ room → front (room - places c) (xs ++ ys) ≡ front (room - places c) xs) → front room (c ∷ (xs ++ ys)) ≡ front room (c ∷ xs)
    by (inl full) later = front-full room c (xs ++ ys) full ∙ sym (front-full room c xs full)
    by (inr le) later = front-fits room c (xs ++ ys) le ∙ (ap (λ rest. c ∷ rest) (later le) ∙ sym (front-fits room c xs le))
