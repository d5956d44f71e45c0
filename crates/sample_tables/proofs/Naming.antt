use Rattle.std.proofs.Common.{◌≡◌, ◌<◌, ◌+◌, ℕ, List, [], ◌∷◌, ◌++◌, length, map, All, refl, ap, ◌∙◌, arith, length-append, append_assoc, add-zero}
use Rattle.std.specs.List.{range_with_len}
use Rattle.std.proofs.lemmas.List.{get_or_append_left, get_or-append-add, map_push, length-map}
use Rattle.std.proofs.lemmas.List.Elements.{All-weaker, All-map}
use Rattle.sample_tables.specs.declared.samples.Sample.{Sample}
use Rattle.sample_tables.specs.Samples.{IsLimited}
use Rattle.sample_tables.specs.Rows.{Row, IsRow, name_at, named, fresh_row}
use Rattle.sample_tables.proofs.Spans.{map_agree}

-- a name keeps its number
name_at-append : (names more : List (List ℕ)) (k : ℕ) → k < length names → name_at (names ++ more) k ≡ name_at names k
name_at-append names more k l = get_or_append_left names more [] k l

named-append : (names more : List (List ℕ)) (row : Row) → IsRow names row → named (names ++ more) row ≡ named names row
named-append names more row h =
    cc (map_agree (name_at (names ++ more)) (name_at names) row.frames (All-weaker (λ k. k < length names) (λ k. name_at (names ++ more) k ≡ name_at names k) (name_at-append names more) row.frames h.numbers))

-- names that come after change no sample
pub samples-append : (names more : List (List ℕ)) (rows : List Row) → All (IsRow names) rows → map (named (names ++ more)) rows ≡ map (named names) rows
samples-append names more rows h =
    map_agree (named (names ++ more)) (named names) rows (All-weaker (IsRow names) (λ row. named (names ++ more) row ≡ named names row) (named-append names more) rows h)

-- the numbers of names that come one after another give these names
names-fresh : (names stack : List (List ℕ)) → map (name_at (names ++ stack)) (range_with_len (length names) (length stack)) ≡ stack
names-fresh names [] = refl
names-fresh names (name ∷ stack) =
    let e : (names ++ name ∷ []) ++ stack ≡ names ++ name ∷ stack = append_assoc names (name ∷ []) stack in
    let n : length (names ++ name ∷ []) ≡ length names + 1 = omega (arith, length-append names (name ∷ [])) in
    let more = rw (e, n) at (names-fresh (names ++ name ∷ []) stack) in
    let first : name_at (names ++ name ∷ stack) (length names) ≡ name = rw (← add-zero (length names)) (get_or-append-add names (name ∷ stack) 0 []) in
    cc (first, more)

fresh-named : (names : List (List ℕ)) (sample : Sample) → named (names ++ sample.stack) (fresh_row names sample) ≡ sample
fresh-named names sample =
    let with_names : List (List ℕ) → Sample = λ names. record { stack = names; weight = sample.weight } in
    ap with_names (names-fresh names sample.stack)

pub samples-fresh : (names : List (List ℕ)) (rows : List Row) (sample : Sample) → All (IsRow names) rows → map (named (names ++ sample.stack)) (rows ++ fresh_row names sample ∷ []) ≡ map (named names) rows ++ sample ∷ []
samples-fresh names rows sample h =
    map_push (named (names ++ sample.stack)) rows (fresh_row names sample) ∙ cc (samples-append names sample.stack rows h, fresh-named names sample)

-- the samples of rows are within the limits
pub samples-limited : (names : List (List ℕ)) (rows : List Row) → All (IsRow names) rows → All IsLimited (map (named names) rows)
samples-limited names rows h =
    let limited : (row : Row) → IsRow names row → IsLimited (named names row) = λ row r. record { depth = rw length-map r.depth; weight = r.weight } in
    All-map IsLimited (named names) rows (All-weaker (IsRow names) (λ row. IsLimited (named names row)) limited rows h)
