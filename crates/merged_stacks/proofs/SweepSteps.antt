-- One step of the sweep over two lists.
use Rattle.std.proofs.Common.{◌≡◌, ◌∙◌, ℕ, ◌+◌, ◌<◌, ◌≤◌, List, [], ◌∷◌, ◌++◌, length, map, drop, ap, sym, append_assoc, append-nil}
use Rattle.std.specs.Ordering.{nat_cmp, match_ordering}
use Rattle.std.specs.Cmp.Lexicographic.{slice_cmp}
use Rattle.std.specs.declared.cmp.Ordering.{Ordering}
use Rattle.std.proofs.lemmas.List.{drop_more, drop_all, map_push}
use Rattle.merged_stacks.specs.declared.sweeps.Place.{Place}
use Rattle.merged_stacks.specs.checked.Ranked.{Ranked}
use Rattle.merged_stacks.specs.checked.Swept.{PairedRow, row_of_after, swept, before_row, place_row}

-- where the first list has ended
pub swept_after : (lefts rights : List Ranked) (before after : ℕ) → length lefts ≤ before → after < length rights → swept (drop before lefts) (drop after rights) ≡ row_of_after (before_row rights after) ∷ swept (drop before lefts) (drop (after + 1) rights)
swept_after lefts rights before after past lt =
    ap (λ rows. swept rows (drop after rights)) (drop_all before lefts past) ∙ ap (map row_of_after) (drop_more rights after ([], 0) lt)
    ∙ ap (λ rows. row_of_after (before_row rights after) ∷ swept rows (drop (after + 1) rights)) (sym (drop_all before lefts past))

-- where the second has ended
pub swept_before : (lefts rights : List Ranked) (before after : ℕ) → before < length lefts → length rights ≤ after
    → swept (drop before lefts) (drop after rights) ≡ ((before_row lefts before).0, (before_row lefts before).1, 0) ∷ swept (drop (before + 1) lefts) (drop after rights)
swept_before lefts rights before after lt past =
    (λ i. swept (drop_more lefts before ([], 0) lt i) (drop_all after rights past i))
    ∙ ap (λ rows. ((before_row lefts before).0, (before_row lefts before).1, 0) ∷ swept (drop (before + 1) lefts) rows) (sym (drop_all after rights past))

-- where both go on, by how their rows compare
pub swept_met : (lefts rights : List Ranked) (before after : ℕ) (ordering : Ordering) → before < length lefts → after < length rights → slice_cmp nat_cmp (before_row lefts before).0 (before_row rights after).0 ≡ ordering
    → swept (drop before lefts) (drop after rights) ≡ match_ordering ordering (((before_row lefts before).0, (before_row lefts before).1, 0) ∷ swept (drop (before + 1) lefts) (drop after rights))
    (((before_row lefts before).0, (before_row lefts before).1, (before_row rights after).1) ∷ swept (drop (before + 1) lefts) (drop (after + 1) rights)) (row_of_after (before_row rights after) ∷ swept (drop before lefts) (drop (after + 1) rights))
swept_met lefts rights before after ordering lt below compared =
    let left = before_row lefts before in
    let right = before_row rights after in
    let lefts_on = drop_more lefts before ([], 0) lt in
    let rights_on = drop_more rights after ([], 0) below in
    (λ i. swept (lefts_on i) (rights_on i))
    ∙ (λ i. match_ordering (compared i) ((left.0, left.1, 0) ∷ swept (drop (before + 1) lefts) (sym rights_on i)) ((left.0, left.1, right.1) ∷ swept (drop (before + 1) lefts) (drop (after + 1) rights))
    (row_of_after right ∷ swept (sym lefts_on i) (drop (after + 1) rights)))

-- a place more leaves the rows of the whole sweep as they are
pub swept_more : (lefts rights : List Ranked) (old new : List Place) (place : Place) (before after next other : ℕ) → new ≡ old ++ place ∷ []
    → swept (drop before lefts) (drop after rights) ≡ place_row lefts rights place ∷ swept (drop next lefts) (drop other rights)
    → map (place_row lefts rights) old ++ swept (drop before lefts) (drop after rights) ≡ swept lefts rights → map (place_row lefts rights) new ++ swept (drop next lefts) (drop other rights) ≡ swept lefts rights
swept_more lefts rights old new place before after next other pushed step is =
    let row = place_row lefts rights in
    let rest = swept (drop next lefts) (drop other rights) in
    ap (λ places. map row places ++ rest) pushed ∙ ap (λ rows. rows ++ rest) (map_push row old place) ∙ append_assoc (map row old) (row place ∷ []) rest ∙ ap (λ rows. map row old ++ rows) (sym step) ∙ is

pub swept_all : (lefts rights : List Ranked) (before after : ℕ) (rows : List PairedRow) → length lefts ≤ before → length rights ≤ after → rows ++ swept (drop before lefts) (drop after rights) ≡ swept lefts rights → rows ≡ swept lefts rights
swept_all lefts rights before after rows past over is =
    sym (append-nil rows) ∙ (λ i. rows ++ swept (sym (drop_all before lefts past) i) (sym (drop_all after rights over) i)) ∙ is
