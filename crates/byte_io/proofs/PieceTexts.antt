-- Texts of pieces, piece by piece, and their fronts.
use Rattle.std.proofs.Common.{◌≡◌, ◌≢◌, ℕ, ◌+◌, ◌-◌, ◌<◌, ◌≤◌, List, [], ◌∷◌, ◌++◌, length, take, drop, get_or, sym, ap, subst, ◌∙◌, append_assoc, append-nil, take-append-drop, arith}
use Rattle.std.proofs.Math.Seq.{take-append_seam, drop-append_seam, take-add}
use Rattle.std.proofs.KnownBytes.{Appends-trans}
use Rattle.std.proofs.lemmas.List.{take_more, take_all, take-take, take-append-le, drop_more, drop-append-le, drop-drop, get_or-drop, length-append, length-drop}
use Rattle.std.proofs.lemmas.List.Folds.{concat-append}
use Rattle.std.specs.Prelude.{Option, Result, Ok, Err, OnErr, IfOk}
use Rattle.std.specs.List.{concat, slice_range}
use Rattle.std.specs.Io.{StartsWith}
use Rattle.std.specs.Io.KnownBytes.{Appends}
use Rattle.byte_io.specs.Pieces.{AppendsFront}

-- what holds, holds at an `Err`
pub on_err : {T E P : Type 0} (result : Result T E) → P → OnErr result P
on_err (Ok value) holds = tt
on_err (Err error) holds = holds

-- an `Ok` is no `Err`
pub ok_no_err : {T E : Type 0} (result : Result T E) (value : T) (error : E) → result ≡ Ok value → result ≢ Err error
ok_no_err result value error ok err = cc

-- one piece more
pub pieces_more : (pieces : List (List ℕ)) (i : ℕ) → i < length pieces → concat (take (i + 1) pieces) ≡ concat (take i pieces) ++ get_or pieces i []
pieces_more pieces i lt =
    ap concat (take_more pieces i [] lt) ∙ concat-append (take i pieces) (get_or pieces i [] ∷ [])
    ∙ ap (λ piece. concat (take i pieces) ++ piece) (append-nil (get_or pieces i []))

-- the first pieces are a front of the text
pub whole_of : (pieces : List (List ℕ)) (i : ℕ) → concat pieces ≡ concat (take i pieces) ++ concat (drop i pieces)
whole_of pieces i = ap concat (sym (take-append-drop i pieces)) ∙ concat-append (take i pieces) (drop i pieces)

-- what was sent, and a part of what waited, which was all that the pieces so far have
pub sent_front : (pieces : List (List ℕ)) (i : ℕ) (sent part rest : List ℕ) (old new : Option (List ℕ)) → concat (take i pieces) ≡ sent ++ (part ++ rest) → Appends old new (sent ++ part)
    → AppendsFront (concat pieces) old new
sent_front pieces i sent part rest old new is gone =
    let after = concat (drop i pieces) in
    let whole : concat pieces ≡ (sent ++ part) ++ (rest ++ after) =
    whole_of pieces i ∙ ap (λ text. text ++ after) (is ∙ sym (append_assoc sent part rest)) ∙ append_assoc (sent ++ part) rest after in
    (length (sent ++ part), subst (Appends old new) (sym (ap (take (length (sent ++ part))) whole ∙ take-append_seam (sent ++ part) (rest ++ after))) gone)

-- the same where no part of what waited went out
pub sent_kept : (pieces : List (List ℕ)) (i : ℕ) (sent waiting : List ℕ) (old new : Option (List ℕ)) → concat (take i pieces) ≡ sent ++ waiting → Appends old new sent → AppendsFront (concat pieces) old new
sent_kept pieces i sent waiting old new is gone = sent_front pieces i sent [] waiting old new is (subst (Appends old new) (sym (append-nil sent)) gone)

-- and where a write took a part of what waited
pub sent_partly : (pieces : List (List ℕ)) (i count : ℕ) (sent waiting : List ℕ) (old mid new : Option (List ℕ)) → concat (take i pieces) ≡ sent ++ waiting → Appends old mid sent → Appends mid new (take count waiting)
    → AppendsFront (concat pieces) old new
sent_partly pieces i count sent waiting old mid new is gone part =
    sent_front pieces i sent (take count waiting) (drop count waiting) old new (is ∙ ap (λ text. sent ++ text) (sym (take-append-drop count waiting))) (Appends-trans old mid new sent (take count waiting) gone part)

-- and where all of a text went out
pub all_front : (text : List ℕ) (old new : Option (List ℕ)) → Appends old new text → AppendsFront text old new
all_front text old new gone = (length text, subst (Appends old new) (sym (take_all (length text) text (omega arith))) gone)

-- some pieces more
pub pieces_on : (pieces : List (List ℕ)) (at next : ℕ) → at ≤ next → concat (take next pieces) ≡ concat (take at pieces) ++ concat (slice_range pieces at next)
pieces_on pieces at next le =
    let sum : next ≡ at + (next - at) = omega arith in
    ap (λ n. concat (take n pieces)) sum ∙ ap concat (take-add at (next - at) pieces) ∙ concat-append (take at pieces) (slice_range pieces at next)

-- some pieces more wait
pub waits_on : (pieces : List (List ℕ)) (at next : ℕ) (sent waiting longer : List ℕ) → at ≤ next → concat (take at pieces) ≡ sent ++ waiting → longer ≡ waiting ++ concat (slice_range pieces at next)
    → concat (take next pieces) ≡ sent ++ longer
waits_on pieces at next sent waiting longer le is more =
    pieces_on pieces at next le ∙ ap (λ text. text ++ concat (slice_range pieces at next)) is ∙ append_assoc sent waiting (concat (slice_range pieces at next)) ∙ ap (λ text. sent ++ text) (sym more)

-- one piece is what stands from its number to the next
pub one_piece : (pieces : List (List ℕ)) (at : ℕ) → at < length pieces → concat (slice_range pieces at (at + 1)) ≡ get_or pieces at []
one_piece pieces at lt =
    let one : at + 1 - at ≡ 1 = omega arith in
    ap (λ n. concat (take n (drop at pieces))) one ∙ ap (λ rest. concat (take 1 rest)) (drop_more pieces at [] lt) ∙ append-nil (get_or pieces at [])

-- what begins with a text and more begins with the text
pub further : (new middle start text : List ℕ) → StartsWith new middle → middle ≡ start ++ text → StartsWith new start
further new middle start text front is =
    let long : length middle ≡ length start + length text = ap length is ∙ length-append start text in
    sym (take-take (length start) (length middle) new (omega arith)) ∙ ap (take (length start)) (front ∙ is) ∙ take-append_seam start text

-- a piece more behind some
pub range_more : (pieces : List (List ℕ)) (from at : ℕ) → from ≤ at → at < length pieces
    → concat (slice_range pieces from (at + 1)) ≡ concat (slice_range pieces from at) ++ get_or pieces at []
range_more pieces from at first within =
    let rest = drop from pieces in
    let count : at + 1 - from ≡ (at - from) + 1 = omega arith in
    let place : from + (at - from) ≡ at = omega arith in
    ap (λ n. concat (take n rest)) count
    ∙ pieces_more rest (at - from) (omega (arith, length-drop from pieces))
    ∙ ap (λ piece. concat (take (at - from) rest) ++ piece) (get_or-drop from pieces (at - from) [] ∙ ap (λ n. get_or pieces n []) place)

-- and none
pub range_none : (pieces : List (List ℕ)) (from : ℕ) → concat (slice_range pieces from from) ≡ []
range_none pieces from =
    let none : from - from ≡ 0 = omega arith in
    ap (λ n. concat (take n (drop from pieces))) none

-- pieces of the first of two texts
pub range_first : (first then : List (List ℕ)) (at next : ℕ) → at ≤ next → next ≤ length first → slice_range (first ++ then) at next ≡ slice_range first at next
range_first first then at next le within =
    ap (take (next - at)) (drop-append-le at first then (omega arith)) ∙ take-append-le (next - at) (drop at first) then (omega (arith, length-drop at first))

-- what was appended of the first of two texts was so of both
pub chain_first : {E : Type 0} (first then : List (List ℕ)) (at : ℕ) (old new : List ℕ) (result : Result ℕ E)
    → IfOk result (λ next. new ≡ old ++ concat (slice_range first at next)) → IfOk result (λ next. at < next) → IfOk result (λ next. next ≤ length first)
    → IfOk result (λ next. new ≡ old ++ concat (slice_range (first ++ then) at next))
chain_first first then at old new (Ok next) ok further within =
    ok ∙ ap (λ pieces. old ++ concat pieces) (sym (range_first first then at next (omega arith) within))
chain_first first then at old new (Err error) ok further within = tt

-- and it ends within both
pub chain_within : {E : Type 0} (first then : List (List ℕ)) (result : Result ℕ E) → IfOk result (λ next. next ≤ length first) → IfOk result (λ next. next ≤ length (first ++ then))
chain_within first then (Ok next) within = omega (arith, length-append first then)
chain_within first then (Err error) within = tt

-- pieces of the second
pub range_then : (first then : List (List ℕ)) (at place next end : ℕ) → at ≡ length first + place → next ≡ length first + end → slice_range (first ++ then) at next ≡ slice_range then place end
range_then first then at place next end is last =
    let count : next - at ≡ end - place = omega arith in
    (λ i. take (count i) (drop (is i) (first ++ then)))
    ∙ ap (take (end - place)) (sym (drop-drop place (length first) (first ++ then)) ∙ ap (drop place) (drop-append_seam first then))

-- some pieces more behind some
pub range_on : (pieces : List (List ℕ)) (from at next : ℕ) → from ≤ at → at ≤ next
    → concat (slice_range pieces from next) ≡ concat (slice_range pieces from at) ++ concat (slice_range pieces at next)
range_on pieces from at next first then =
    let count : next - from - (at - from) ≡ next - at = omega arith in
    let place : from + (at - from) ≡ at = omega arith in
    pieces_on (drop from pieces) (at - from) (next - from) (omega arith)
    ∙ ap (λ rest. concat (slice_range pieces from at) ++ concat rest)
    (ap (take (next - from - (at - from))) (drop-drop (at - from) from pieces ∙ ap (λ n. drop n pieces) place) ∙ ap (λ n. take n (drop at pieces)) count)

-- all that waited was sent, and other pieces wait
pub waits_anew : (pieces : List (List ℕ)) (at next : ℕ) (sent waiting made : List ℕ) → at ≤ next → concat (take at pieces) ≡ sent ++ waiting → made ≡ concat (slice_range pieces at next)
    → concat (take next pieces) ≡ (sent ++ waiting) ++ made
waits_anew pieces at next sent waiting made le is more =
    pieces_on pieces at next le ∙ ap (λ text. text ++ concat (slice_range pieces at next)) is ∙ ap (λ text. (sent ++ waiting) ++ text) (sym more)
