-- Rows of parts, and the pieces that they have.
use Rattle.std.proofs.Common.{◌≡◌, ℕ, ◌+◌, ◌<◌, ◌≤◌, List, [], ◌∷◌, ◌++◌, length, map, take, get_or, refl, sym, ap, subst, ◌∙◌, append-nil, arith}
use Rattle.std.proofs.lemmas.List.{length-take, take_more, map_more}
use Rattle.std.proofs.lemmas.List.Elements.{All-head, All-tail, All-take}
use Rattle.std.proofs.lemmas.List.Folds.{concat-append}
use Rattle.std.specs.List.{concat, slice_range, All}
use Rattle.byte_io.proofs.PieceTexts.{range_none, range_on}
use Rattle.byte_io.specs.checked.Parts.{IsPart, IsRow, Follow, bytes_of}
use Rattle.byte_io.specs.declared.piece_threads.Part.{Part}
use Rattle.byte_io.specs.declared.piece_threads.Row.{Row}

-- what a part more adds
pub bytes_more : (parts : List Part) (i : ℕ) (part : Part) → i < length parts → part ≡ get_or parts i part → bytes_of (take (i + 1) parts) ≡ bytes_of (take i parts) ++ part.bytes.items
bytes_more parts i part lt is =
    ap concat (map_more (λ (p : Part). p.bytes.items) parts i part lt)
    ∙ concat-append (map (λ (p : Part). p.bytes.items) (take i parts)) ((get_or parts i part).bytes.items ∷ [])
    ∙ ap (λ text. bytes_of (take i parts) ++ text) (append-nil (get_or parts i part).bytes.items)
    ∙ ap (λ (p : Part). bytes_of (take i parts) ++ p.bytes.items) (sym is)

follow_behind : (parts : List Part) (from next : ℕ) (part : Part) → Follow from parts next → part.from ≡ next → Follow from (parts ++ part ∷ []) part.next
follow_behind [] from next part follow begins = (begins ∙ sym follow, refl)
follow_behind (first ∷ parts) from next part follow begins = (follow.0, follow_behind parts first.next next part follow.1 begins)

-- a part that begins where a row ends makes the row longer
pub follow_more : (parts : List Part) (i from next : ℕ) (part : Part) → i < length parts → part ≡ get_or parts i part → Follow from (take i parts) next → part.from ≡ next
    → Follow from (take (i + 1) parts) part.next
follow_more parts i from next part lt is follow begins =
    let row : take (i + 1) parts ≡ take i parts ++ part ∷ [] = take_more parts i part lt ∙ ap (λ p. take i parts ++ p ∷ []) (sym is) in
    subst (λ row. Follow from row part.next) (sym row) (follow_behind (take i parts) from next part follow begins)

-- a row has the pieces between its ends
pub row_pieces : (pieces : List (List ℕ)) (parts : List Part) (from next : ℕ) → All (IsPart pieces) parts → Follow from parts next → from ≤ length pieces
    → (bytes_of parts ≡ concat (slice_range pieces from next)) × (from ≤ next) × (next ≤ length pieces)
row_pieces pieces [] from next all follow within =
    subst (λ n. ([] ≡ concat (slice_range pieces from n)) × (from ≤ n) × (n ≤ length pieces)) follow (sym (range_none pieces from), omega arith, within)
row_pieces pieces (part ∷ parts) from next all follow within =
    let this = All-head (IsPart pieces) part parts all in
    let begins : part.from ≡ from = follow.0 in
    let rest = row_pieces pieces parts part.next next (All-tail (IsPart pieces) part parts all) follow.1 (this.within (omega arith)) in
    let bytes : part.bytes.items ++ bytes_of parts ≡ concat (slice_range pieces part.from next) =
    ap (λ text. text ++ bytes_of parts) this.bytes ∙ ap (λ text. concat (slice_range pieces part.from part.next) ++ text) rest.0
    ∙ sym (range_on pieces part.from part.next next this.further rest.1) in
    (bytes ∙ ap (λ n. concat (slice_range pieces n next)) begins, omega (arith, this.further, rest.1), rest.2)

-- a row of a part or more gets further, if there is a piece
pub row_further : (pieces : List (List ℕ)) (parts : List Part) (from next : ℕ) → All (IsPart pieces) parts → Follow from parts next → 0 < length parts → from < length pieces → from < next
row_further pieces [] from next all follow some there = absurd (omega arith)
row_further pieces (part ∷ parts) from next all follow some there =
    let this = All-head (IsPart pieces) part parts all in
    let begins : part.from ≡ from = follow.0 in
    let rest = row_pieces pieces parts part.next next (All-tail (IsPart pieces) part parts all) follow.1 (this.within (omega arith)) in
    let step : part.from < part.next = this.some (omega arith) in
    omega (arith, rest.1)

-- parts in front that follow one another are a row
pub row_is : (pieces : List (List ℕ)) (from : ℕ) (parts : List Part) (row : Row) → length parts ≡ 3 → All (IsPart pieces) parts → row.parts ≤ length parts → Follow from (take row.parts parts) row.next → 0 < row.parts
    → from ≤ length pieces → IsRow pieces from parts row
row_is pieces from parts row long all within follow some there =
    let front = take row.parts parts in
    let made = All-take (IsPart pieces) row.parts parts all in
    let have = row_pieces pieces front from row.next made follow there in
    let one : 0 < length front = omega (arith, length-take row.parts parts) in
    record {
      few = omega arith;
      bytes = have.0;
      within = have.2;
      further = λ left. row_further pieces front from row.next made follow one left;
    }
