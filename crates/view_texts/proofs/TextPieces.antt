-- The pieces of the texts one after another, and each by itself.
use Rattle.std.proofs.Common.{◌≡◌, ℕ, zero, suc, ◌+◌, ◌-◌, ◌<◌, ◌≤◌, List, [], ◌∷◌, ◌++◌, Bool, true, false, ltb, length, get_or, take, drop, map, refl, sym, ap, ◌∙◌, arith, append_assoc, append-nil}
use Rattle.std.proofs.lemmas.List.{get_or-map, length-map, get_or_append_left, get_or-append_right, length-append, take-append-le, drop-append-le, length-drop}
use Rattle.std.proofs.lemmas.List.Folds.{concat-append}
use Rattle.std.proofs.lemmas.Bool.{lt-ltb}
use Rattle.std.specs.List.{concat, slice_range}
use Rattle.sample_tables.specs.declared.samples.Sample.{Sample}
use Rattle.sample_tables.specs.Rows.{name_at, sample_at}
use Rattle.serde_json.specs.Data.{Data}
use Rattle.serde_json.specs.Written.{comma_if, compact_text}
use Rattle.folded_lines.specs.Writing.{column_of, line_of, pair_line_of}
use Rattle.merged_stacks.specs.Merged.{weighed}
use Rattle.merged_stacks.specs.Paired.{PairedStack, pair_at}
use Rattle.merged_stacks.specs.RankedStacks.{Ranking, sample_of, ranked_samples, ranks_at}
use Rattle.view_texts.specs.Fold.{lines_of}
use Rattle.view_texts.specs.Pieces.{stack_lines, pair_lines, value_pieces, line_pieces}
use Rattle.view_texts.proofs.JsonLists.{values_text}

-- ---- merged stacks

pub stack_lines-text : (stacks : List Sample) → concat (stack_lines stacks) ≡ lines_of (weighed stacks)
stack_lines-text [] = refl
stack_lines-text (s ∷ stacks) = ap (λ text. line_of s.stack s.weight ++ text) (stack_lines-text stacks)

abbrev pub line_at : Sample → List ℕ
line_at sample = line_of sample.stack sample.weight

pub stack_line-at : (stacks : List Sample) (at : ℕ) → at < length stacks → get_or (stack_lines stacks) at [] ≡ line_of (sample_at stacks at).stack (sample_at stacks at).weight
stack_line-at stacks at within = get_or-map line_at stacks at (record { stack = []; weight = 0 }) [] within

-- the line of a stack by the ranks of its names
pub ranked_line-at : (ranking : Ranking) (at : ℕ) → at < length (ranked_samples ranking)
    → get_or (stack_lines (ranked_samples ranking)) at []
    ≡ line_of (map (name_at ranking.names) (ranks_at ranking at)) (sample_at (ranked_samples ranking) at).weight
ranked_line-at ranking at within =
    let sample = sample_of ranking.names in
    let samples = ranked_samples ranking in
    let there : at < length ranking.rows = omega (arith, within, length-map ranking.rows sample) in
    stack_line-at samples at within
    ∙ ap (λ (s : Sample). line_of s.stack (sample_at samples at).weight)
    (get_or-map sample ranking.rows at ([], 0) (record { stack = []; weight = 0 }) there)

-- a line behind others
pub line_appended : (shown names : List ℕ) (weight own : ℕ) (start so_far out new : List ℕ)
    → shown ≡ names → weight ≡ own → out ≡ start ++ so_far
    → new ≡ out ++ (shown ++ (column_of weight ++ 10 ∷ [])) → new ≡ start ++ (so_far ++ (names ++ (column_of own ++ 10 ∷ [])))
line_appended shown names weight own start so_far out new same weighs is more =
    more ∙ (λ i. is i ++ (same i ++ (column_of (weighs i) ++ 10 ∷ []))) ∙ append_assoc start so_far (names ++ (column_of own ++ 10 ∷ []))

-- ---- stacks of two lists

abbrev pub pair_line_at : PairedStack → List ℕ
pair_line_at pair = pair_line_of pair.stack pair.before pair.after

pub pair_line-at : (stacks : List PairedStack) (at : ℕ) → at < length stacks → get_or (pair_lines stacks) at [] ≡ pair_line_at (pair_at stacks at)
pair_line-at stacks at within = get_or-map pair_line_at stacks at (record { stack = []; before = 0; after = 0 }) [] within

-- ---- a line of JSON

pub length-value_pieces : (later : Bool) (values : List Data) → length (value_pieces later values) ≡ length values
length-value_pieces later [] = refl
length-value_pieces later (value ∷ values) = ap suc (length-value_pieces true values)

value_pieces-text : (later : Bool) (values : List Data) → concat (value_pieces later values) ≡ values_text later values
value_pieces-text later [] = refl
value_pieces-text later (value ∷ values) =
    append_assoc (comma_if later) (compact_text value) (concat (value_pieces true values)) ∙ ap (λ text. comma_if later ++ (compact_text value ++ text)) (value_pieces-text true values)

later_piece : (values : List Data) (at : ℕ) (d : Data) → at < length values → get_or (value_pieces true values) at [] ≡ comma_if true ++ compact_text (get_or values at d)
later_piece [] at d within = absurd (omega arith)
later_piece (value ∷ values) zero d within = refl
later_piece (value ∷ values) (suc at) d within = later_piece values at d (omega arith)

-- the piece of a value among those of the values alone
pub value_piece : (values : List Data) (at : ℕ) (d : Data) → at < length values → get_or (value_pieces false values) at [] ≡ comma_if (ltb 0 at) ++ compact_text (get_or values at d)
value_piece [] at d within = absurd (omega arith)
value_piece (value ∷ values) zero d within = refl
value_piece (value ∷ values) (suc at) d within = later_piece values at d (omega arith) ∙ ap (λ later. comma_if later ++ compact_text (get_or values at d)) (sym (lt-ltb 0 (suc at) (omega arith)))

pub line_pieces-text : (head tail : List ℕ) (values : List Data) → concat (line_pieces head values tail) ≡ head ++ (values_text false values ++ tail)
line_pieces-text head tail values =
    ap (λ text. head ++ text) (concat-append (value_pieces false values) (tail ∷ []) ∙ ((λ i. value_pieces-text false values i ++ append-nil tail i)))

pub length-line_pieces : (head tail : List ℕ) (values : List Data) → length (line_pieces head values tail) ≡ length values + 2
length-line_pieces head tail values = omega (arith, length-append (value_pieces false values) (tail ∷ []), length-value_pieces false values)

-- the same in a line
pub piece_in_line : (head tail : List ℕ) (values : List Data) (at place : ℕ) → at ≡ place + 1 → place < length values → get_or (line_pieces head values tail) at [] ≡ get_or (value_pieces false values) place []
piece_in_line head tail values at place is within =
    let suc_is : at ≡ suc place = omega (arith, is) in
    ap (λ n. get_or (line_pieces head values tail) n []) suc_is ∙ get_or_append_left (value_pieces false values) (tail ∷ []) [] place (omega (arith, length-value_pieces false values))

-- the piece of a box there
pub box_piece : {B : Type 0} (object : B → Data) (boxes : List B) (head tail : List ℕ) (at place : ℕ) (item : B) → at ≡ place + 1 → place < length boxes
    → get_or (line_pieces head (map object boxes) tail) at [] ≡ comma_if (ltb 0 place) ++ compact_text (object (get_or boxes place item))
box_piece object boxes head tail at place item is within =
    let values = map object boxes in
    let there : place < length values = omega (arith, length-map boxes object) in
    piece_in_line head tail values at place is there ∙ value_piece values place (object item) there
    ∙ ap (λ value. comma_if (ltb 0 place) ++ compact_text value) (get_or-map object boxes place item (object item) within)

-- the pieces of some boxes
pub items_pieces : (head tail : List ℕ) (values : List Data) (at place end next : ℕ) → at ≡ place + 1 → next ≡ end + 1 → place ≤ end → end ≤ length values
    → slice_range (line_pieces head values tail) at next ≡ slice_range (value_pieces false values) place end
items_pieces head tail values at place end next is then first last =
    let pieces = value_pieces false values in
    let long : length pieces ≡ length values = length-value_pieces false values in
    let count : next - at ≡ end - place = omega (arith, is, then) in
    let suc_is : at ≡ suc place = omega (arith, is) in
    (λ i. take (count i) (drop (suc_is i) (line_pieces head values tail)))
    ∙ ap (take (end - place)) (drop-append-le place pieces (tail ∷ []) (omega (arith, long)))
    ∙ take-append-le (end - place) (drop place pieces) (tail ∷ []) (omega (arith, long, length-drop place pieces))

-- the last piece
pub tail_piece : (values : List Data) (head tail : List ℕ) (at : ℕ) → at ≡ length values + 1 → get_or (line_pieces head values tail) at [] ≡ tail
tail_piece values head tail zero is = absurd (omega arith)
tail_piece values head tail (suc k) is =
    let count = length-value_pieces false values in
    get_or-append_right (value_pieces false values) (tail ∷ []) k k [] (omega (arith, count)) (omega arith) ∙ ap (λ n. get_or (tail ∷ []) n []) (by k)
  where
    by : (n : ℕ) → n - n ≡ 0
    by n = omega arith
