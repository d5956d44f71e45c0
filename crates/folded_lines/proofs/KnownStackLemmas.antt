-- Stacks that are known stay known while more is told, and the bytes that their names join to have those names.
use Rattle.std.proofs.Common.{◌≡◌, ℕ, ◌<◌, ◌≤◌, ◌+◌, List, [], ◌∷◌, ◌++◌, length, Option, Some, None, append_assoc, map, take, get_or, All, refl, sym, ap, subst, ◌∙◌, arith}
use Rattle.std.specs.List.{join_with_byte, slice_split, slice_range}
use Rattle.std.proofs.lemmas.List.{take_more, map-append}
use Rattle.std.proofs.lemmas.List.Elements.{All-nil, All-push, All-weaker}
use Rattle.std.proofs.lemmas.List.Splits.{join_with_byte-slice_split}
use Rattle.std.proofs.lemmas.Option.{slice_get-get_or, get_or_from_slice_get}
use Rattle.bstr.proofs.lemmas.EncodeLemmas.{lossy_chars-utf8}
use Rattle.sample_tables.proofs.Spans.{map_agree, slice-append, slice-seam}
use Rattle.sample_tables.specs.Rows.{name_at}
use Rattle.stack_core.specs.Prefixes.{IsPrefixOf}
use Rattle.stack_core.specs.Records.{names_at}
use Rattle.call_tree.proofs.NameNumbers.{numbers-longer, names_at-longer}
use Rattle.folded_lines.specs.Lines.{is_semicolon, lossy_text, names_of, onto_kept, without_trailing_empty}
use Rattle.folded_lines.specs.checked.Cutting.{without_trailing_semicolons}
use Rattle.folded_lines.specs.checked.KnownStacks.{stack_of, stacks_of, AreWithin, IsKnown, AreKnown, IsMet}
use Rattle.folded_lines.specs.checked.Telling.{IsNumbered}
use Rattle.folded_lines.specs.declared.known_stacks.KnownRow.{KnownRow}
use Rattle.folded_lines.proofs.JoinLemmas.{join_with_byte-first, join_with_byte-later}
use Rattle.folded_lines.proofs.LossyLemmas.{lossy_text-nil, IsUtf8-lossy_text}
use Rattle.folded_lines.proofs.NameLemmas.{LastIsSome, names_end_some}
use Rattle.folded_lines.proofs.OnePassLemmas.{slice_split-lossy_text}
use Rattle.folded_lines.proofs.ToldHeads.{IsToldAs-later}
use Rattle.folded_lines.proofs.SplitLemmas.{names_of-nothing, names_of-something}

-- ---- joined names

some_kept : (name : List ℕ) (names : List (List ℕ)) → LastIsSome (name ∷ names) → without_trailing_empty (name ∷ names) ≡ name ∷ names
some_kept [] [] some = absurd (omega arith)
some_kept (b ∷ bs) [] some = refl
some_kept [] (next ∷ names) some = ap (onto_kept []) (some_kept next names some)
some_kept (b ∷ bs) (next ∷ names) some = ap (onto_kept (b ∷ bs)) (some_kept next names some)

all_kept : (names : List (List ℕ)) → LastIsSome names → without_trailing_empty names ≡ names
all_kept [] some = refl
all_kept (name ∷ names) some = some_kept name names some

-- text whose parts are names of a head
parts_of_text : (text : List ℕ) (names : List (List ℕ)) → lossy_text text ≡ text → slice_split is_semicolon text ≡ names → LastIsSome names → names_of text ≡ names
parts_of_text text names is_text parts some =
    ap (λ all. map lossy_text (without_trailing_empty all)) parts ∙ ap (map lossy_text) (all_kept names some) ∙ ap (map lossy_text) (sym parts)
    ∙ sym (slice_split-lossy_text text) ∙ ap (slice_split is_semicolon) is_text ∙ parts

-- the text of a head has its names, which are joined in it
abbrev IsTextOf : List ℕ → List ℕ → Type 0
IsTextOf head text = (names_of text ≡ names_of head) × (join_with_byte 59 (names_of head) ≡ text)

text_is : (head left : List ℕ) → left ≡ without_trailing_semicolons head → IsTextOf head (lossy_text left)
text_is head [] is =
    let none = names_of-nothing head [] is refl in
    (ap names_of lossy_text-nil ∙ sym none, ap (join_with_byte 59) none ∙ sym lossy_text-nil)
text_is head (b ∷ bytes) is =
    let text = lossy_text (b ∷ bytes) in
    let parts : slice_split is_semicolon text ≡ names_of head = slice_split-lossy_text (b ∷ bytes) ∙ sym (names_of-something head (b ∷ bytes) is (omega arith)) in (
      parts_of_text text (names_of head) (lossy_chars-utf8 text (IsUtf8-lossy_text (b ∷ bytes))) parts (names_end_some head),
      ap (join_with_byte 59) (sym parts) ∙ join_with_byte-slice_split 59 text,
    )

pub names_of-text : (head : List ℕ) → names_of (lossy_text (without_trailing_semicolons head)) ≡ names_of head
names_of-text head = (text_is head (without_trailing_semicolons head) refl).0

-- the names of a head read back where they are joined
pub names_of-joined : (head : List ℕ) → names_of (join_with_byte 59 (names_of head)) ≡ names_of head
names_of-joined head =
    let text = text_is head (without_trailing_semicolons head) refl in
    ap names_of text.1 ∙ text.0

-- ---- stacks that are known

pub AreKnown-nothing : (names : List (List ℕ)) → AreKnown names []
AreKnown-nothing names = All-nil (IsKnown names)

IsKnown-longer : (names longer : List (List ℕ)) → IsPrefixOf names longer → (frames : List ℕ) → IsKnown names frames → IsKnown longer frames
IsKnown-longer names longer prefix frames known =
    let same = names_at-longer names longer frames prefix known.numbers in
    record {
      numbers = numbers-longer names longer frames prefix known.numbers;
      reads_back = subst (λ (stack : List (List ℕ)). names_of (join_with_byte 59 stack) ≡ stack) (sym same) known.reads_back;
    }

-- more names are told
pub AreKnown-longer : (names longer stacks : List (List ℕ)) → IsPrefixOf names longer → AreKnown names stacks → AreKnown longer stacks
AreKnown-longer names longer stacks prefix = All-weaker (IsKnown names) (IsKnown longer) (IsKnown-longer names longer prefix) stacks

-- the stack of a head, by the numbers of its names
pub IsKnown-named : (names : List (List ℕ)) (frames head : List ℕ) → All (λ k. k < length names) frames → names_at names frames ≡ names_of head → IsKnown names frames
IsKnown-named names frames head numbers named =
    record {
      numbers = numbers;
      reads_back = subst (λ (stack : List (List ℕ)). names_of (join_with_byte 59 stack) ≡ stack) (sym named) (names_of-joined head);
    }

-- the stack of a head is told
pub AreKnown-told : (names names' stacks : List (List ℕ)) (frames head : List ℕ) → IsNumbered (names_of head) names names' frames → AreKnown names' stacks
    → AreKnown names' (stacks ++ frames ∷ [])
AreKnown-told names names' stacks frames head numbered known =
    All-push (IsKnown names') stacks frames known (IsKnown-named names' frames head numbered.numbers numbered.named)

-- ---- a head that is kept

pub IsMet-later : (names names' stacks stacks' more : List (List ℕ)) (head : List ℕ) (row : Option ℕ) → IsPrefixOf names names' → stacks' ≡ stacks ++ more
    → IsMet names stacks head row → IsMet names' stacks' head row
IsMet-later names names' stacks stacks' more head None prefix same met = tt
IsMet-later names names' stacks stacks' more head (Some row) prefix same met =
    IsToldAs-later (record { names = names; stacks = stacks }) (record { names = names'; stacks = stacks' }) head row more prefix same met

-- ---- a head, compared name by name

same_number : (numbers : List ℕ) (i : ℕ) → i < length numbers → get_or numbers i 0 ≡ get_or numbers i (get_or numbers i 0)
same_number numbers i within = sym (get_or_from_slice_get numbers i (get_or numbers i 0) (get_or numbers i 0) (slice_get-get_or numbers i 0 within))

-- one number more
pub numbers-more : (names : List (List ℕ)) (numbers : List ℕ) (i : ℕ) → i < length numbers → All (λ k. k < length names) (take i numbers)
    → get_or numbers i 0 < length names → All (λ k. k < length names) (take (i + 1) numbers)
numbers-more names numbers i within all here =
    subst (All (λ k. k < length names)) (sym (take_more numbers i 0 within)) (All-push (λ k. k < length names) (take i numbers) (get_or numbers i 0) all here)

-- the first name
pub spelled-first : (names : List (List ℕ)) (numbers head rest behind : List ℕ) (i : ℕ) → i ≤ 0 → i < length numbers
    → head ≡ join_with_byte 59 (names_at names (take i numbers)) ++ rest → rest ≡ name_at names (get_or numbers i 0) ++ behind
    → head ≡ join_with_byte 59 (names_at names (take (i + 1) numbers)) ++ behind
spelled-first names numbers head rest behind i first within was here =
    let front = join_with_byte 59 (names_at names (take i numbers)) in
    let name = name_at names (get_or numbers i 0) in
    was ∙ ap (λ t. front ++ t) here ∙ sym (append_assoc front name behind)
    ∙ ap (λ t. t ++ behind) (sym (join_with_byte-first (name_at names) 59 numbers i (get_or numbers i 0) first within (same_number numbers i within)))

-- a later name, after a ';'
pub spelled-later : (names : List (List ℕ)) (numbers head rest between behind : List ℕ) (i : ℕ) → 0 < i → i < length numbers
    → head ≡ join_with_byte 59 (names_at names (take i numbers)) ++ rest → rest ≡ 59 ∷ between → between ≡ name_at names (get_or numbers i 0) ++ behind
    → head ≡ join_with_byte 59 (names_at names (take (i + 1) numbers)) ++ behind
spelled-later names numbers head rest between behind i some within was cut here =
    let front = join_with_byte 59 (names_at names (take i numbers)) in
    let name = name_at names (get_or numbers i 0) in
    was ∙ ap (λ t. front ++ t) (cut ∙ ap (λ t. 59 ∷ t) here) ∙ sym (append_assoc front (59 ∷ []) (name ++ behind)) ∙ sym (append_assoc (front ++ 59 ∷ []) name behind)
    ∙ ap (λ t. t ++ behind) (sym (join_with_byte-later (name_at names) 59 numbers i (get_or numbers i 0) some within (same_number numbers i within)))

-- ---- the numbers of all stacks, one behind another

-- numbers that come after leave the stacks as they are
pub stacks_of-append : (numbers more : List ℕ) (rows : List KnownRow) → AreWithin numbers rows → stacks_of (numbers ++ more) rows ≡ stacks_of numbers rows
stacks_of-append numbers more rows within =
    map_agree (stack_of (numbers ++ more)) (stack_of numbers) rows
    (All-weaker (λ (row : KnownRow). row.start + row.len ≤ length numbers) (λ (row : KnownRow). stack_of (numbers ++ more) row ≡ stack_of numbers row)
    (λ row fits. slice-append numbers more row.start (row.start + row.len) (omega arith) fits) rows within)

-- a row comes last
pub stacks_of-push : (numbers frames : List ℕ) (rows : List KnownRow) (row : KnownRow) → AreWithin numbers rows → row.start ≡ length numbers → row.len ≡ length frames
    → stacks_of (numbers ++ frames) (rows ++ row ∷ []) ≡ stacks_of numbers rows ++ frames ∷ []
stacks_of-push numbers frames rows row within start len =
    let end : row.start + row.len ≡ length numbers + length frames = omega arith in
    let last : stack_of (numbers ++ frames) row ≡ frames =
    ap (λ from. slice_range (numbers ++ frames) from (row.start + row.len)) start ∙ slice-seam numbers frames (row.start + row.len) end in
    map-append (stack_of (numbers ++ frames)) rows (row ∷ []) ∙ (λ i. stacks_of-append numbers frames rows within i ++ last i ∷ [])
