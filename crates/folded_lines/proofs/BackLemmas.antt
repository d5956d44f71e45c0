-- Written lines read back as their samples.
use Rattle.std.proofs.Common.{◌≡◌, ◌≢◌, ℕ, suc, ◌-◌, ◌^◌, ◌<◌, false, not, List, [], ◌∷◌, ◌++◌, length, length-append, map, slice_index, All, refl, ap, ◌∙◌, arith}
use Rattle.std.specs.List.{join_with_byte}
use Rattle.std.specs.Fmt.{decimal}
use Rattle.std.specs.Str.Parse.{digits_value}
use Rattle.std.proofs.lemmas.Bool.{cond-false, le-ltb}
use Rattle.std.proofs.lemmas.List.Elements.{All-head, All-tail, All-weaker}
use Rattle.bstr.proofs.lemmas.EncodeLemmas.{lossy_chars-utf8}
use Rattle.sample_tables.specs.declared.samples.TheConstants.{FRAME_LIMIT}
use Rattle.sample_tables.specs.declared.samples.Sample.{Sample as StackSample}
use Rattle.folded_lines.specs.Line.{Sample}
use Rattle.folded_lines.specs.Lines.{columns, ends_in_number, onto_kept, without_trailing_empty, lossy_text, names_of, read_columns, read_line}
use Rattle.folded_lines.specs.ReadingBack.{EndsPlainly, IsPlainName, IsPlain}
use Rattle.folded_lines.specs.Writing.{column_of}
use Rattle.folded_lines.proofs.ColumnLemmas.{columns-nil, columns-at, columns-none, ends_in_number-after}
use Rattle.folded_lines.proofs.OnePassLemmas.{HasNoSemicolon, slice_split-join_clean}
use Rattle.folded_lines.proofs.DecimalLemmas.{IsWritten-decimal, digits_have_no_blank, digits_have_no_point, digits_are_number}

ends_in_number-join : (stack : List (List ℕ)) → EndsPlainly stack → ends_in_number (columns (join_with_byte 59 stack)) ≡ false
ends_in_number-join [] plain = ap ends_in_number columns-nil
ends_in_number-join (x ∷ []) plain = plain.1
ends_in_number-join (x ∷ y ∷ xs) plain = ends_in_number-after x (join_with_byte 59 (y ∷ xs)) ∙ ends_in_number-join (y ∷ xs) plain

names_are_clean : (stack : List (List ℕ)) → All IsPlainName stack → All HasNoSemicolon stack
names_are_clean = All-weaker IsPlainName HasNoSemicolon (λ name plain. All-weaker (λ b. (b ≢ 59) × (b ≢ 10)) (λ b. b ≢ 59) (λ b apart. apart.0) name plain.whole)

last_kept : (x : List ℕ) → x ≢ [] → onto_kept x [] ≡ x ∷ []
last_kept [] some = absurd (some refl)
last_kept (b ∷ bs) some = refl

inner_kept : (x y : List ℕ) (ys : List (List ℕ)) → onto_kept x (y ∷ ys) ≡ x ∷ y ∷ ys
inner_kept [] y ys = refl
inner_kept (b ∷ bs) y ys = refl

pub all_kept : (x : List ℕ) (xs : List (List ℕ)) → EndsPlainly (x ∷ xs) → without_trailing_empty (x ∷ xs) ≡ x ∷ xs
all_kept x [] plain = last_kept x plain.0
all_kept x (y ∷ ys) plain = ap (onto_kept x) (all_kept y ys plain) ∙ inner_kept x y ys

lossy_text-plain : (xs : List (List ℕ)) → All IsPlainName xs → map lossy_text xs ≡ xs
lossy_text-plain [] plain = refl
lossy_text-plain (x ∷ xs) plain =
    ap (λ t. t ∷ map lossy_text xs) (lossy_chars-utf8 x (All-head IsPlainName x xs plain).text)
    ∙ ap (λ t. x ∷ t) (lossy_text-plain xs (All-tail IsPlainName x xs plain))

-- the joined names are cut into the names
names_of-join : (stack : List (List ℕ)) → All IsPlainName stack → EndsPlainly stack → names_of (join_with_byte 59 stack) ≡ stack
names_of-join [] names plain = refl
names_of-join (x ∷ xs) names plain =
    ap (map lossy_text) (ap without_trailing_empty (slice_split-join_clean (x ∷ xs) (omega arith) (names_are_clean (x ∷ xs) names)) ∙ all_kept x xs plain) ∙ lossy_text-plain (x ∷ xs) names

-- a line without its LF
abbrev pub body : StackSample → List ℕ
body sample = join_with_byte 59 sample.stack ++ column_of sample.weight

pub read_line-body : (sample : StackSample) → IsPlain sample → sample.weight < 2 ^ 64 → read_line (body sample) ≡ Sample sample
read_line-body sample plain fits =
    let head = join_with_byte 59 sample.stack in
    let count = decimal sample.weight in
    let written = IsWritten-decimal sample.weight fits in
    let names = names_of-join sample.stack plain.names plain.last in
    ap read_columns (columns-at head count 32 (columns-none count (digits_have_no_blank count written.digits)) refl)
    ∙ cond-false _ _ _ (ap not (digits_are_number count written.digits written.some))
    ∙ cond-false _ _ _ (digits_have_no_point count written.digits)
    ∙ cond-false _ _ _ (ends_in_number-join sample.stack plain.last)
    ∙ cond-false _ _ _ (le-ltb FRAME_LIMIT (length (names_of head)) (omega (arith, plain.depth, ap length names)))
    ∙ ap (λ t. Sample (record { stack = t; weight = digits_value 10 count })) names
    ∙ ap (λ n. Sample (record { stack = sample.stack; weight = n })) written.value

pub last-append : (xs : List ℕ) (y : ℕ) (ys : List ℕ) → slice_index (xs ++ y ∷ ys) (length (xs ++ y ∷ ys) - 1) ≡ slice_index (y ∷ ys) (length (y ∷ ys) - 1)
last-append [] y ys = refl
last-append (x ∷ xs) y ys =
    let long = length-append xs (y ∷ ys) in
    let place : length (x ∷ (xs ++ y ∷ ys)) - 1 ≡ suc (length (xs ++ y ∷ ys) - 1) = omega arith in
    ap (slice_index (x ∷ (xs ++ y ∷ ys))) place ∙ last-append xs y ys
