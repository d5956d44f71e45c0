-- Each name of a profile's frames is text without ';' and LF.
use Rattle.std.proofs.Common.{◌≡◌, ◌≢◌, ℕ, zero, suc, ◌+◌, ◌/◌, ◌%◌, ◌<◌, ◌≤◌, ◌^◌, ◌==◌, ◌&&◌, ◌||◌, nat_lt, true, false, Bool, cond, Option, Some, None, List, [], ◌∷◌, ◌++◌, length, length-drop, map, drop, reverse, unwrap_or, slice_index, codes, All, IsUtf8, refl, sym, subst, ◌∙◌, arith}
use Rattle.std.specs.List.{list_all}
use Rattle.std.specs.Char.{IsScalar}
use Rattle.std.specs.Fmt.{decimal, digits, digits_onto, digit_glyph}
use Rattle.std.specs.Option.{option_map}
use Rattle.std.specs.Str.{encode_utf8_all}
use Rattle.std.proofs.Math.Nat.{mod-lt}
use Rattle.std.proofs.lemmas.Bool.{eqb-false, ne_eqb, cond-false, and_parts}
use Rattle.std.proofs.lemmas.Bool.Decides.{nat_tests}
use Rattle.std.proofs.lemmas.List.{append-nil, reverse-append}
use Rattle.std.proofs.lemmas.List.Elements.{All-nil, All-cons, All-head, All-tail, All-append, All-map, All-from_get_or}
use Rattle.std.proofs.lemmas.Str.{IsUtf8-nil, IsUtf8-append, IsUtf8-encode, encode_ascii, inside_one}
use Rattle.bstr.specs.Utf8.{decoded, or_replacement, lossy_chars}
use Rattle.bstr.proofs.lemmas.PieceLemmas.{lossy_chars-step, lossy_chars-nil, piece-bounds}
use Rattle.bstr.proofs.lemmas.SoundLemmas.{SpellsChar-decoded}
use Rattle.sample_tables.specs.declared.samples.Sample.{Sample}
use Rattle.stack_core.specs.declared.endings.ReadKind.{ReadKind}
use Rattle.stack_core.specs.declared.endings.ReadFault.{ReadFault}
use Rattle.stack_core.specs.Reading.{Rest}
use Rattle.run_options.specs.declared.choices.Pick.{Pick}
use Rattle.run_options.specs.declared.choices.Naming.{Naming}
use Rattle.run_options.specs.declared.choices.Naming.TheVariants.{Plain, Lines}
use Rattle.profile_messages.specs.declared.messages.Line.{Line}
use Rattle.profile_messages.specs.declared.messages.Function.{Function}
use Rattle.profile_tables.specs.FrameNames.{IsFrameName}
use Rattle.profile_messages.specs.Message.{first, Content}
use Rattle.profile_tables.specs.Naming.{plain_char, plain_text, address_frame, name_or, function_name, line_suffix, name_of_line, frame_name, frames_of_lines, frames_of_location, frames_of}
use Rattle.profile_messages.specs.Records.{Location}
use Rattle.profile_tables.specs.Samples.{SampleTables, tables_of, location_ids, frames_of_ids, weight_of, sample_faults, sample_of, sample_then, read_samples, rest_of, read_pprof}
use Rattle.profile_messages.specs.FileFaults.{file_faults}
use Rattle.profile_messages.specs.Tables.{strings_of, functions_of, locations_of, string_at, function_at, location_at, samples_of}
use lib.Utf8.{encode, low_scalar}

-- ---- pieces of names

abbrev IsApart : ℕ → Type 0
IsApart b = (b ≢ 59) × (b ≢ 10)

record IsPiece (bytes : List ℕ) : Type 0 where
  text : IsUtf8 bytes
  whole : All IsApart bytes

piece-append : (xs ys : List ℕ) → IsPiece xs → IsPiece ys → IsPiece (xs ++ ys)
piece-append xs ys one other = record { text = IsUtf8-append xs ys one.text other.text; whole = All-append IsApart xs ys one.whole other.whole }

piece-nil : IsPiece []
piece-nil = record { text = IsUtf8-nil; whole = All-nil IsApart }

-- an ASCII byte that is seen, and no ';'
abbrev pub IsVisible : ℕ → Type 0
IsVisible b = (32 < b) × (b < 128) × (b ≢ 59)

ascii_piece : (bytes : List ℕ) → All IsVisible bytes → IsPiece bytes
ascii_piece [] all = piece-nil
ascii_piece (b ∷ bytes) all =
    let here = All-head IsVisible b bytes all in
    let one : IsUtf8 (b ∷ []) = subst IsUtf8 (encode_ascii b here.1) (IsUtf8-encode b (low_scalar b (omega (arith, here.1)))) in
    piece-append (b ∷ []) bytes (record { text = one; whole = All-cons IsApart b [] (here.2, λ is. omega (arith, here.0, is)) (All-nil IsApart) }) (ascii_piece bytes (All-tail IsVisible b bytes all))

glyph : (base d : ℕ) → base ≤ 16 → d < base → IsVisible (digit_glyph false d)
glyph base d most low = (grind (arith, nat_tests), grind (arith, nat_tests), λ is. absurd (grind (arith, nat_tests)))

digits_ascii : (k base n : ℕ) (acc : List ℕ) → 0 < base → base ≤ 16 → All IsVisible acc → All IsVisible (digits_onto k base false n acc)
digits_ascii zero base n acc some most all = all
digits_ascii (suc k) base n acc some most all = by (n / base == 0) more (digits_ascii k base (n / base) (digit_glyph false (n % base) ∷ acc) some most more)
  where
    more : All IsVisible (digit_glyph false (n % base) ∷ acc)
    more = All-cons IsVisible (digit_glyph false (n % base)) acc (glyph base (n % base) most (mod-lt n some)) all

    by : (b : Bool) → All IsVisible (digit_glyph false (n % base) ∷ acc) → All IsVisible (digits_onto k base false (n / base) (digit_glyph false (n % base) ∷ acc))
        → All IsVisible (cond b (digit_glyph false (n % base) ∷ acc) (digits_onto k base false (n / base) (digit_glyph false (n % base) ∷ acc)))
    by true here later = here
    by false here later = later

digits_visible : (base n : ℕ) → 0 < base → base ≤ 16 → All IsVisible (digits base false n)
unfolding digits
digits_visible base n some most = digits_ascii 64 base n [] some most (All-nil IsVisible)

digits_piece : (base n : ℕ) → 0 < base → base ≤ 16 → IsPiece (digits base false n)
digits_piece base n some most = ascii_piece (digits base false n) (digits_visible base n some most)

-- ---- characters

plain_apart : (c : ℕ) → IsScalar c → IsScalar (plain_char c) × (plain_char c ≢ 59) × (plain_char c ≢ 10)
plain_apart c scalar = by (c == 59) (c == 10) refl refl
  where
    by : (s f : Bool) → (c == 59) ≡ s → (c == 10) ≡ f → IsScalar (cond s 58 (cond f 32 c)) × (cond s 58 (cond f 32 c) ≢ 59) × (cond s 58 (cond f 32 c) ≢ 10)
    by true f s_is f_is = (refl, (λ is. omega arith), (λ is. omega arith))
    by false true s_is f_is = (refl, (λ is. omega arith), (λ is. omega arith))
    by false false s_is f_is = (scalar, eqb-false c 59 s_is, eqb-false c 10 f_is)

char_piece : (c : ℕ) → IsScalar c → (c ≢ 59) × (c ≢ 10) → IsPiece (encode c)
char_piece c scalar apart = record {
  text = IsUtf8-encode c scalar;
  whole = All-from_get_or IsApart (encode c) 0 (λ i within. (λ is. apart.0 (inside i within (omega arith) ∙ is), λ is. apart.1 (inside i within (omega arith) ∙ is)));
}
  where
    inside : (i : ℕ) → i < length (encode c) → slice_index (encode c) i < 128 → c ≡ slice_index (encode c) i
    inside i within low = inside_one c [] (encode c) i (sym (append-nil (encode c))) within low

chars_piece : (chars : List ℕ) → All IsScalar chars → IsPiece (encode_utf8_all (map plain_char chars))
chars_piece [] all = piece-nil
chars_piece (c ∷ chars) all =
    let plain = plain_apart c (All-head IsScalar c chars all) in
    piece-append (encode (plain_char c)) (encode_utf8_all (map plain_char chars)) (char_piece (plain_char c) plain.0 (plain.1, plain.2)) (chars_piece chars (All-tail IsScalar c chars all))

first_scalar : (bytes : List ℕ) → IsScalar (or_replacement (decoded bytes).char)
first_scalar bytes = elim (decoded bytes).char as (λ o. (decoded bytes).char ≡ o → IsScalar (or_replacement o)) [
  | None ↦ λ e. refl
  | Some c ↦ λ e. (SpellsChar-decoded bytes c e).scalar
] refl

scalars_within : (fuel : ℕ) (bytes : List ℕ) → length bytes ≤ fuel → All IsScalar (lossy_chars bytes)
scalars_within fuel [] le = subst (All IsScalar) (sym lossy_chars-nil) (All-nil IsScalar)
scalars_within zero (b ∷ bytes) le = absurd (omega arith)
scalars_within (suc fuel) (b ∷ bytes) le =
    let all = b ∷ bytes in
    let rest = drop (decoded all).size all in
    subst (All IsScalar) (sym (lossy_chars-step all (omega arith)))
    (All-cons IsScalar (or_replacement (decoded all).char) (lossy_chars rest) (first_scalar all)
    (scalars_within fuel rest (omega (arith, piece-bounds all (omega arith), length-drop (decoded all).size all))))

text_piece : (bytes : List ℕ) → IsPiece (plain_text bytes)
text_piece bytes = chars_piece (lossy_chars bytes) (scalars_within (length bytes) bytes (omega arith))

-- ---- names

name_from : (b : ℕ) (bytes : List ℕ) → IsPiece (b ∷ bytes) → IsFrameName (b ∷ bytes)
name_from b bytes piece = record { text = piece.text; some = λ none. cc; whole = piece.whole }

name-append : (xs ys : List ℕ) → IsFrameName xs → IsPiece ys → IsFrameName (xs ++ ys)
name-append [] ys name piece = absurd (name.some refl)
name-append (x ∷ xs) ys name piece = name_from x (xs ++ ys) (piece-append (x ∷ xs) ys (record { text = name.text; whole = name.whole }) piece)

-- the same as a test
abbrev is_visible : ℕ → Bool
is_visible b = nat_lt 32 b && (nat_lt b 128 && (nat_lt 59 b || nat_lt b 59))

tested : (b : ℕ) → is_visible b ≡ true → IsVisible b
tested b is = (grind (arith, nat_tests), grind (arith, nat_tests), λ same. absurd (grind (arith, nat_tests)))

all_tested : (bytes : List ℕ) → list_all is_visible bytes ≡ true → All IsVisible bytes
all_tested [] all = All-nil IsVisible
all_tested (b ∷ bytes) all =
    let both = and_parts _ _ all in
    All-cons IsVisible b bytes (tested b both.0) (all_tested bytes both.1)

pub address_visible : (address : ℕ) → All IsVisible (address_frame address)
address_visible address = All-append IsVisible (codes "0x") (digits 16 false address) (all_tested (codes "0x") refl) (digits_visible 16 address (omega arith) (omega arith))

address_name : (address : ℕ) → IsFrameName (address_frame address)
address_name address = name_from 48 (120 ∷ digits 16 false address) (ascii_piece (address_frame address) (address_visible address))

unknown_name : IsFrameName (codes "[unknown]")
unknown_name = name_from 91 _ (ascii_piece (codes "[unknown]") (all_tested (codes "[unknown]") refl))

or_name : (name other : List ℕ) → IsPiece name → IsFrameName other → IsFrameName (name_or name other)
or_name [] other piece name = name
or_name (b ∷ bytes) other piece name =
    let some : (length (b ∷ bytes) == 0) ≡ false = ne_eqb (length (b ∷ bytes)) 0 (λ is. omega arith) in
    subst IsFrameName (sym (cond-false _ _ _ some)) (name_from b bytes piece)

function_named : (strings : List (List ℕ)) (function : Function) → IsFrameName (function_name strings function)
function_named strings function = or_name _ (codes "[unknown]") (text_piece (name_or (string_at strings function.name) (string_at strings function.system_name))) unknown_name

suffix_piece : (naming : Naming) (line : ℕ) → IsPiece (line_suffix naming line)
suffix_piece Plain line = piece-nil
suffix_piece Lines line = by (nat_lt 0 line && nat_lt line (2 ^ 63))
  where
    colon : IsPiece (58 ∷ [])
    colon = ascii_piece (58 ∷ []) (all_tested (58 ∷ []) refl)

    by : (b : Bool) → IsPiece (cond b (58 ∷ decimal line) [])
    by true = piece-append (58 ∷ []) (decimal line) colon (digits_piece 10 line (omega arith) (omega arith))
    by false = piece-nil

line_named : (strings : List (List ℕ)) (naming : Naming) (address line : ℕ) (function : Option Function) → IsFrameName (name_of_line strings naming address line function)
line_named strings naming address line None = address_name address
line_named strings naming address line (Some function) = name-append (function_name strings function) (line_suffix naming line) (function_named strings function) (suffix_piece naming line)

-- ---- stacks

All-reverse : {X : Type 0} (P : X → Type 0) (xs : List X) → All P xs → All P (reverse xs)
All-reverse P [] all = all
All-reverse P (x ∷ xs) all =
    subst (All P) (sym (reverse-append (x ∷ []) xs)) (All-append P (reverse xs) (x ∷ []) (All-reverse P xs (All-tail P x xs all)) (All-cons P x [] (All-head P x xs all) (All-nil P)))

location_named : (strings : List (List ℕ)) (known : ℕ → Option Function) (naming : Naming) (address : ℕ) (lines : List Line) → All IsFrameName (frames_of_lines strings known naming address lines)
location_named strings known naming address [] = All-cons IsFrameName (address_frame address) [] (address_name address) (All-nil IsFrameName)
location_named strings known naming address (line ∷ lines) =
    All-reverse IsFrameName (map (frame_name strings known naming address) (line ∷ lines))
    (All-map IsFrameName (frame_name strings known naming address) (line ∷ lines) (λ k d within. line_named strings naming address _ _))

abbrev AllNamed : (ℕ → Option (List (List ℕ))) → Type 0
AllNamed frames = (id : ℕ) → All IsFrameName (unwrap_or (frames id) [])

file_named : (file : List ℕ) (naming : Naming) → AllNamed (frames_of file naming)
file_named file naming id = by (location_at (locations_of file) id)
  where
    by : (o : Option Location) → All IsFrameName (unwrap_or (option_map (frames_of_location (strings_of file) (function_at (functions_of file)) naming) o) [])
    by None = All-nil IsFrameName
    by (Some location) = location_named (strings_of file) (function_at (functions_of file)) naming location.address location.lines

ids_named : (frames : ℕ → Option (List (List ℕ))) (ids : List ℕ) → AllNamed frames → All IsFrameName (frames_of_ids frames ids)
ids_named frames [] named = All-nil IsFrameName
ids_named frames (id ∷ ids) named = All-append IsFrameName (unwrap_or (frames id) []) (frames_of_ids frames ids) (named id) (ids_named frames ids named)

-- ---- all samples

abbrev IsNamed : Sample → Type 0
IsNamed sample = All IsFrameName sample.stack

sample_named : (fault : Option ReadKind) (at : ℕ) (sample : Sample) (rest : Rest) → IsNamed sample → All IsNamed rest.samples → All IsNamed (sample_then fault at sample rest).samples
sample_named None at sample rest here later = All-cons IsNamed sample rest.samples here later
sample_named (Some kind) at sample rest here later = All-nil IsNamed

samples_named : (tables : SampleTables) (total : ℕ) (samples : List Content) → AllNamed tables.frames → All IsNamed (read_samples tables total samples).samples
samples_named tables total [] named = All-nil IsNamed
samples_named tables total (sample ∷ samples) named =
    sample_named (first (sample_faults tables total sample.bytes)) sample.at (sample_of tables sample.bytes) _
    (ids_named tables.frames (reverse (location_ids sample.bytes)) named)
    (samples_named tables (total + weight_of tables.chosen sample.bytes) samples named)

rest_named : (fault : Option ReadFault) (rest : Rest) → All IsNamed rest.samples → All IsNamed (rest_of fault rest).samples
rest_named None rest named = named
rest_named (Some fault) rest named = All-nil IsNamed

pub pprof_named : (file : List ℕ) (pick : Pick) (naming : Naming) → All (λ sample. All IsFrameName sample.stack) (read_pprof file pick naming).samples
pprof_named file pick naming =
    rest_named (first (file_faults file pick)) _ (samples_named (tables_of file pick naming) 0 (samples_of file) (file_named file naming))
