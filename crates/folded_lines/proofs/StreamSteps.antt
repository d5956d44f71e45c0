-- What a stream may still give, line after line.
use Rattle.std.proofs.Common.{◌≡◌, ◌<◌, ◌≤◌, ◌^◌, ℕ, suc, ◌+◌, ◌-◌, ◌==◌, ◌&&◌, ◌||◌, not, nat_lt, cond, Bool, true, false, Option, List, [], ◌∷◌, length, refl, sym, ap, ◌∙◌, arith, ◌⊎◌, ⊎_elim}
use Rattle.std.proofs.lemmas.Bool.{and_parts, and_right, cond-true, cond-false, eqb-true, ne_eqb}
use Rattle.sample_tables.specs.declared.samples.TheConstants.{WEIGHT_LIMIT}
use Rattle.stack_core.specs.Reading.{Rest}
use Rattle.stack_core.specs.RowReading.{GivesSome}
use Rattle.stack_core.specs.declared.endings.ReadKind.TheVariants.{Compressed, TotalTooLarge}
use Rattle.stack_core.specs.declared.endings.SourceEnd.TheVariants as ends
use Rattle.folded_lines.specs.Line.{Line}
use Rattle.folded_lines.specs.Line.{Ignored, Fault, Sample}
use Rattle.folded_lines.specs.Lines.{text_lines, read_line}
use Rattle.folded_lines.specs.Reading.{begins_compressed, is_ignored}
use Rattle.folded_lines.specs.Streams.{Coming, ending_at_failure}
use Rattle.folded_lines.specs.StrictStreams.{has_ignored, up_to_ignored}
use Rattle.folded_lines.specs.declared.cursor.Cursor.{Cursor}
use Rattle.folded_lines.specs.declared.stream_lines.StreamState.{StreamState}
use Rattle.folded_lines.specs.declared.stream_lines.StreamState.TheVariants.{Open, Ended, Failed}
use Rattle.folded_lines.specs.declared.stream_lines.StreamLines.{StreamLines}
use Rattle.folded_lines.specs.declared.stream_steps.TheConstants.{LINE_LIMIT}
use Rattle.folded_lines.specs.checked.Scanning.{within_total, ended, scan, place_after, rest_from}
use Rattle.folded_lines.specs.checked.StreamLines.{StateMayCome, HasNone, HasNoneIn, closes, unread_of}
use Rattle.folded_lines.specs.checked.StreamPlaces.{CountsBehind, GivesAt, IsStreamPlace}
use Rattle.folded_lines.specs.checked.StreamReading.{is_compressed_at, is_cut, line_at, lines_read, rest_of, rest_of_bytes, rest_up_to, up_to_failure}
use Rattle.folded_lines.proofs.CompressedLines.{compressed_by_line}
use Rattle.folded_lines.proofs.ScanLemmas.{scan_by, text_lines-none}
use Rattle.folded_lines.proofs.StreamTexts.{all_coming, comes_whole, fails_at_once, few_lines}

-- ---- a line, and what is behind it

-- what is behind a line is not at the start
later_plain : (taken : ℕ) (test : Bool) → (taken + 1 == 0 && test) ≡ false
later_plain taken test = ap (λ b. b && test) (ne_eqb (taken + 1) 0 (λ e. omega arith))

rest_behind : (is_strict : Bool) (counts : Cursor) (read : Line) (bytes : List ℕ)
    → rest_of_bytes is_strict (place_after counts read) bytes
    ≡ scan (place_after counts read).taken (place_after counts read).ignored (place_after counts read).total (lines_read is_strict (text_lines bytes))
rest_behind is_strict counts Ignored bytes = cond-false _ _ _ (later_plain counts.taken (begins_compressed bytes))
rest_behind is_strict counts (Fault kind) bytes = cond-false _ _ _ (later_plain counts.taken (begins_compressed bytes))
rest_behind is_strict counts (Sample sample) bytes = cond-false _ _ _ (later_plain counts.taken (begins_compressed bytes))

ignored_within : (total : ℕ) (read : Line) → is_ignored (within_total total read) ≡ is_ignored read
ignored_within total Ignored = refl
ignored_within total (Fault kind) = refl
ignored_within total (Sample sample) = by (nat_lt WEIGHT_LIMIT (total + sample.weight))
  where
    by : (above : Bool) → is_ignored (cond above (Fault TotalTooLarge) (Sample sample)) ≡ false
    by true = refl
    by false = refl

-- a line that is ignored, but where the bytes are compressed
ignored_at : (counts : Cursor) (line : List ℕ) → is_compressed_at counts line ≡ false → is_ignored (read_line line) ≡ is_ignored (line_at counts line)
ignored_at counts line plain = sym (ap is_ignored (cond-false _ _ _ plain) ∙ ignored_within counts.total (read_line line))

-- a line that does not close them leaves what is read of those behind it, and whether a read fails there
read_step : (is_strict : Bool) (counts : Cursor) (line : List ℕ) (lines : List (List ℕ)) → is_compressed_at counts line ≡ false → closes is_strict (line_at counts line) ≡ false
    → lines_read is_strict (line ∷ lines) ≡ line ∷ lines_read is_strict lines
read_step false counts line lines plain stays = refl
read_step true counts line lines plain stays = ap (λ b. line ∷ cond b [] (up_to_ignored lines)) (ignored_at counts line plain ∙ stays)

cut_step : (is_strict fails : Bool) (counts : Cursor) (line : List ℕ) (lines : List (List ℕ)) → is_compressed_at counts line ≡ false → closes is_strict (line_at counts line) ≡ false
    → is_cut is_strict fails (line ∷ lines) ≡ is_cut is_strict fails lines
cut_step false fails counts line lines plain stays = refl
cut_step true fails counts line lines plain stays = ap (λ b. fails && not (b || has_ignored lines)) (ignored_at counts line plain ∙ stays)

bytes_step_by : (is_strict : Bool) (counts : Cursor) (bytes line after : List ℕ) (read : Line) (test : Bool)
    → (test ≡ false → lines_read is_strict (text_lines bytes) ≡ line ∷ lines_read is_strict (text_lines after)) → is_compressed_at counts bytes ≡ test
    → (test ≡ true → read ≡ Fault Compressed) → (test ≡ false → within_total counts.total (read_line line) ≡ read)
    → rest_of_bytes is_strict counts bytes ≡ rest_from counts read (rest_of_bytes is_strict (place_after counts read) after)
bytes_step_by is_strict counts bytes line after read true lines is gzip plain =
    let first : counts.taken ≡ 0 = eqb-true counts.taken 0 (and_parts (counts.taken == 0) (begins_compressed bytes) is).0 in
    cond-true _ _ _ is
    ∙ ap (λ n. ended (ends.Fault (record { kind = Compressed; at = n + 1 }))) (sym first)
    ∙ ap (λ r. rest_from counts r (rest_of_bytes is_strict (place_after counts r) after)) (sym (gzip refl))
bytes_step_by is_strict counts bytes line after read false lines is gzip plain =
    cond-false _ _ _ is
    ∙ ap (scan counts.taken counts.ignored counts.total) (lines refl)
    ∙ scan_by counts line (lines_read is_strict (text_lines after)) read (plain refl)
    ∙ ap (rest_from counts read) (sym (rest_behind is_strict counts read after))

-- the bytes of a line that does not close them, and of what is behind it
bytes_step : (is_strict : Bool) (counts : Cursor) (bytes line after : List ℕ) → closes is_strict (line_at counts line) ≡ false → text_lines bytes ≡ line ∷ text_lines after
    → rest_of_bytes is_strict counts bytes ≡ rest_from counts (line_at counts line) (rest_of_bytes is_strict (place_after counts (line_at counts line)) after)
bytes_step is_strict counts bytes line after stays lines =
    let same : is_compressed_at counts bytes ≡ is_compressed_at counts line = ap (λ b. counts.taken == 0 && b) (compressed_by_line bytes line (text_lines after) lines) in
    bytes_step_by is_strict counts bytes line after (line_at counts line) (is_compressed_at counts line)
    (λ plain. ap (lines_read is_strict) lines ∙ read_step is_strict counts line (text_lines after) plain stays)
    same
    (λ is. cond-true _ _ _ is)
    (λ is. sym (cond-false _ _ _ is))

-- a fault stays where a read fails
fault_cut : (fails : Bool) (before : ℕ) (counts : Cursor) (rest other : Rest) (read : Line) → read ≡ Fault Compressed → rest ≡ rest_from counts read other
    → rest_up_to fails before rest ≡ rest_from counts read other
fault_cut true before counts rest other read gzip is =
    ap (up_to_failure before) (is ∙ ap (λ r. rest_from counts r other) gzip) ∙ ap (λ r. rest_from counts r other) (sym gzip)
fault_cut false before counts rest other read gzip is = is

-- how many samples came, with a line
up_to_step : (fails : Bool) (counts : Cursor) (read : Line) (rest : Rest) → counts.ignored ≤ counts.taken
    → rest_up_to fails (counts.taken - counts.ignored) (rest_from counts read rest)
    ≡ rest_from counts read (rest_up_to fails ((place_after counts read).taken - (place_after counts read).ignored) rest)
up_to_step false counts Ignored rest fits = refl
up_to_step false counts (Fault kind) rest fits = refl
up_to_step false counts (Sample sample) rest fits = refl
up_to_step true counts Ignored rest fits = ap (λ n. up_to_failure n rest) (omega arith)
up_to_step true counts (Fault kind) rest fits = refl
up_to_step true counts (Sample sample) rest fits =
    ap (λ n. record { samples = sample ∷ rest.samples; ending = ending_at_failure n rest.ending }) (same counts.taken counts.ignored (length rest.samples) fits)
  where
    same : (taken ignored few : ℕ) → ignored ≤ taken → taken - ignored + suc few ≡ taken + 1 - ignored + few
    same taken ignored few fits = omega arith

pub rest_of-step : (is_strict : Bool) (counts : Cursor) (before after : Coming) (line : List ℕ) → closes is_strict (line_at counts line) ≡ false → counts.ignored ≤ counts.taken → before.fails ≡ after.fails
    → text_lines before.bytes ≡ line ∷ text_lines after.bytes
    → rest_of is_strict counts before ≡ rest_from counts (line_at counts line) (rest_of is_strict (place_after counts (line_at counts line)) after)
rest_of-step is_strict counts before after line stays fits fails lines = by (is_compressed_at counts line) refl
  where
    read : Line
    read = line_at counts line

    next : Cursor
    next = place_after counts read

    came : ℕ
    came = counts.taken - counts.ignored

    -- the same read fails, unless the bytes are compressed
    cut : is_compressed_at counts line ≡ false → is_cut is_strict before.fails (text_lines before.bytes) ≡ is_cut is_strict after.fails (text_lines after.bytes)
    cut plain = (λ i. is_cut is_strict (fails i) (lines i)) ∙ cut_step is_strict after.fails counts line (text_lines after.bytes) plain stays

    by : (test : Bool) → is_compressed_at counts line ≡ test → rest_of is_strict counts before ≡ rest_from counts read (rest_of is_strict next after)
    by true is =
        let gzip : read ≡ Fault Compressed = cond-true _ _ _ is in
        fault_cut (is_cut is_strict before.fails (text_lines before.bytes)) came counts (rest_of_bytes is_strict counts before.bytes) (rest_of is_strict next after) read gzip
        (bytes_step is_strict counts before.bytes line after.bytes stays lines
        ∙ ap (λ r. rest_from counts r (rest_of_bytes is_strict next after.bytes)) gzip ∙ ap (λ r. rest_from counts r (rest_of is_strict next after)) (sym gzip))
    by false plain =
        let fails' = is_cut is_strict after.fails (text_lines after.bytes) in
        ap (λ f. rest_up_to f came (rest_of_bytes is_strict counts before.bytes)) (cut plain)
        ∙ ap (rest_up_to fails' came) (bytes_step is_strict counts before.bytes line after.bytes stays lines)
        ∙ up_to_step fails' counts read (rest_of_bytes is_strict next after.bytes) fits

pub ignored_only : (read : Line) → is_ignored read ≡ true → read ≡ Ignored
ignored_only Ignored is = refl
ignored_only (Fault kind) is = cc
ignored_only (Sample sample) is = cc

-- a line that closes them is the last that is read, and no read fails
pub rest_of-last : (is_strict : Bool) (counts : Cursor) (before : Coming) (line : List ℕ) (lines : List (List ℕ)) → closes is_strict (line_at counts line) ≡ true → text_lines before.bytes ≡ line ∷ lines
    → rest_of is_strict counts before ≡ ended (ends.Clean (counts.ignored + 1))
rest_of-last false counts before line lines closed is = cc
rest_of-last true counts before line lines closed is =
    let bytes = before.bytes in
    let read_is : line_at counts line ≡ Ignored = ignored_only (line_at counts line) closed in
    let plain = not_compressed counts line read_is in
    let here : is_ignored (read_line line) ≡ true = ignored_at counts line plain ∙ closed in
    let same : is_compressed_at counts bytes ≡ false = ap (λ b. counts.taken == 0 && b) (compressed_by_line bytes line lines is) ∙ plain in
    ap (λ f. rest_up_to f (counts.taken - counts.ignored) (rest_of_bytes true counts bytes))
    (ap (λ ls. before.fails && not (has_ignored ls)) is ∙ ap (λ b. before.fails && not (b || has_ignored lines)) here ∙ and_right before.fails false refl)
    ∙ cond-false _ _ _ same
    ∙ ap (scan counts.taken counts.ignored counts.total) (ap up_to_ignored is ∙ ap (λ b. line ∷ cond b [] (up_to_ignored lines)) here)
    ∙ scan_by counts line [] (line_at counts line) (sym (cond-false _ _ _ plain))
    ∙ (λ i. rest_from counts (read_is i) (scan (place_after counts (read_is i)).taken (place_after counts (read_is i)).ignored (place_after counts (read_is i)).total []))
  where
    not_compressed : (counts : Cursor) (line : List ℕ) → line_at counts line ≡ Ignored → is_compressed_at counts line ≡ false
    not_compressed counts line read = by (is_compressed_at counts line) refl
      where
        by : (test : Bool) → is_compressed_at counts line ≡ test → is_compressed_at counts line ≡ false
        by true is = absurd (fault_or (sym (cond-true _ _ _ is) ∙ read))
          where
            fault_or : Fault Compressed ≡ Ignored → ⊥
            fault_or same = cc
        by false is = is

-- ---- places

abbrev Countable : StreamState → Option (List ℕ) → Bool → List ℕ → Cursor → Type 0
Countable state known is_sure unread counts = (coming : Coming) × StateMayCome state known is_sure unread coming × CountsBehind counts coming

-- something may come, and its lines can be counted
pub countable : (state : StreamState) (known : Option (List ℕ)) (is_sure : Bool) (unread : List ℕ) (counts : Cursor) → counts.taken ≤ LINE_LIMIT → length unread < 2 ^ 63
    → (is_sure ≡ true → (coming : Coming) → StateMayCome state known is_sure unread coming → CountsBehind counts coming) → Countable state known is_sure unread counts
countable Open known false unread counts few short sure =
    (record { bytes = []; fails = true }, fails_at_once known unread, omega (arith, few, ap length text_lines-none))
countable Open known true unread counts few short sure =
    let comes = comes_whole known true unread in
    (all_coming known unread, comes, sure refl (all_coming known unread) comes)
countable Ended known is_sure unread counts few short sure =
    (record { bytes = unread; fails = false }, (refl, refl), omega (arith, few, short, few_lines unread))
countable Failed known is_sure unread counts few short sure =
    (record { bytes = []; fails = true }, (refl, refl), omega (arith, few, ap length text_lines-none))

pub possible_at : {I : Type 0} (known : Option (List ℕ)) (is_sure : Bool) (lines : StreamLines I) (counts : Cursor) → IsStreamPlace known is_sure lines counts → GivesSome (GivesAt known is_sure lines counts)
possible_at known is_sure lines counts place =
    let some = countable lines.state known is_sure (unread_of lines) counts place.taken lines.short place.countable in
    record { rest = rest_of lines.is_strict counts some.0; is_given = (some.0, some.1, some.2, refl) }

-- ---- the end

none_read : (is_strict : Bool) → lines_read is_strict [] ≡ []
none_read false = refl
none_read true = refl

none_cut : (is_strict fails : Bool) → is_cut is_strict fails [] ≡ fails
none_cut false fails = refl
none_cut true true = refl
none_cut true false = refl

bytes_left : (is_strict : Bool) (counts : Cursor) → rest_of_bytes is_strict counts [] ≡ ended (ends.Clean counts.ignored)
bytes_left is_strict counts =
    cond-false _ _ _ (and_right (counts.taken == 0) false refl) ∙ ap (scan counts.taken counts.ignored counts.total) (ap (lines_read is_strict) text_lines-none ∙ none_read is_strict)

pub nothing_left : (is_strict fails : Bool) (counts : Cursor) → rest_of is_strict counts (record { bytes = []; fails = fails }) ≡ rest_up_to fails (counts.taken - counts.ignored) (ended (ends.Clean counts.ignored))
nothing_left is_strict fails counts =
    ap (λ f. rest_up_to f (counts.taken - counts.ignored) (rest_of_bytes is_strict counts [])) (ap (is_cut is_strict fails) text_lines-none ∙ none_cut is_strict fails)
    ∙ ap (rest_up_to fails (counts.taken - counts.ignored)) (bytes_left is_strict counts)

abbrev GivesIn : Bool → StreamState → Option (List ℕ) → Bool → List ℕ → Cursor → Rest → Type 0
GivesIn is_strict state known is_sure unread counts rest = (coming : Coming) × StateMayCome state known is_sure unread coming × CountsBehind counts coming × (rest ≡ rest_of is_strict counts coming)

ends_failed_in : (is_strict : Bool) (state : StreamState) (known : Option (List ℕ)) (is_sure : Bool) (unread : List ℕ) (counts : Cursor) → counts.taken ≤ LINE_LIMIT → state ≡ Failed
    → GivesIn is_strict state known is_sure unread counts (ended (ends.Stopped (counts.taken - counts.ignored)))
ends_failed_in is_strict Open known is_sure unread counts few is = cc
ends_failed_in is_strict Ended known is_sure unread counts few is = cc
ends_failed_in is_strict Failed known is_sure unread counts few is = (
  record { bytes = []; fails = true },
  (refl, refl),
  omega (arith, few, ap length text_lines-none),
  ap (λ n. ended (ends.Stopped n)) (same (counts.taken - counts.ignored)) ∙ sym (nothing_left is_strict true counts),
)
  where
    same : (n : ℕ) → n ≡ n + 0
    same n = omega arith

pub ends_failed : {I : Type 0} (known : Option (List ℕ)) (is_sure : Bool) (lines : StreamLines I) (counts : Cursor) → IsStreamPlace known is_sure lines counts → lines.state ≡ Failed
    → GivesAt known is_sure lines counts (ended (ends.Stopped (counts.taken - counts.ignored)))
ends_failed known is_sure lines counts place is = ends_failed_in lines.is_strict lines.state known is_sure (unread_of lines) counts place.taken is

ends_clean_in : (is_strict : Bool) (state : StreamState) (known : Option (List ℕ)) (is_sure : Bool) (unread : List ℕ) (counts : Cursor) → counts.taken ≤ LINE_LIMIT → HasNoneIn state unread
    → ((state ≡ Open) ⊎ (state ≡ Ended)) → GivesIn is_strict state known is_sure unread counts (ended (ends.Clean counts.ignored))
ends_clean_in is_strict Open known is_sure unread counts few none is = absurd none
ends_clean_in is_strict Ended known is_sure unread counts few none is =
    (record { bytes = []; fails = false }, (refl, sym none), omega (arith, few, ap length text_lines-none), sym (nothing_left is_strict false counts))
ends_clean_in is_strict Failed known is_sure unread counts few none is = ⊎_elim (λ open_is. cc) (λ ended_is. cc) is

pub ends_clean : {I : Type 0} (known : Option (List ℕ)) (is_sure : Bool) (lines : StreamLines I) (counts : Cursor) → IsStreamPlace known is_sure lines counts → HasNone lines
    → ((lines.state ≡ Open) ⊎ (lines.state ≡ Ended)) → GivesAt known is_sure lines counts (ended (ends.Clean counts.ignored))
ends_clean known is_sure lines counts place none is = ends_clean_in lines.is_strict lines.state known is_sure (unread_of lines) counts place.taken none is
