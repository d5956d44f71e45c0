-- Places between the lines of a stream, and the steps from one to the next.
use Rattle.std.proofs.Common.{◌≡◌, ◌<◌, ◌≤◌, ◌^◌, ℕ, ◌+◌, ◌&&◌, ◌↔◌, not, Bool, true, false, cond, Option, Some, None, IsSomeAnd, List, [], ◌∷◌, length, map, zero-add, refl, sym, ap, subst, ◌∙◌, arith}
use Rattle.sample_tables.specs.Rows.{ToldRows, stack_at}
use Rattle.sample_tables.specs.declared.samples.TheConstants.{WEIGHT_LIMIT}
use Rattle.stack_core.specs.NamesInOrder.{with_stack}
use Rattle.stack_core.specs.Reading.{Rest}
use Rattle.stack_core.specs.RowReading.{StepsAmong, sample_by}
use Rattle.stack_core.specs.declared.endings.ReadKind.TheVariants.{Compressed}
use Rattle.stack_core.specs.declared.endings.SourceEnd.{SourceEnd}
use Rattle.stack_core.specs.declared.endings.SourceEnd.TheVariants as ends
use Rattle.stack_core.specs.declared.readers.RowStep.TheVariants as step
use Rattle.folded_lines.specs.Line.{Line}
use Rattle.folded_lines.specs.Line.{Ignored, Fault, Sample}
use Rattle.folded_lines.specs.Lines.{read_line, text_lines}
use Rattle.folded_lines.specs.Reading.{begins_compressed, cut_short, is_ignored, read_after, read_folded}
use Rattle.folded_lines.specs.Streams.{Coming, MayCome, StreamGives, at_failure, ending_at_failure, read_coming}
use Rattle.folded_lines.specs.StrictStreams.{StrictStreamGives, has_ignored, read_coming_strictly, read_strictly, up_to_ignored}
use Rattle.folded_lines.specs.declared.cursor.Cursor.{Cursor}
use Rattle.folded_lines.specs.declared.row_lines.RowLine.TheVariants as row
use Rattle.folded_lines.specs.declared.stream_lines.StreamState.TheVariants.{Ended, Open}
use Rattle.folded_lines.specs.declared.stream_lines.StreamLines.{StreamLines}
use Rattle.folded_lines.specs.declared.stream_steps.TheConstants.{LINE_LIMIT}
use Rattle.folded_lines.specs.checked.KnownStreams.{coming_is, coming_of, known_rest}
use Rattle.folded_lines.specs.checked.RowLines.{TellsLine}
use Rattle.folded_lines.specs.checked.Scanning.{ended, followed_by, place_after, rest_from, scan, IsWithin}
use Rattle.folded_lines.specs.checked.StreamLines.{StateMayCome, LinesMayCome, IsClosed, closes, unread_of}
use Rattle.folded_lines.specs.checked.StreamPlaces.{CountsBehind, GivesAt, IsStreamPlace}
use Rattle.folded_lines.specs.checked.StreamReading.{line_at, rest_of, rest_up_to}
use Rattle.folded_lines.proofs.ReadLemmas.{read_after-all, start}
use Rattle.folded_lines.proofs.ScanLemmas.{taken_after, text_lines-none}
use Rattle.folded_lines.proofs.StreamSteps.{countable, ignored_only, nothing_left, rest_of-last, rest_of-step}
use Rattle.folded_lines.proofs.StreamTexts.{few_lines}

-- ---- from one state of a stream's lines to the next

closed_line : (is_strict : Bool) (read : Line) → closes is_strict read ≡ true → is_ignored read ≡ true
closed_line true read closed = closed
closed_line false read closed = cc

-- what may come later might have come before
module _ {I : Type 0} (known known' : Option (List ℕ)) (is_sure is_sure' : Bool) (lines lines' : StreamLines I) (counts : Cursor) where
  abbrev pub AreKept : Type 0
  AreKept = (coming : Coming) → LinesMayCome known' is_sure' lines' coming → LinesMayCome known is_sure lines coming

  pub kept_gives : AreKept → lines'.is_strict ≡ lines.is_strict → (rest : Rest) → GivesAt known' is_sure' lines' counts rest → GivesAt known is_sure lines counts rest
  kept_gives kept reading rest given = (given.0, kept given.0 given.1, given.2, given.3 ∙ ap (λ s. rest_of s counts given.0) reading)

  pub kept_place : AreKept → is_sure' ≡ is_sure → IsStreamPlace known is_sure lines counts → IsStreamPlace known' is_sure' lines' counts
  kept_place kept same place =
      record {
        taken = place.taken;
        ignored = place.ignored;
        total = place.total;
        countable = λ sure coming may. place.countable (sym same ∙ sure) coming (kept coming may);
      }

  -- a line is taken off
  abbrev pub Passes : List ℕ → Type 0
  Passes line = (after : Coming) → LinesMayCome known' is_sure' lines' after
      → (before : Coming) × LinesMayCome known is_sure lines before × (before.fails ≡ after.fails) × (text_lines before.bytes ≡ line ∷ text_lines after.bytes)

  passed_gives : (line : List ℕ) (read : Line) (next : Cursor) → IsStreamPlace known is_sure lines counts → Passes line → read ≡ line_at counts line → next ≡ place_after counts read
      → lines'.is_strict ≡ lines.is_strict → closes lines.is_strict read ≡ false
      → (after : Rest) → GivesAt known' is_sure' lines' next after → GivesAt known is_sure lines counts (rest_from counts read after)
  passed_gives line read next place passes reads places reading stays after given =
      let strict = lines.is_strict in
      let before = passes given.0 given.1 in
      let later : next.taken ≡ counts.taken + 1 = ap (λ (at : Cursor). at.taken) places ∙ taken_after counts read in (
        before.0,
        before.1,
        omega (arith, given.2, later, ap length before.3),
        ap (rest_from counts read) (given.3 ∙ (λ i. rest_of (reading i) (places i) given.0))
            ∙ ap (λ r. rest_from counts r (rest_of strict (place_after counts r) given.0)) reads
            ∙ sym (rest_of-step strict counts before.0 given.0 line (ap (closes strict) (sym reads) ∙ stays) place.ignored before.2 before.3),
      )

  -- it closes them
  closed_gives : (line : List ℕ) (read : Line) (next : Cursor) → IsStreamPlace known is_sure lines counts → IsStreamPlace known' is_sure' lines' next → Passes line → read ≡ line_at counts line
      → next ≡ place_after counts read → closes lines.is_strict read ≡ true → GivesAt known is_sure lines counts (rest_from counts read (ended (ends.Clean next.ignored)))
  closed_gives line read next place place' passes reads places closed =
      let strict = lines.is_strict in
      let none_behind : read ≡ Ignored = ignored_only read (closed_line strict read closed) in
      let some = countable lines'.state known' is_sure' (unread_of lines') next place'.taken lines'.short place'.countable in
      let before = passes some.0 some.1 in
      let later : next.taken ≡ counts.taken + 1 = ap (λ (at : Cursor). at.taken) places ∙ taken_after counts read in (
        before.0,
        before.1,
        omega (arith, some.2, later, ap length before.3),
        (λ i. rest_from counts (none_behind i) (ended (ends.Clean next.ignored)))
            ∙ (λ i. ended (ends.Clean (places i).ignored)) ∙ (λ i. ended (ends.Clean (place_after counts (none_behind i)).ignored))
            ∙ sym (rest_of-last strict counts before.0 line (text_lines some.0.bytes) (ap (closes strict) (sym reads) ∙ closed) before.3),
      )

  passed_place_by : (line : List ℕ) (read : Line) → IsStreamPlace known is_sure lines counts → Passes line → counts.taken < LINE_LIMIT → is_sure' ≡ is_sure → IsWithin counts.total read
      → IsStreamPlace known' is_sure' lines' (place_after counts read)
  passed_place_by line read place passes room same within =
      record { taken = omega (arith, taken_after counts read); ignored = ignored read; total = total read within; countable = countable }
    where
      ignored : (read : Line) → (place_after counts read).ignored ≤ (place_after counts read).taken
      ignored Ignored = omega (arith, place.ignored)
      ignored (Fault kind) = omega (arith, place.ignored)
      ignored (Sample sample) = omega (arith, place.ignored)

      total : (read : Line) → IsWithin counts.total read → (place_after counts read).total ≤ WEIGHT_LIMIT
      total Ignored within = place.total
      total (Fault kind) within = place.total
      total (Sample sample) within = within.1

      countable : is_sure' ≡ true → (coming : Coming) → LinesMayCome known' is_sure' lines' coming → CountsBehind (place_after counts read) coming
      countable sure coming may =
          let before = passes coming may in
          omega (arith, place.countable (sym same ∙ sure) before.0 before.1, taken_after counts read, ap length before.3)

  passed_place : (line : List ℕ) (read : Line) (next : Cursor) → IsStreamPlace known is_sure lines counts → Passes line → counts.taken < LINE_LIMIT → is_sure' ≡ is_sure
      → IsWithin counts.total read → next ≡ place_after counts read → IsStreamPlace known' is_sure' lines' next
  passed_place line read next place passes room same within places =
      subst (IsStreamPlace known' is_sure' lines') (sym places) (passed_place_by line read place passes room same within)

-- a line is taken off, and closes them where it is ignored and they are read strictly
module _ {I : Type 0} (remaining : I → Option (List ℕ)) (sure : I → Bool) (lines passed closed : StreamLines I) (counts next : Cursor) (line : List ℕ) (read : Line)
    (place : IsStreamPlace (remaining lines.inlet) (sure lines.inlet) lines counts) (passes : Passes (remaining lines.inlet) (remaining passed.inlet) (sure lines.inlet) (sure passed.inlet) lines passed counts line)
    (reads : read ≡ line_at counts line) (places : next ≡ place_after counts read) (room : counts.taken < LINE_LIMIT) (within : IsWithin counts.total read)
    (same : sure passed.inlet ≡ sure lines.inlet) (reading : passed.is_strict ≡ lines.is_strict)
    (stays : closes passed.is_strict read ≡ false → closed ≡ passed) (ends_there : closes passed.is_strict read ≡ true → IsClosed closed) where
  passed_at : IsStreamPlace (remaining passed.inlet) (sure passed.inlet) passed next
  passed_at = passed_place _ _ _ _ lines passed counts line read next place passes room same within places

  -- nothing may come of what is closed
  none_come : IsClosed closed → (coming : Coming) → LinesMayCome (remaining closed.inlet) (sure closed.inlet) closed coming → coming ≡ record { bytes = []; fails = false }
  none_come at coming may =
      let may' : (coming.fails ≡ false) × (coming.bytes ≡ unread_of closed) = subst (λ s. StateMayCome s (remaining closed.inlet) (sure closed.inlet) (unread_of closed) coming) at.state may in
      coming_is coming [] false may'.0 (may'.1 ∙ at.none)

  pub taken_place : IsStreamPlace (remaining closed.inlet) (sure closed.inlet) closed next
  taken_place = by (closes passed.is_strict read) refl
    where
      by : (test : Bool) → closes passed.is_strict read ≡ test → IsStreamPlace (remaining closed.inlet) (sure closed.inlet) closed next
      by false is = subst (λ (at : StreamLines I). IsStreamPlace (remaining at.inlet) (sure at.inlet) at next) (sym (stays is)) passed_at
      by true is = record {
        taken = passed_at.taken;
        ignored = passed_at.ignored;
        total = passed_at.total;
        countable = λ _ coming may. omega (arith, passed_at.taken, ap (λ (c : Coming). length (text_lines c.bytes)) (none_come (ends_there is) coming may), ap length text_lines-none);
      }

  pub taken_gives : (after : Rest) → GivesAt (remaining closed.inlet) (sure closed.inlet) closed next after → GivesAt (remaining lines.inlet) (sure lines.inlet) lines counts (rest_from counts read after)
  taken_gives after given = by (closes passed.is_strict read) refl
    where
      by : (test : Bool) → closes passed.is_strict read ≡ test → GivesAt (remaining lines.inlet) (sure lines.inlet) lines counts (rest_from counts read after)
      by false is = passed_gives _ _ _ _ lines passed counts line read next place passes reads places reading (ap (λ s. closes s read) (sym reading) ∙ is) after
          (subst (λ (at : StreamLines I). GivesAt (remaining at.inlet) (sure at.inlet) at next after) (stays is) given)
      by true is =
          let none : after ≡ ended (ends.Clean next.ignored) =
          given.3 ∙ ap (rest_of closed.is_strict next) (none_come (ends_there is) given.0 given.1) ∙ nothing_left closed.is_strict false next in
          subst (λ rest. GivesAt (remaining lines.inlet) (sure lines.inlet) lines counts (rest_from counts read rest)) (sym none)
          (closed_gives _ _ _ _ lines passed counts line read next place passed_at passes reads places (ap (λ s. closes s read) (sym reading) ∙ is))

-- ---- steps

module _ (old new : Rest → Type 0) (told told' : ToldRows) where
  pub steps_new : (names : List (List ℕ)) (frames : List ℕ) (weight : ℕ) → TellsLine told (row.New names frames weight) told'
      → ((after : Rest) → new after → old (followed_by (sample_by told'.names frames weight) after)) → StepsAmong old new told (step.New names frames weight) told'
  steps_new names frames weight tells comes after given =
      record {
        rest = followed_by (sample_by told'.names frames weight) after;
        is_given = comes after given;
        holds = record {
          names_told = tells.1.names_told;
          in_order = tells.1.numbered.in_order ∙ ap (with_stack told.names) (sym tells.1.numbered.named);
          numbers = tells.1.numbered.numbers;
          stacks = tells.1.stacks;
          gives = record { samples = refl; ending = refl };
        };
      }

  pub steps_again : (number weight : ℕ) → TellsLine told (row.Again number weight) told'
      → ((after : Rest) → new after → old (followed_by (sample_by told'.names (stack_at told'.stacks number) weight) after)) → StepsAmong old new told (step.Again number weight) told'
  steps_again number weight tells comes after given =
      record {
        rest = followed_by (sample_by told'.names (stack_at told'.stacks number) weight) after;
        is_given = comes after given;
        holds = record {
          known = tells.0;
          same = tells.1;
          gives = record {
            samples = ap (λ (t : ToldRows). sample_by t.names (stack_at t.stacks number) weight ∷ after.samples) tells.1;
            ending = refl;
          };
        };
      }

  pub steps_end : (ending : SourceEnd) → told' ≡ told → old (ended ending) → StepsAmong old (λ rest. rest ≡ ended ending) told (step.End ending) told'
  steps_end ending same is after given =
      record { rest = ended ending; is_given = is; holds = record { same = same; none = refl; last = refl; left = given } }

-- ---- the start

-- how it reads from there, by whether a read fails
cut_at_start : (fails : Bool) (rest : Rest) → rest_up_to fails 0 rest ≡ cond fails (at_failure rest) rest
cut_at_start false rest = refl
cut_at_start true rest = ap (λ n. record { samples = rest.samples; ending = ending_at_failure n rest.ending }) (zero-add (length rest.samples))

lines_at_start : (bytes : List ℕ) (lines : List (List ℕ)) → cond (begins_compressed bytes) (cut_short [] Compressed) (scan 0 0 0 lines) ≡ cond (begins_compressed bytes) (cut_short [] Compressed) (read_after [] (map read_line lines))
lines_at_start bytes lines = ap (λ rest. cond (begins_compressed bytes) (cut_short [] Compressed) rest) (sym (read_after-all lines))

start_rest : (coming : Coming) → rest_of false start coming ≡ read_coming coming
start_rest coming = ap (rest_up_to coming.fails 0) (lines_at_start coming.bytes (text_lines coming.bytes)) ∙ cut_at_start coming.fails (read_folded coming.bytes)

strict_start_rest : (coming : Coming) → rest_of true start coming ≡ read_coming_strictly coming
strict_start_rest coming =
    let fails = coming.fails && not (has_ignored (text_lines coming.bytes)) in
    ap (rest_up_to fails 0) (lines_at_start coming.bytes (up_to_ignored (text_lines coming.bytes))) ∙ cut_at_start fails (read_strictly coming.bytes)

-- where no read fails, all of the known bytes come
countable_at : (known : Option (List ℕ)) (is_sure fails : Bool) (bytes : List ℕ) → is_sure ≡ true → IsSomeAnd known (λ known. length known < 2 ^ 64)
    → MayCome known is_sure [] (record { bytes = bytes; fails = fails }) → 0 + length (text_lines bytes) < 2 ^ 64
countable_at None is_sure fails bytes sure small may = absurd small
countable_at (Some known) is_sure true bytes sure small may = let unsure : is_sure ≡ false = (may.failing refl).0 in cc
countable_at (Some known) is_sure false bytes sure small may = omega (arith, small, few_lines bytes, ap length (may.whole refl ∙ may.of_known))

module _ {I : Type 0} (known : Option (List ℕ)) (is_sure : Bool) (lines : StreamLines I) (state : lines.state ≡ Open) (unread : unread_of lines ≡ []) where
  may_start : (coming : Coming) → LinesMayCome known is_sure lines coming → MayCome known is_sure [] coming
  may_start coming may = subst (λ bytes. MayCome known is_sure bytes coming) unread (subst (λ s. StateMayCome s known is_sure (unread_of lines) coming) state may)

  starts_may : (coming : Coming) → MayCome known is_sure [] coming → LinesMayCome known is_sure lines coming
  starts_may coming may =
      subst (λ s. StateMayCome s known is_sure (unread_of lines) coming) (sym state) (subst (λ bytes. MayCome known is_sure bytes coming) (sym unread) may)

  pub starts : lines.is_strict ≡ false → (rest : Rest) → GivesAt known is_sure lines start rest ↔ StreamGives known is_sure rest
  starts reading rest = (
    λ given. (given.0, may_start given.0 given.1, omega (arith, given.2), given.3 ∙ ap (λ s. rest_of s start given.0) reading ∙ start_rest given.0),
    λ given. (given.0, starts_may given.0 given.1, omega (arith, given.2), given.3 ∙ sym (ap (λ s. rest_of s start given.0) reading ∙ start_rest given.0)),
  )

  pub starts_strictly : lines.is_strict ≡ true → (rest : Rest) → GivesAt known is_sure lines start rest ↔ StrictStreamGives known is_sure rest
  starts_strictly reading rest = (
    λ given. (given.0, may_start given.0 given.1, omega (arith, given.2), given.3 ∙ ap (λ s. rest_of s start given.0) reading ∙ strict_start_rest given.0),
    λ given. (given.0, starts_may given.0 given.1, omega (arith, given.2), given.3 ∙ sym (ap (λ s. rest_of s start given.0) reading ∙ strict_start_rest given.0)),
  )

  pub start_place : (is_sure ≡ true → IsSomeAnd known (λ known. length known < 2 ^ 64)) → IsStreamPlace known is_sure lines start
  start_place small =
      record {
        taken = omega arith;
        ignored = omega arith;
        total = omega arith;
        countable = λ sure coming may. countable_at known is_sure coming.fails coming.bytes sure (small sure) (may_start coming may);
      }

-- bytes that are all there
module _ {I : Type 0} (known : Option (List ℕ)) (is_sure : Bool) (lines : StreamLines I) (state : lines.state ≡ Ended) where
  pub whole_place : length (unread_of lines) < 2 ^ 63 → IsStreamPlace known is_sure lines start
  whole_place small =
      record {
        taken = omega arith;
        ignored = omega arith;
        total = omega arith;
        countable = λ sure coming may.
            let came = subst (λ s. StateMayCome s known is_sure (unread_of lines) coming) state may in
            omega (arith, small, few_lines coming.bytes, ap length came.1);
      }

pub whole_rest : {I : Type 0} (left bytes : List ℕ) (lines : StreamLines I) → lines.state ≡ Ended → unread_of lines ≡ bytes → lines.is_strict ≡ false → known_rest left lines start None ≡ read_folded bytes
whole_rest left bytes lines state unread reading =
    (λ i. rest_of (reading i) start (coming_of (state i) left (unread_of lines))) ∙ start_rest (record { bytes = unread_of lines; fails = false }) ∙ ap read_folded unread
