-- What a command line without a fault makes of its command and entries.
use Rattle.std.proofs.Common.{◌≡◌, rules, ◌∙◌, ◌≤◌, ◌||◌, ◌⊎◌, inl, inr, ℕ, Bool, cond, true, false, not, refl, sym, ap, subst, arith, List, [], ◌∷◌, ◌++◌, length, Option, Some, None, is_some, option_map, true≢false, codes}
use Rattle.std.specs.Prelude.{slice_get, unwrap_or, option_and_then, pos, IfSome, IsSome}
use Rattle.std.specs.List.{AllByRecursion as Each, find, list_any, slice_index_or}
use Rattle.std.specs.Option.{option_map_or}
use Rattle.std.specs.Str.{bytes_eq}
use Rattle.std.specs.Str.Parse.{IsNumeral, digits_value, starts_with_minus, without_leading_plus}
use Rattle.std.proofs.lemmas.Slice.Eq.{bytes_eq-Decides}
use Rattle.clap.specs.Facts.{explicit_source, parser_of_value}
use Rattle.clap.specs.Faults.{check_fault, entered_fault, fault_of, level_fault, walk_fault}
use Rattle.clap.specs.Kinds.{check_kinds}
use Rattle.clap.specs.Lexer.{without_minus}
use Rattle.clap.specs.Simple.{App, Shape, new_shape, built, entered, label_of, names_of, rows_at, subcommand_of}
use Rattle.clap.specs.Takes.{is_given, value_passes, values_pass}
use Rattle.clap.specs.Values.{IsSignedIn, read_as, reading_of}
use Rattle.clap.specs.Walk.{Row, Rule, Text, answers_to, arg_by_id, nothing_held, one_of, reading_by, row_text, rows_after, walk, walk_from}
use Rattle.clap.specs.ValueTests.{accepts}
use Rattle.clap.specs.declared.builder.value_parser.Reading.{Reading}
use Rattle.clap.specs.declared.builder.value_parser.Reading.TheVariants as how
use Rattle.std.proofs.lemmas.Int.{ints}
use Rattle.std.proofs.lemmas.List.{length-append}
use Rattle.clap.specs.declared.builder.value_parser.ValueParser.{ValueParser}
use Rattle.clap.specs.declared.builder.value_parser.ValueParser.TheVariants as vp
use Rattle.clap.proofs.ValueTestLemmas.{accepts-Accepts}
use Rattle.clap.proofs.WalkLemmas.{both}
use Rattle.run_options.specs.declared.ring_sizes.TheConstants.{LARGEST_RING}
use Rattle.run_options.specs.declared.widths.TheConstants.{MAX_WIDTH}
use Rattle.command_line.specs.declared.arguments.TheConstants.{MOST_BETWEEN_SNAPSHOTS, MOST_HUNDREDTHS, MOST_ROWS}
use Rattle.command_line.specs.CommandLine.{command_line}
use Rattle.command_line.specs.checked.Entries.{GREATEST_COUNT, IsCountAt, IsFlagAt, IsNumberAt, IsRead, compares}
use Rattle.command_line.specs.Plans.{IsDrawn, compared_view, files_of, is_set, values_at, view_of, width_of}
use Rattle.command_line.specs.declared.plans.View.TheVariants.{PairBoxes, Pairs}
use Rattle.command_line.proofs.PassedLevels.{level_holds}
use Rattle.command_line.proofs.PassedUses.{IsFirstOfId, IsRow, IsRowOf, IsSingle, found_each}
use Rattle.command_line.proofs.EnteredCommands.{IsElsewhere, walk_elsewhere}

-- ---- the values of an id

without_minus_same : (text : Text) → starts_with_minus text ≡ false → without_minus text ≡ text
without_minus_same [] e = refl
without_minus_same (x ∷ xs) e = rw e refl

-- a number in a range that begins at 1 is written without a minus
number_read : (most : ℕ) (text : Text) → IsSignedIn (pos 1) (pos most) text
    → IsNumeral 10 (without_leading_plus (without_minus text))
    × (1 ≤ digits_value 10 (without_leading_plus (without_minus text)))
    × (digits_value 10 (without_leading_plus (without_minus text)) ≤ most)
number_read most text h = go (starts_with_minus text) refl
  where
    go : (b : Bool) → starts_with_minus text ≡ b → IsNumeral 10 (without_leading_plus (without_minus text))
        × (1 ≤ digits_value 10 (without_leading_plus (without_minus text)))
        × (digits_value 10 (without_leading_plus (without_minus text)) ≤ most)
    go true minus =
        let low = rw minus at h.2 in
        absurd (omega (arith, ints))
    go false minus =
        let numeral = rw minus at h.0 in
        let low = rw minus at h.2 in
        let high = rw minus at h.3 in
        rw (without_minus_same text minus) (numeral, omega (arith, ints), omega (arith, ints))

flag_read : (text : Text) → (bytes_eq text (codes "true") || bytes_eq text (codes "false")) ≡ true
    → (text ≡ codes "true") ⊎ (text ≡ codes "false")
flag_read text e = go (bytes_eq text (codes "true")) refl e
  where
    go : (b : Bool) → bytes_eq text (codes "true") ≡ b → (b || bytes_eq text (codes "false")) ≡ true
        → (text ≡ codes "true") ⊎ (text ≡ codes "false")
    go true is e = inl ((bytes_eq-Decides text (codes "true")).0 is)
    go false is e = inr ((bytes_eq-Decides text (codes "false")).0 e)

module _ (c : List Rule) (rows : List Row) (each : Each (IsRow c) rows) where
  -- the row of an id is of the argument with that id
  row_at : (id : Text) (r : Row) → find (λ r. bytes_eq r.id id) rows ≡ Some r → (a : Rule) × (arg_by_id c id ≡ Some a) × IsRowOf a r
  row_at id r found =
      let is = found_each (IsRow c) (λ r. bytes_eq r.id id) rows r each found in
      let same : r.id ≡ id = (bytes_eq-Decides r.id id).0 is.1 in
      (is.0.0, ap (arg_by_id c) (sym same) ∙ is.0.1, is.0.2)

  -- what is read of an id, where the argument with that id has a parser that says so
  read_at : (id : Text) (P : Text → Type 0) → ((a : Rule) (text : Text) → arg_by_id c id ≡ Some a → value_passes a text ≡ true → P (read_as (reading_by a) text))
      → IfSome (one_of id rows) P
  read_at id P reads = of_row (find (λ r. bytes_eq r.id id) rows) refl
    where
      of_values : (a : Rule) (r : Row) (values : List Text) → arg_by_id c id ≡ Some a → r.reading ≡ reading_by a → values_pass a values ≡ true
          → IfSome (option_map (read_as r.reading) (slice_get values 0)) P
      of_values a r [] is reading pass = tt
      of_values a r (v ∷ vs) is reading pass =
          subst (λ (how : Reading). P (read_as how v)) (sym reading) (reads a v is (both (value_passes a v) (values_pass a vs) pass).0)

      of_row : (found : Option Row) → find (λ r. bytes_eq r.id id) rows ≡ found → IfSome (option_and_then row_text found) P
      of_row None is = tt
      of_row (Some r) is =
          let own = row_at id r is in
          of_values own.0 r r.values own.1 own.2.reading own.2.passed

  number_at_id : (id : Text) (most : ℕ) → IfSome (arg_by_id c id) (λ a. a.parser ≡ Some (vp.Signed (pos 1) (pos most))) → IsNumberAt id most rows
  number_at_id id most known = read_at id _ (λ a text is pass.
      let number = vp.Signed (pos 1) (pos most) in
      let parser : a.parser ≡ Some number = rw is at known in
      let accepted : accepts a.ignore_case number text ≡ true =
      ap (λ (p : Option ValueParser). accepts a.ignore_case (parser_of_value p) text) (sym parser) ∙ pass in
      let reading : reading_by a ≡ how.WithoutMinus = ap (λ (p : Option ValueParser). reading_of (parser_of_value p)) parser in
      let passed = number_read most text (accepts-Accepts a.ignore_case number text accepted) in
      rw reading passed)

  flag_at_id : (id : Text) → IfSome (arg_by_id c id) (λ a. a.parser ≡ Some vp.Bool) → IsFlagAt id rows
  flag_at_id id known = read_at id _ (λ a text is pass.
      let parser : a.parser ≡ Some vp.Bool = rw is at known in
      let accepted : accepts a.ignore_case vp.Bool text ≡ true =
      ap (λ (p : Option ValueParser). accepts a.ignore_case (parser_of_value p) text) (sym parser) ∙ pass in
      let reading : reading_by a ≡ how.AsWritten = ap (λ (p : Option ValueParser). reading_of (parser_of_value p)) parser in
      rw reading (flag_read text accepted))

  count_at_id : (id : Text) (most : ℕ) → IfSome (arg_by_id c id) (λ a. a.parser ≡ Some (vp.Unsigned 0 most)) → IsCountAt id most rows
  count_at_id id most known = read_at id _ (λ a text is pass.
      let number = vp.Unsigned 0 most in
      let parser : a.parser ≡ Some number = rw is at known in
      let accepted : accepts a.ignore_case number text ≡ true =
      ap (λ (p : Option ValueParser). accepts a.ignore_case (parser_of_value p) text) (sym parser) ∙ pass in
      let reading : reading_by a ≡ how.AsWritten = ap (λ (p : Option ValueParser). reading_of (parser_of_value p)) parser in
      let passed = accepts-Accepts a.ignore_case number text accepted in
      rw reading (passed.0, passed.3))

  unset_at_id : (id : Text) → arg_by_id c id ≡ None → is_set id rows ≡ false
  unset_at_id id unknown = go (find (λ r. bytes_eq r.id id) rows) refl
    where
      go : (found : Option Row) → find (λ r. bytes_eq r.id id) rows ≡ found
          → option_map_or (λ text. bytes_eq text (codes "true")) (option_and_then row_text found) false ≡ false
      go None is = refl
      go (Some r) is =
          let own = row_at id r is in
          let no : Some own.0 ≡ None = sym own.1 ∙ unknown in
          cc

  none_at_id : (id : Text) → arg_by_id c id ≡ None → values_at id rows ≡ []
  none_at_id id unknown = go (find (λ r. bytes_eq r.id id) rows) refl
    where
      go : (found : Option Row) → find (λ r. bytes_eq r.id id) rows ≡ found → unwrap_or (option_map (λ r. r.values) found) [] ≡ []
      go None is = refl
      go (Some r) is =
          let own = row_at id r is in
          let no : Some own.0 ≡ None = sym own.1 ∙ unknown in
          cc

  one_at_id : (id : Text) (a : Rule) → arg_by_id c id ≡ Some a → IsSingle a → is_given id rows ≡ true → length (values_at id rows) ≡ 1
  one_at_id id a is single given = go (find (λ r. bytes_eq r.id id) rows) refl given
    where
      go : (found : Option Row) → find (λ r. bytes_eq r.id id) rows ≡ found → option_map_or (λ r. explicit_source r.source) found false ≡ true
          → length (unwrap_or (option_map (λ r. r.values) found) []) ≡ 1
      go None at gives = absurd (true≢false (sym gives))
      go (Some r) at gives =
          let own = row_at id r at in
          let same : own.0 ≡ a = ap (λ (o : Option Rule). unwrap_or o a) (sym own.1 ∙ is) in
          own.2.single (subst IsSingle (sym same) single)

  pair_at : (before after : Rule) → arg_by_id c (codes "file") ≡ None
      → arg_by_id c (codes "before") ≡ Some before → IsSingle before → is_given (codes "before") rows ≡ true
      → arg_by_id c (codes "after") ≡ Some after → IsSingle after → is_given (codes "after") rows ≡ true
      → length (files_of rows) ≡ 2
  pair_at before after none before_is before_single before_given after_is after_single after_given =
      let no_files : length (values_at (codes "file") rows) ≡ 0 = ap length (none_at_id (codes "file") none) in
      let one = one_at_id (codes "before") before before_is before_single before_given in
      let two = one_at_id (codes "after") after after_is after_single after_given in
      omega (
        arith,
        no_files,
        one,
        two,
        length-append (values_at (codes "file") rows) (values_at (codes "before") rows ++ values_at (codes "after") rows),
        length-append (values_at (codes "before") rows) (values_at (codes "after") rows),
      )

  single_at : (file : Rule) → arg_by_id c (codes "file") ≡ Some file → IsSingle file → is_given (codes "file") rows ≡ true
      → arg_by_id c (codes "before") ≡ None → arg_by_id c (codes "after") ≡ None → length (files_of rows) ≡ 1
  single_at file file_is single given no_before no_after =
      let one = one_at_id (codes "file") file file_is single given in
      let before : length (values_at (codes "before") rows) ≡ 0 = ap length (none_at_id (codes "before") no_before) in
      let after : length (values_at (codes "after") rows) ≡ 0 = ap length (none_at_id (codes "after") no_after) in
      omega (
        arith,
        one,
        before,
        after,
        length-append (values_at (codes "file") rows) (values_at (codes "before") rows ++ values_at (codes "after") rows),
        length-append (values_at (codes "before") rows) (values_at (codes "after") rows),
      )

-- ---- the commands

checks_pass : (wants_help wants_subcommand wants_argument : Bool) → check_kinds wants_help wants_subcommand wants_argument ≡ []
    → (wants_subcommand ≡ false) × (wants_argument ≡ false)
checks_pass true b d e = cc
checks_pass false true d e = cc
checks_pass false false true e = cc
checks_pass false false false e = (refl, refl)

abbrev IsNumberRule : ℕ → Option Rule → Type 0
IsNumberRule most found = IfSome found (λ a. a.parser ≡ Some (vp.Signed (pos 1) (pos most)))

abbrev IsFlagRule : Option Rule → Type 0
IsFlagRule found = IfSome found (λ a. a.parser ≡ Some vp.Bool)

abbrev IsCountRule : ℕ → Option Rule → Type 0
IsCountRule most found = IfSome found (λ a. a.parser ≡ Some (vp.Unsigned 0 most))

-- the arguments of a command that are numbers and flags
record KnowsArguments (c : List Rule) : Type 0 where
  firsts : Each (IsFirstOfId c) c
  width : IsNumberRule MAX_WIDTH (arg_by_id c (codes "width"))
  ring : IsNumberRule LARGEST_RING (arg_by_id c (codes "ring"))
  every : IsNumberRule MOST_BETWEEN_SNAPSHOTS (arg_by_id c (codes "every"))
  lines : IsFlagRule (arg_by_id c (codes "lines"))
  boxes : IsFlagRule (arg_by_id c (codes "boxes"))
  rows : IsNumberRule MOST_ROWS (arg_by_id c (codes "number"))
  json : IsFlagRule (arg_by_id c (codes "json"))
  exact : IsFlagRule (arg_by_id c (codes "exact"))
  share : IsFlagRule (arg_by_id c (codes "share"))
  over : IsCountRule MOST_HUNDREDTHS (arg_by_id c (codes "fail-over"))
  strict : IsFlagRule (arg_by_id c (codes "strict"))
  quiet : IsFlagRule (arg_by_id c (codes "quiet"))
  page : IsFlagRule (arg_by_id c (codes "page"))
  svg : IsFlagRule (arg_by_id c (codes "svg"))
  below : IsFlagRule (arg_by_id c (codes "root-below"))
  least : IsCountRule GREATEST_COUNT (arg_by_id c (codes "least"))

module _ (s : Shape) (known : KnowsArguments s.rules) (once : s.args_override_self ≡ false) (words : List Text)
    (fault : level_fault s [] nothing_held words false [] ≡ []) where
  abbrev rows : List Row
  rows = rows_after s.rules [] words

  each_row : Each (IsRow s.rules) rows
  each_row = (level_holds s [] known.firsts once words false [] fault).2

  checked : check_fault s rows false ≡ []
  checked = (level_holds s [] known.firsts once words false [] fault).3

  reads_command : (bytes_eq s.name (codes "types") ≡ false → bytes_eq s.name (codes "live") ≡ false → bytes_eq s.name (codes "svg") ≡ false → IsSome (view_of s.name rows))
      → (compares s.name ≡ true → length (files_of rows) ≡ 2)
      → (is_set (codes "page") rows ≡ true → IfSome (view_of s.name rows) IsDrawn)
      → (is_set (codes "svg") rows ≡ true → IfSome (view_of s.name rows) IsDrawn)
      → (bytes_eq s.name (codes "types") ≡ true → length (files_of rows) ≡ 1) → IsRead s.name rows
  reads_command viewed pair drawn pictured single = record {
    command = viewed;
    width = number_at_id s.rules rows each_row (codes "width") MAX_WIDTH known.width;
    ring = number_at_id s.rules rows each_row (codes "ring") LARGEST_RING known.ring;
    every = number_at_id s.rules rows each_row (codes "every") MOST_BETWEEN_SNAPSHOTS known.every;
    lines = flag_at_id s.rules rows each_row (codes "lines") known.lines;
    boxes = flag_at_id s.rules rows each_row (codes "boxes") known.boxes;
    rows = number_at_id s.rules rows each_row (codes "number") MOST_ROWS known.rows;
    json = flag_at_id s.rules rows each_row (codes "json") known.json;
    exact = flag_at_id s.rules rows each_row (codes "exact") known.exact;
    share = flag_at_id s.rules rows each_row (codes "share") known.share;
    over = count_at_id s.rules rows each_row (codes "fail-over") MOST_HUNDREDTHS known.over;
    strict = flag_at_id s.rules rows each_row (codes "strict") known.strict;
    quiet = flag_at_id s.rules rows each_row (codes "quiet") known.quiet;
    page = flag_at_id s.rules rows each_row (codes "page") known.page;
    svg = flag_at_id s.rules rows each_row (codes "svg") known.svg;
    below = flag_at_id s.rules rows each_row (codes "root-below") known.below;
    least = count_at_id s.rules rows each_row (codes "least") GREATEST_COUNT known.least;
    pair = pair;
    drawn = drawn;
    pictured = pictured;
    single = single;
  }

  -- a command that has no page or no picture asks for none
  draws_none : (id : Text) (P : Type 0) → arg_by_id s.rules id ≡ None → is_set id rows ≡ true → P
  draws_none id P unknown set = absurd (true≢false (sym set ∙ unset_at_id s.rules rows each_row id unknown))

-- what is known of a command of the built command line, `help` aside
abbrev ReadsCommand : Shape → Type 0
ReadsCommand s = (s.aliases ≡ []) × ((words : List Text) → bytes_eq s.name (codes "help") ≡ false
    → level_fault s [] nothing_held words false [] ≡ [] → IsRead s.name (rows_after s.rules [] words))

abbrev built_line : App
built_line = built command_line

abbrev no_shape : Shape
no_shape = new_shape []

abbrev built_fold : Shape
built_fold = slice_index_or built_line.subs 0 no_shape

abbrev built_graph : Shape
built_graph = slice_index_or built_line.subs 1 no_shape

abbrev built_chart : Shape
built_chart = slice_index_or built_line.subs 2 no_shape

abbrev built_svg : Shape
built_svg = slice_index_or built_line.subs 3 no_shape

abbrev built_live : Shape
built_live = slice_index_or built_line.subs 4 no_shape

abbrev built_compare : Shape
built_compare = slice_index_or built_line.subs 5 no_shape

abbrev built_top : Shape
built_top = slice_index_or built_line.subs 6 no_shape

abbrev built_diff : Shape
built_diff = slice_index_or built_line.subs 7 no_shape

abbrev built_callers : Shape
built_callers = slice_index_or built_line.subs 8 no_shape

abbrev built_callees : Shape
built_callees = slice_index_or built_line.subs 9 no_shape

abbrev built_peek : Shape
built_peek = slice_index_or built_line.subs 10 no_shape

abbrev built_types : Shape
built_types = slice_index_or built_line.subs 11 no_shape

fold_known : KnowsArguments built_fold.rules
fold_known = search rules

graph_known : KnowsArguments built_graph.rules
graph_known = search rules

chart_known : KnowsArguments built_chart.rules
chart_known = search rules

svg_known : KnowsArguments built_svg.rules
svg_known = search rules

live_known : KnowsArguments built_live.rules
live_known = search rules

compare_known : KnowsArguments built_compare.rules
compare_known = search rules

top_known : KnowsArguments built_top.rules
top_known = search rules

diff_known : KnowsArguments built_diff.rules
diff_known = search rules

callers_known : KnowsArguments built_callers.rules
callers_known = search rules

callees_known : KnowsArguments built_callees.rules
callees_known = callers_known

peek_known : KnowsArguments built_peek.rules
peek_known = callers_known

types_known : KnowsArguments built_types.rules
types_known = search rules

-- the name is another, by a byte that differs
not_named : (P : Type 0) → false ≡ true → P
not_named P same = absurd (true≢false (sym same))

fold_reads : ReadsCommand built_fold
fold_reads = (
  refl,
  λ words other fault. reads_command built_fold fold_known refl words fault (λ _ _ _. refl) (not_named _)
      (draws_none built_fold fold_known refl words fault (codes "page") _ refl) (draws_none built_fold fold_known refl words fault (codes "svg") _ refl) (not_named _),
)

graph_reads : ReadsCommand built_graph
graph_reads = (
  refl,
  λ words other fault. reads_command built_graph graph_known refl words fault (λ _ _ _. refl) (not_named _)
      (λ _. tt) (λ _. tt) (not_named _),
)

chart_reads : ReadsCommand built_chart
chart_reads = (
  refl,
  λ words other fault. reads_command built_chart chart_known refl words fault (λ _ _ _. refl) (not_named _)
      (λ _. tt) (λ _. tt) (not_named _),
)

svg_reads : ReadsCommand built_svg
svg_reads = (
  refl,
  λ words other fault. reads_command built_svg svg_known refl words fault (λ _ _ e. absurd (true≢false e)) (not_named _)
      (draws_none built_svg svg_known refl words fault (codes "page") _ refl) (draws_none built_svg svg_known refl words fault (codes "svg") _ refl) (not_named _),
)

live_reads : ReadsCommand built_live
live_reads = (
  refl,
  λ words other fault. reads_command built_live live_known refl words fault (λ _ e _. absurd (true≢false e)) (not_named _)
      (λ _. tt) (λ _. tt) (not_named _),
)

top_reads : ReadsCommand built_top
top_reads = (
  refl,
  λ words other fault. reads_command built_top top_known refl words fault (λ _ _ _. refl) (not_named _)
      (draws_none built_top top_known refl words fault (codes "page") _ refl) (draws_none built_top top_known refl words fault (codes "svg") _ refl) (not_named _),
)

callers_reads : ReadsCommand built_callers
callers_reads = (
  refl,
  λ words other fault. reads_command built_callers callers_known refl words fault (λ _ _ _. refl) (not_named _)
      (draws_none built_callers callers_known refl words fault (codes "page") _ refl) (draws_none built_callers callers_known refl words fault (codes "svg") _ refl) (not_named _),
)

callees_reads : ReadsCommand built_callees
callees_reads = (
  refl,
  λ words other fault. reads_command built_callees callees_known refl words fault (λ _ _ _. refl) (not_named _)
      (draws_none built_callees callees_known refl words fault (codes "page") _ refl) (draws_none built_callees callees_known refl words fault (codes "svg") _ refl) (not_named _),
)

peek_reads : ReadsCommand built_peek
peek_reads = (
  refl,
  λ words other fault. reads_command built_peek peek_known refl words fault (λ _ _ _. refl) (not_named _)
      (draws_none built_peek peek_known refl words fault (codes "page") _ refl) (draws_none built_peek peek_known refl words fault (codes "svg") _ refl) (not_named _),
)

both_given : (before after : Bool) → (not before || (not after || false)) ≡ false → (before ≡ true) × (after ≡ true)
both_given true true e = (refl, refl)
both_given true false e = absurd (true≢false e)
both_given false after e = absurd (true≢false e)

compared_is_drawn : (entries : List Row) → (is_set (codes "page") entries || is_set (codes "svg") entries) ≡ true → IsDrawn (compared_view entries)
compared_is_drawn entries set = go (is_set (codes "boxes") entries) (is_set (codes "page") entries || is_set (codes "svg") entries) set
  where
    go : (boxes drawn : Bool) → drawn ≡ true → IsDrawn (cond (boxes || drawn) (PairBoxes (width_of entries)) Pairs)
    go true drawn e = tt
    go false true e = tt
    go false false e = absurd (true≢false (sym e))

page_is_drawn : (entries : List Row) → is_set (codes "page") entries ≡ true → IsDrawn (compared_view entries)
page_is_drawn entries set = compared_is_drawn entries (rw set refl)

picture_is_drawn : (entries : List Row) → is_set (codes "svg") entries ≡ true → IsDrawn (compared_view entries)
picture_is_drawn entries set = compared_is_drawn entries (either (is_set (codes "page") entries) (is_set (codes "svg") entries) set)
  where
    either : (page svg : Bool) → svg ≡ true → (page || svg) ≡ true
    either true svg e = refl
    either false svg e = e

compare_reads : ReadsCommand built_compare
compare_reads = (
  refl,
  λ words other fault. reads_command built_compare compare_known refl words fault (λ _ _ _. refl) (λ _. two words fault)
      (page_is_drawn (rows_after built_compare.rules [] words)) (picture_is_drawn (rows_after built_compare.rules [] words)) (not_named _),
)
  where
    two : (words : List Text) → level_fault built_compare [] nothing_held words false [] ≡ [] → length (files_of (rows_after built_compare.rules [] words)) ≡ 2
    two words fault =
        let found = rows_after built_compare.rules [] words in
        let each = each_row built_compare compare_known refl words fault in
        let wants = not (is_given (codes "before") found) || (not (is_given (codes "after") found) || false) in
        let given = both_given (is_given (codes "before") found) (is_given (codes "after") found)
        (checks_pass false false wants (checked built_compare compare_known refl words fault)).1 in
        pair_at built_compare.rules found each _ _ refl refl (refl, refl, refl, refl) given.0 refl (refl, refl, refl, refl) given.1

diff_reads : ReadsCommand built_diff
diff_reads = (
  refl,
  λ words other fault. reads_command built_diff diff_known refl words fault (λ _ _ _. refl) (λ _. two words fault)
      (draws_none built_diff diff_known refl words fault (codes "page") _ refl) (draws_none built_diff diff_known refl words fault (codes "svg") _ refl) (not_named _),
)
  where
    two : (words : List Text) → level_fault built_diff [] nothing_held words false [] ≡ [] → length (files_of (rows_after built_diff.rules [] words)) ≡ 2
    two words fault =
        let found = rows_after built_diff.rules [] words in
        let each = each_row built_diff diff_known refl words fault in
        let wants = not (is_given (codes "before") found) || (not (is_given (codes "after") found) || false) in
        let given = both_given (is_given (codes "before") found) (is_given (codes "after") found)
        (checks_pass false false wants (checked built_diff diff_known refl words fault)).1 in
        pair_at built_diff.rules found each _ _ refl refl (refl, refl, refl, refl) given.0 refl (refl, refl, refl, refl) given.1

one_given : (given : Bool) → (not given || false) ≡ false → given ≡ true
one_given true e = refl
one_given false e = absurd (true≢false e)

types_reads : ReadsCommand built_types
types_reads = (
  refl,
  λ words other fault. reads_command built_types types_known refl words fault (λ e _ _. absurd (true≢false e)) (not_named _)
      (draws_none built_types types_known refl words fault (codes "page") _ refl) (draws_none built_types types_known refl words fault (codes "svg") _ refl) (λ _. one words fault),
)
  where
    one : (words : List Text) → level_fault built_types [] nothing_held words false [] ≡ [] → length (files_of (rows_after built_types.rules [] words)) ≡ 1
    one words fault =
        let found = rows_after built_types.rules [] words in
        let each = each_row built_types types_known refl words fault in
        let wants = not (is_given (codes "file") found) || false in
        let given = one_given (is_given (codes "file") found) (checks_pass false false wants (checked built_types types_known refl words fault)).1 in
        single_at built_types.rules found each _ refl (refl, refl, refl, refl) given refl refl

help_reads : ReadsCommand (slice_index_or built_line.subs 12 no_shape)
help_reads = (refl, λ words other fault. absurd (true≢false other))

commands_read : Each ReadsCommand built_line.subs
commands_read = (fold_reads, (graph_reads, (chart_reads, (svg_reads, (live_reads, (compare_reads, (top_reads, (diff_reads, (callers_reads, (callees_reads, (peek_reads, (types_reads, (help_reads, tt)))))))))))))

-- ---- the command line

own_name : (b : Bool) → (b || false) ≡ true → b ≡ true
own_name true e = refl
own_name false e = e

module _ (words : List Text) (fault : fault_of command_line words ≡ []) where
  abbrev stop : Option (Text × List Text)
  stop = (walk built_line.top.rules (names_of built_line) nothing_held words).stopped

  level : (walk_fault built_line.top (names_of built_line) (walk_from nothing_held) words ≡ []) × (entered_fault built_line stop ≡ [])
      × Each (IsRow built_line.top.rules) (rows_after built_line.top.rules (names_of built_line) words)
      × (check_fault built_line.top (rows_after built_line.top.rules (names_of built_line) words) (is_some (entered built_line stop)) ≡ [])
  level = level_holds built_line.top (names_of built_line) (refl, (refl, tt)) refl words (is_some (entered built_line stop)) (entered_fault built_line stop) fault

  -- a command is entered
  pub enters : is_some (subcommand_of command_line words) ≡ true
  enters = go (is_some (entered built_line stop)) level.3
    where
      go : (has : Bool) → check_fault built_line.top (rows_after built_line.top.rules (names_of built_line) words) has ≡ [] → has ≡ true
      go true none = refl
      go false none = cc

  -- and its entries are read as they are meant
  pub reads : (name : Text) (entries : List Row) → subcommand_of command_line words ≡ Some (name, entries) → IsRead name entries
  reads name entries met = of_stop stop (walk_elsewhere built_line.top (names_of built_line) refl words (walk_from nothing_held) level.0 tt) level.1 met
    where
      of_command : (p : Text × List Text) (s : Shape) → find (λ s. answers_to p.0 (label_of s)) built_line.subs ≡ Some s
          → bytes_eq p.0 (codes "help") ≡ false → level_fault s [] nothing_held p.1 false [] ≡ [] → IsRead s.name (rows_after s.rules [] p.1)
      of_command p s found elsewhere none =
          let known = found_each ReadsCommand (λ s. answers_to p.0 (label_of s)) built_line.subs s commands_read found in
          let named : bytes_eq s.name p.0 ≡ true = own_name (bytes_eq s.name p.0) (ap (λ aliases. bytes_eq s.name p.0 || list_any (λ alias. bytes_eq alias p.0) aliases) (sym known.0.0) ∙ known.1) in
          let same : s.name ≡ p.0 = (bytes_eq-Decides s.name p.0).0 named in
          known.0.1 p.1 (ap (λ n. bytes_eq n (codes "help")) same ∙ elsewhere) none

      of_found : (p : Text × List Text) (found : Option Shape) → find (λ s. answers_to p.0 (label_of s)) built_line.subs ≡ found
          → bytes_eq p.0 (codes "help") ≡ false → option_map_or (λ s. level_fault s [] nothing_held p.1 false []) found [] ≡ []
          → option_map (λ s. rows_at s p.1) found ≡ Some (name, entries) → IsRead name entries
      of_found p None is elsewhere none at = cc
      of_found p (Some s) is elsewhere none at =
          let same : rows_at s p.1 ≡ (name, entries) = ap (λ (o : Option (Text × List Row)). unwrap_or o (name, entries)) at in
          subst (λ (q : Text × List Row). IsRead q.0 q.1) same (of_command p s is elsewhere none)

      of_stop : (stopped : Option (Text × List Text)) → IsElsewhere stopped → entered_fault built_line stopped ≡ []
          → entered built_line stopped ≡ Some (name, entries) → IsRead name entries
      of_stop None elsewhere none at = cc
      of_stop (Some p) elsewhere none at = of_found p (find (λ s. answers_to p.0 (label_of s)) built_line.subs) refl elsewhere none at
