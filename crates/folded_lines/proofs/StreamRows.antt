-- What a reader of a stream gives before and behind its ending.
use Rattle.std.proofs.Common.{◌≡◌, ◌<◌, ◌≤◌, ◌^◌, ℕ, Bool, true, false, cond, Option, Some, None, IsSome, Result, Ok, Err, OnErr, List, [], ◌∷◌, length, refl, sym, ap, subst, ◌∙◌, arith}
use Rattle.sample_tables.specs.Rows.{ToldRows}
use Rattle.stack_core.specs.Reading.{Rest}
use Rattle.stack_core.specs.RowReading.{GivesSome, GivesSuch, IsLastStep, StepsAmong, StepsByRows}
use Rattle.stack_core.specs.declared.endings.ReadKind.TheVariants.{Compressed}
use Rattle.stack_core.specs.declared.endings.SourceEnd.{SourceEnd}
use Rattle.stack_core.specs.declared.readers.RowStep.{RowStep}
use Rattle.stack_core.specs.declared.readers.RowStep.TheVariants as step
use Rattle.folded_lines.specs.Lines.{read_line, text_lines}
use Rattle.folded_lines.specs.Reading.{cut_short, is_ignored}
use Rattle.folded_lines.specs.StrictStreams.{up_to_ignored}
use Rattle.folded_lines.specs.declared.cursor.Cursor.{Cursor}
use Rattle.folded_lines.specs.declared.stream_lines.StreamLines.{StreamLines}
use Rattle.folded_lines.specs.checked.Scanning.{ended, scan}
use Rattle.folded_lines.specs.checked.StreamPlaces.{GivesAt, GivesBehind, GivesBy, IsStreamPlace, ending_of}
use Rattle.folded_lines.specs.checked.StreamReading.{is_compressed_at, is_cut, lines_read, rest_of_bytes, rest_up_to}
use Rattle.folded_lines.proofs.LimitLemmas.{scan-short}
use Rattle.folded_lines.proofs.StreamSteps.{possible_at}

-- no more lines are read than there are
pub few_up_to_ignored : (lines : List (List ℕ)) → length (up_to_ignored lines) ≤ length lines
few_up_to_ignored [] = omega arith
few_up_to_ignored (line ∷ lines) = by (is_ignored (read_line line)) (few_up_to_ignored lines)
  where
    by : (here : Bool) → length (up_to_ignored lines) ≤ length lines → length (line ∷ cond here [] (up_to_ignored lines)) ≤ length (line ∷ lines)
    by true few = omega arith
    by false few = omega (arith, few)

few_read : (is_strict : Bool) (lines : List (List ℕ)) → length (lines_read is_strict lines) ≤ length lines
few_read false lines = omega arith
few_read true lines = few_up_to_ignored lines

-- no more samples than lines
few_bytes : (is_strict : Bool) (counts : Cursor) (bytes : List ℕ) (test : Bool)
    → length (cond test (cut_short [] Compressed) (scan counts.taken counts.ignored counts.total (lines_read is_strict (text_lines bytes)))).samples ≤ length (text_lines bytes)
few_bytes is_strict counts bytes true = omega arith
few_bytes is_strict counts bytes false =
    omega (arith, scan-short (lines_read is_strict (text_lines bytes)) counts.taken counts.ignored counts.total, few_read is_strict (text_lines bytes))

few_up_to : (fails : Bool) (before : ℕ) (rest : Rest) → (rest_up_to fails before rest).samples ≡ rest.samples
few_up_to true before rest = refl
few_up_to false before rest = refl

module _ {I : Type 0} (known : Option (List ℕ)) (is_sure : Bool) (lines : StreamLines I) (counts : Cursor) where
  pub few_by : (at_end : Option SourceEnd) (rest : Rest) → GivesBy known is_sure lines counts at_end rest → length rest.samples < 2 ^ 64
  few_by None rest given =
      let bytes = given.0.bytes in
      let is_strict = lines.is_strict in
      let same : rest.samples ≡ (rest_of_bytes is_strict counts bytes).samples =
      ap (λ (r : Rest). r.samples) given.3 ∙ few_up_to (is_cut is_strict given.0.fails (text_lines bytes)) _ (rest_of_bytes is_strict counts bytes) in
      omega (arith, given.2, ap length same, few_bytes is_strict counts bytes (is_compressed_at counts bytes))
  few_by (Some ending) rest given = omega (arith, ap (λ (r : Rest). length r.samples) given)

  pub possible_by : (at_end : Option SourceEnd) → IsStreamPlace known is_sure lines counts → GivesSome (GivesBy known is_sure lines counts at_end)
  possible_by None place = possible_at known is_sure lines counts place
  possible_by (Some ending) place = record { rest = ended ending; is_given = refl }

  behind_by : (step : RowStep) (rest : Rest) → GivesBy known is_sure lines counts (ending_of step) rest → GivesBehind step (GivesAt known is_sure lines counts) rest
  behind_by (step.New names frames weight) rest given = given
  behind_by (step.Again row weight) rest given = given
  behind_by (step.End ending) rest given = given

  module _ (known' : Option (List ℕ)) (is_sure' : Bool) (lines' : StreamLines I) (counts' : Cursor) where
    -- want of memory
    pub refused_by : (at_end : Option SourceEnd) → ((rest : Rest) → GivesAt known' is_sure' lines' counts' rest → GivesAt known is_sure lines counts rest)
        → (rest : Rest) → GivesBy known' is_sure' lines' counts' at_end rest → GivesBy known is_sure lines counts at_end rest
    refused_by None refused rest given = refused rest given
    refused_by (Some ending) refused rest given = given

-- a step before the ending was answered
module _ {I : Type 0} (known known' : Option (List ℕ)) (is_sure is_sure' : Bool) (lines lines' : StreamLines I) (counts counts' : Cursor) (told told' : ToldRows) (step : RowStep) where
  pub step_by : (at_end at_end' : Option SourceEnd) → at_end ≡ None → at_end' ≡ ending_of step
      → StepsAmong (GivesAt known is_sure lines counts) (GivesBehind step (GivesAt known' is_sure' lines' counts')) told step told'
      → StepsAmong (GivesBy known is_sure lines counts at_end) (GivesBy known' is_sure' lines' counts' at_end') told step told'
  step_by at_end at_end' none is steps after given =
      let behind = behind_by known' is_sure' lines' counts' step after (subst (λ e. GivesBy known' is_sure' lines' counts' e after) is given) in
      subst (λ e. GivesSuch (GivesBy known is_sure lines counts e) (λ before. StepsByRows told before step told' after)) (sym none) (steps after behind)

pub last_by : (step : RowStep) → IsLastStep step → IsSome (ending_of step)
last_by (step.New names frames weight) last = absurd last
last_by (step.Again row weight) last = absurd last
last_by (step.End ending) last = refl

pub on_err : {T E : Type 0} (P : Type 0) (result : Result T E) → P → OnErr result P
on_err P (Ok value) holds = tt
on_err P (Err fault) holds = holds

-- ---- a stream that may give one rest

module _ {gives gives' : Rest → Type 0} {rest rest' : Rest} (no_other : (other : Rest) → gives other → other ≡ rest) (given : gives' rest') where
  pub among_known : (told told' : ToldRows) (step : RowStep) → StepsAmong gives gives' told step told' → StepsAmong (λ r. r ≡ rest) (λ r. r ≡ rest') told step told'
  among_known told told' step among after is =
      let before = among after (subst gives' (sym is) given) in
      record { rest = before.rest; is_given = no_other before.rest before.is_given; holds = before.holds }

  pub refused_known : ((r : Rest) → gives' r → gives r) → (r : Rest) → r ≡ rest' → r ≡ rest
  refused_known kept r is = no_other r (kept r (subst gives' (sym is) given))
