-- How far the telling of a reader's samples is.
use Rattle.std.proofs.Common.{zero, suc, ◌≡◌, ◌≢◌, ℕ, ◌+◌, ◌<◌, ◌≤◌, ◌^◌, ◌⊎◌, inl, inr, List, [], ◌∷◌, ◌++◌, length, map, take, refl, sym, ap, subst, ◌∙◌, arith, append-nil, append_assoc, length-append}
use Rattle.std.proofs.lemmas.List.{map-append}
use Rattle.std.proofs.Math.Seq.{take-append_seam}
use Rattle.stack_core.specs.Reading.{Rest}
use Rattle.sample_tables.specs.Rows.{ToldRows}
use Rattle.stack_core.specs.Records.{names_told, stands_for, IsWellTold}
use Rattle.stack_core.specs.Told.{IsToldUnder, Whole, StoppedAt, ShortOfMemory, told}
use Rattle.sample_tables.specs.declared.samples.Sample.{Sample}
use Rattle.stack_core.specs.declared.endings.SourceEnd.{SourceEnd}
use Rattle.stack_core.specs.declared.endings.Close.TheVariants as close
use Rattle.stack_core.specs.declared.endings.Item.TheVariants as item
use Rattle.stack_core.specs.declared.records.RingRecord.{RingRecord}
use Rattle.stack_core.specs.declared.endings.SourceEnd.TheVariants as ending
use Rattle.stack_core.specs.declared.endings.Close.{Close}
use Rattle.stack_core.proofs.ToldLemmas.{same_told}
use Rattle.ring_collect.specs.NamesInOrder.{names_in_order, with_stack}
use Rattle.ring_collect.specs.checked.Tellers.{AreNamesOf, Tells, TellsOne, Closes, told_by, Ended, Stopped, ShortOfMemory as Short}
use Rattle.ring_collect.proofs.NameOrder.{names_in_order_push}

short≢read : (ending : SourceEnd) → close.NoMemory ≢ close.Read ending
short≢read ending e = cc

-- of the whole rest, the samples before those of the rest now are told, and the gate let each of them go
pub record ToldSoFar (may_go : ℕ → ℕ → Type 0) (source : ℕ) (whole now : Rest) (index : ℕ) (by_reader : ToldRows) (records : List RingRecord) : Type 0 where
  pub front : List Sample
  pub samples : whole.samples ≡ front ++ now.samples
  pub ending : now.ending ≡ whole.ending
  pub count : length front ≡ index
  pub few : 0 < index → length whole.samples < 2 ^ 64
  pub went : (k : ℕ) → k < index → may_go source k
  pub stands : stands_for records ≡ map item.Sample front
  pub well_told : IsWellTold records
  pub rows : by_reader ≡ told_by records
  pub in_order : names_told records ≡ names_in_order front

module _ {may_go : ℕ → ℕ → Type 0} {source : ℕ} {whole : Rest} where
  pub nothing_told : ToldSoFar may_go source whole whole 0 (record { names = []; stacks = [] }) []
  nothing_told = record {
    front = [];
    samples = refl;
    ending = refl;
    count = refl;
    few = λ h. absurd (omega arith);
    went = λ k h. absurd (omega arith);
    stands = refl;
    well_told = tt;
    rows = refl;
    in_order = refl;
  }

  module _ {now : Rest} {index : ℕ} {by_reader : ToldRows} {records : List RingRecord} (so_far : ToldSoFar may_go source whole now index by_reader records) where
    nil_of_length : {A : Type 0} (xs : List A) → length xs ≡ 0 → xs ≡ []
    nil_of_length [] e = refl
    nil_of_length (x ∷ xs) e = absurd (omega (arith, e))

    -- the samples are fewer than 2^64 from the first that is told on
    whole_few : length now.samples < 2 ^ 64 → length whole.samples < 2 ^ 64
    whole_few few = at index refl
      where
        at : (i : ℕ) → i ≡ index → length whole.samples < 2 ^ 64
        at zero e = subst (λ n. n < 2 ^ 64) (sym (ap length (so_far.samples ∙ ap (λ front. front ++ now.samples) (nil_of_length so_far.front (so_far.count ∙ sym e))))) few
        at (suc i) e = so_far.few (omega (arith, e))

    pub below : (sample : Sample) (later : List Sample) → now.samples ≡ sample ∷ later → length now.samples < 2 ^ 64 → index + 1 < 2 ^ 64
    below sample later next few =
        let all = whole_few few in
        let lengths : length whole.samples ≡ length so_far.front + length now.samples = ap length so_far.samples ∙ length-append so_far.front now.samples in
        let one : length now.samples ≡ suc (length later) = ap length next in
        let count = so_far.count in
        omega arith

    -- the next sample goes, and is told
    pub one_more : {later : Rest} {by_reader' : ToldRows} {records' : List RingRecord} → length now.samples < 2 ^ 64 → TellsOne may_go source index now later by_reader' records records'
        → ToldSoFar may_go source whole later (index + 1) by_reader' records'
    one_more {later} few one = record {
      front = so_far.front ++ one.sample ∷ [];
      samples = so_far.samples ∙ ap (λ rest. so_far.front ++ rest) one.first ∙ sym (append_assoc so_far.front (one.sample ∷ []) later.samples);
      ending = one.ending ∙ so_far.ending;
      count = length-append so_far.front (one.sample ∷ []) ∙ ap (λ n. n + 1) so_far.count;
      few = λ _. whole_few few;
      went = λ k below_next. elim (last_or_before k index below_next) [ inl e ↦ subst (may_go source) (sym e) one.goes | inr before ↦ so_far.went k before ];
      stands = one.tells.stands ∙ ap (λ items. items ++ item.Sample one.sample ∷ []) so_far.stands ∙ sym (map-append item.Sample so_far.front (one.sample ∷ []));
      well_told = one.tells.well_told so_far.well_told;
      rows = one.rows;
      in_order = one.told ∙ ap (λ names. with_stack names one.sample.stack) so_far.in_order ∙ sym (names_in_order_push so_far.front one.sample);
    }
      where
        last_or_before : (k n : ℕ) → k < n + 1 → (k ≡ n) ⊎ (k < n)
        last_or_before k n lt = grind arith

    pub next_index : {later : Rest} {by_reader' : ToldRows} {records' : List RingRecord} → length now.samples < 2 ^ 64 → TellsOne may_go source index now later by_reader' records records' → index + 1 < 2 ^ 64
    next_index {later} few one = below one.sample later.samples one.first few

    front_is : take index whole.samples ≡ so_far.front
    front_is = ap (take index) so_far.samples ∙ ap (λ n. take n (so_far.front ++ now.samples)) (sym so_far.count) ∙ take-append_seam so_far.front now.samples

    within : index ≤ length whole.samples
    within = let lengths = ap length so_far.samples ∙ length-append so_far.front now.samples in let count = so_far.count in omega arith

    pub told_whole : (may_stop : ℕ → ℕ → Type 0) (ending : SourceEnd) → now.samples ≡ [] → now.ending ≡ ending → IsToldUnder may_stop may_go source whole (stands_for records ++ item.Close (close.Read ending) ∷ [])
    told_whole may_stop ending none is =
        let all : whole.samples ≡ so_far.front = so_far.samples ∙ ap (λ rest. so_far.front ++ rest) none ∙ append-nil so_far.front in
        Whole (λ k below_all. so_far.went k (let lengths = ap length all in let count = so_far.count in omega arith))
        (ap (λ items. items ++ item.Close (close.Read ending) ∷ []) (so_far.stands ∙ ap (map item.Sample) (sym all))
        ∙ ap (λ e. told whole.samples (close.Read e)) (sym is ∙ so_far.ending))

    pub told_stopped : (may_stop : ℕ → ℕ → Type 0) (sample : Sample) (later : List Sample) → now.samples ≡ sample ∷ later → may_stop source index
        → IsToldUnder may_stop may_go source whole (stands_for records ++ item.Close (close.Read (ending.Stopped index)) ∷ [])
    told_stopped may_stop sample later next stops =
        let lengths = ap length so_far.samples ∙ length-append so_far.front now.samples in
        let one : length now.samples ≡ suc (length later) = ap length next in
        let count = so_far.count in
        StoppedAt index (omega arith) stops so_far.went
        (ap (λ items. items ++ item.Close (close.Read (ending.Stopped index)) ∷ []) (so_far.stands ∙ ap (map item.Sample) (sym front_is)))

    along : {may_stop : ℕ → ℕ → Type 0} {records' : List RingRecord} {last last' : Close} → records' ≡ records → last ≡ last'
        → IsToldUnder may_stop may_go source whole (stands_for records ++ item.Close last' ∷ []) → IsToldUnder may_stop may_go source whole (stands_for records' ++ item.Close last ∷ [])
    along {may_stop} {records'} {last} {last'} same is h = subst (IsToldUnder may_stop may_go source whole) (ap (λ rs. stands_for rs ++ item.Close last' ∷ []) (sym same) ∙ ap (λ c. stands_for records' ++ item.Close c ∷ []) (sym is)) h

    pub told_short : (may_stop : ℕ → ℕ → Type 0) {records' : List RingRecord} → Tells [] records records' → IsToldUnder may_stop may_go source whole (stands_for records' ++ item.Close close.NoMemory ∷ [])
    told_short may_stop tells =
        ShortOfMemory index within so_far.went
        (ap (λ items. items ++ item.Close close.NoMemory ∷ []) (tells.stands ∙ append-nil (stands_for records) ∙ so_far.stands ∙ ap (map item.Sample) (sym front_is)))

    -- after the close all is told that was to be told
    pub closed : (may_stop : ℕ → ℕ → Type 0) {records' : List RingRecord} {last : Close} → Closes may_stop source index now records records' last
        → IsToldUnder may_stop may_go source whole (stands_for records' ++ item.Close last ∷ [])
    closed may_stop (Ended none is same) = along same is (told_whole may_stop now.ending none refl)
    closed may_stop (Stopped sample later next stops is same) = along same is (told_stopped may_stop sample later next stops)
    closed may_stop {records'} (Short is tells) = subst (λ last. IsToldUnder may_stop may_go source whole (stands_for records' ++ item.Close last ∷ [])) (sym is) (told_short may_stop tells)

    pub closed_well : (may_stop : ℕ → ℕ → Type 0) {records' : List RingRecord} {last : Close} → Closes may_stop source index now records records' last → IsWellTold records'
    closed_well may_stop (Ended none is same) = subst IsWellTold (sym same) so_far.well_told
    closed_well may_stop (Stopped sample later next stops is same) = subst IsWellTold (sym same) so_far.well_told
    closed_well may_stop (Short is tells) = tells.well_told so_far.well_told

    -- so far the names are those of the samples, in order
    names_so_far : (last : Close) → AreNamesOf (stands_for records ++ item.Close last ∷ []) (names_told records)
    names_so_far last samples ending is =
        so_far.in_order ∙ ap names_in_order (same_told so_far.front samples last (close.Read ending) (ap (λ items. items ++ item.Close last ∷ []) (sym so_far.stands) ∙ is)).0

    -- want of memory is no ending
    none_read : {records' : List RingRecord} → Tells [] records records' → AreNamesOf (stands_for records' ++ item.Close close.NoMemory ∷ []) (names_told records')
    none_read tells samples ending is =
        let stands = tells.stands ∙ append-nil (stands_for records) ∙ so_far.stands in
        absurd (short≢read ending (same_told so_far.front samples close.NoMemory (close.Read ending) (ap (λ items. items ++ item.Close close.NoMemory ∷ []) (sym stands) ∙ is)).1)

    pub closed_names : (may_stop : ℕ → ℕ → Type 0) {records' : List RingRecord} {last : Close} → Closes may_stop source index now records records' last
        → AreNamesOf (stands_for records' ++ item.Close last ∷ []) (names_told records')
    closed_names may_stop {last = last} (Ended none is same) = subst (λ rs. AreNamesOf (stands_for rs ++ item.Close last ∷ []) (names_told rs)) (sym same) (names_so_far last)
    closed_names may_stop {last = last} (Stopped sample later next stops is same) = subst (λ rs. AreNamesOf (stands_for rs ++ item.Close last ∷ []) (names_told rs)) (sym same) (names_so_far last)
    closed_names may_stop {records'} (Short is tells) = subst (λ last. AreNamesOf (stands_for records' ++ item.Close last ∷ []) (names_told records')) (sym is) (none_read tells)
