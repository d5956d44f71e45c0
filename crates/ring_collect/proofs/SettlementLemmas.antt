-- A source at its end.
use Rattle.std.proofs.Common.{◌≡◌, ◌≢◌, ◌<◌, ◌+◌, ◌⊎◌, inl, inr, IfSome, IfNone, IsSome, true≢false, length-append, ℕ, Bool, List, [], ◌∷◌, ◌++◌, length, map, take, drop, refl, sym, ap, subst, ◌∙◌, arith, append-nil, append_assoc, Option, Some, None}
use Rattle.std.proofs.lemmas.List.{length-take-le, map_push, nil_from_length, take-append-drop}
use Rattle.std.proofs.lemmas.List.Elements.{Contains-append_right}
use Rattle.std.specs.Arc.{arc_value}
use Rattle.rtrb.specs.Ring.{received, all_sent}
use Rattle.rtrb.specs.declared.finished.Finished.{Finished}
use Rattle.stack_core.specs.Reading.{Rest}
use Rattle.stack_core.specs.RowReading.{GivesSuch}
use Rattle.stack_core.specs.Ledgers.{LedgerState, ListState}
use Rattle.stack_core.specs.Records.{stands_for, stands_for_after, names_told, stacks_told, IsWellTold}
use Rattle.stack_core.specs.Prefixes.{IsPrefixOf}
use Rattle.stack_core.specs.Told.{GoesBelow, IsToldUnder, Whole, StoppedAt, ShortOfMemory, told}
use Rattle.stack_core.proofs.RecordLemmas.{stands_for-append, stands_for_after-append, IsWellTold-front}
use Rattle.stack_core.proofs.ToldLemmas.{told_under_is_told, same_told, told_list_whole}
use Rattle.sample_tables.specs.declared.samples.Sample.{Sample}
use Rattle.stack_core.specs.declared.endings.SourceEnd.TheVariants as ending
use Rattle.stack_core.specs.declared.endings.Close.{Close}
use Rattle.stack_core.specs.declared.endings.Close.TheVariants as close
use Rattle.stack_core.specs.declared.endings.Item.TheVariants as item
use Rattle.stack_core.specs.declared.records.RingRecord.{RingRecord}
use Rattle.stack_core.specs.declared.records.RingRecord.TheVariants.{Close as CloseRecord}
use Rattle.ring_collect.specs.checked.Batches.{records_of_all}
use Rattle.ring_collect.specs.checked.Intakes.{Tracked}
use Rattle.ring_collect.specs.checked.Tellers.{TellsAll}
use Rattle.ring_collect.specs.checked.Settlement.{AreListsOf, IsSettledAs, IsSettled, AreSettled, IsReceived}
use Rattle.ring_collect.specs.declared.running_sources.RunningSource.{RunningSource}
use Rattle.ring_collect.proofs.BatchLemmas.{records_of_all-append}
use Rattle.ring_collect.specs.declared.batches.Batch.{Batch}
use Rattle.ring_collect.proofs.RunningSourceLemmas.{PushedAt, Earlier, Last, pushed_at}
use Rattle.ring_collect.specs.declared.intakes.Stage.{Stage}
use Rattle.ring_collect.specs.declared.intakes.Stage.TheVariants.{Unnamed}

some≢none : {A : Type 0} {x : A} → Some x ≢ None
some≢none e = cc

prefix_trans : {A : Type 0} (xs ys zs : List A) → IsPrefixOf xs ys → IsPrefixOf ys zs → IsPrefixOf xs zs
prefix_trans xs ys zs first second = (first.0 ++ second.0, sym (append_assoc xs first.0 second.0) ∙ ap (λ front. front ++ second.0) first.1 ∙ second.1)

front_is_prefix : {A : Type 0} (xs ys : List A) (n : ℕ) → xs ≡ take n ys → IsPrefixOf xs ys
front_is_prefix xs ys n is = (drop n ys, ap (λ front. front ++ drop n ys) is ∙ take-append-drop n ys)

-- the beginning of well told records
front_well_told : (records sent : List RingRecord) → IsPrefixOf records sent → IsWellTold sent → IsWellTold records
front_well_told records sent begins well = IsWellTold-front records begins.0 (subst IsWellTold (sym begins.1) well)

-- records that begin what is closed, and behind which nothing stands for an item, are all of it
all_of_closed : (names stacks : List (List ℕ)) (records more front : List RingRecord) (last : Close) → records ++ more ≡ front ++ CloseRecord last ∷ [] → stands_for_after names stacks more ≡ [] → more ≡ []
all_of_closed names stacks [] more front last is none =
    let closes : stands_for_after names stacks front ++ item.Close last ∷ [] ≡ [] = sym (stands_for_after-append names stacks front (CloseRecord last ∷ [])) ∙ ap (stands_for_after names stacks) (sym is) ∙ none in
    let long = length-append (stands_for_after names stacks front) (item.Close last ∷ []) in
    let nothing = ap length closes in
    absurd (omega arith)
all_of_closed names stacks (record' ∷ records) more [] last is none =
    let long = length-append records more in
    let one = ap length is in
    nil_from_length more (omega arith)
all_of_closed names stacks (record' ∷ records) more (first ∷ front) last is none =
    all_of_closed names stacks records more front last (ap (drop 1) is) none

module _ {may_stop may_go : ℕ → ℕ → Type 0} {source : ℕ} {rest : Rest} where
  -- what is told is a beginning of the rest
  pub told_is_prefix : (samples : List Sample) (last : Close) → IsToldUnder may_stop may_go source rest (told samples last) → IsPrefixOf samples rest.samples
  told_is_prefix samples last (Whole went is) = ([], append-nil samples ∙ (same_told samples rest.samples last (close.Read rest.ending) is).0)
  told_is_prefix samples last (StoppedAt i within stops went is) = front_is_prefix samples rest.samples i (same_told samples (take i rest.samples) last (close.Read (ending.Stopped i)) is).0
  told_is_prefix samples last (ShortOfMemory i within went is) = front_is_prefix samples rest.samples i (same_told samples (take i rest.samples) last close.NoMemory is).0

  -- and the gate may go at each of its samples
  told_goes : (samples : List Sample) (last : Close) → IsToldUnder may_stop may_go source rest (told samples last) → GoesBelow may_go source (length samples)
  told_goes samples last (Whole went is) = λ i below.
      went i (let same = ap length (same_told samples rest.samples last (close.Read rest.ending) is).0 in omega arith)
  told_goes samples last (StoppedAt n within stops went is) = λ i below.
      went i (let same = ap length (same_told samples (take n rest.samples) last (close.Read (ending.Stopped n)) is).0 in let cut = length-take-le n rest.samples (omega arith) in omega arith)
  told_goes samples last (ShortOfMemory n within went is) = λ i below.
      went i (let same = ap length (same_told samples (take n rest.samples) last close.NoMemory is).0 in let cut = length-take-le n rest.samples within in omega arith)

  pub settled : {keeps : Bool} {records sent : List RingRecord} {ledger ledger' : LedgerState} {stage : Stage} {list : List Sample} (last : Close)
      → Tracked keeps records (Some last) ledger stage list → IsPrefixOf records sent → TellsAll may_stop may_go source rest sent
      → ledger' ≡ record ledger { close = Some last } → IsSettledAs keeps may_stop may_go source rest stage list ledger'
  settled {records = records} {sent} {ledger} {ledger'} {stage} {list} last tracked begins tells ledger_is =
      let samples = tracked.samples in
      let back = stands_for_after (names_told records) (stacks_told records) begins.0 in
      let well_told : IsWellTold records = front_well_told _ _ begins tells.well_told in
      let split : told samples last ++ back ≡ stands_for sent = ap (λ front. front ++ back) (sym tracked.stands) ∙ sym (stands_for-append records begins.0) ∙ ap stands_for begins.1 in
      let whole = told_list_whole rest (stands_for sent) (told samples last) back last (told_under_is_told may_stop may_go source rest (stands_for sent) tells.is_told) split
      (Contains-append_right (map item.Sample samples) (item.Close last ∷ []) (item.Close last) (0, omega arith, refl)) in
      let is_told = subst (IsToldUnder may_stop may_go source rest) (sym whole.0) tells.is_told in
      let closed = tells.is_closed in
      let no_more = all_of_closed (names_told records) (stacks_told records) records begins.0 closed.0 closed.1 (begins.1 ∙ closed.2) whole.1 in
      let all : records ≡ sent = sym (append-nil records) ∙ ap (λ more. records ++ more) (sym no_more) ∙ begins.1 in
      record {
        taken_or_dropped = λ unnamed. tracked.unnamed unnamed well_told;
        first = prefix_trans list samples rest.samples tracked.first (told_is_prefix samples last is_told);
        goes = λ i below. told_goes samples last is_told i (let shorter = sym (length-append list tracked.first.0) ∙ ap length tracked.first.1 in omega arith);
        whole = λ e.
            let holds = tracked.holds e in
            record {
              last = last;
              closed = ap (λ l. l.close) ledger_is;
              samples = λ kept. ap (λ l. l.samples) ledger_is ∙ holds.ledger_samples kept ∙ sym holds.all_taken;
              is_told = subst (λ xs. IsToldUnder may_stop may_go source rest (told xs last)) (sym holds.all_taken) is_told;
              in_order = λ read ending is.
                  ap (λ l. l.told) ledger_is ∙ holds.told ∙ ap names_told all
                  ∙ tells.in_order read ending (sym whole.0 ∙ ap (λ xs. told xs last) (sym holds.all_taken) ∙ is);
            };
      }

module _ {R G : Type 0} {may_stop may_go : G → ℕ → ℕ → Type 0} {gives : R → Rest → Type 0} where
  -- one more is settled
  pub settled_push : {all : List (RunningSource R G)} {ledgers : List LedgerState} → AreSettled may_stop may_go gives all ledgers → (started : RunningSource R G) (ledger : LedgerState)
      → IsSettled may_stop may_go gives started ledger → AreSettled may_stop may_go gives (all ++ started ∷ []) (ledgers ++ ledger ∷ [])
  settled_push {all} {ledgers} settled started ledger one = record {
    count = length-append ledgers (ledger ∷ []) ∙ ap (λ n. n + 1) settled.count ∙ sym (length-append all (started ∷ []));
    each = λ source s l is_s is_l. by_index source s l (pushed_at all started source s is_s) (pushed_at ledgers ledger source l is_l);
  }
    where
      by_index : (source : ℕ) (s : RunningSource R G) (l : LedgerState) → PushedAt all started source s → PushedAt ledgers ledger source l → IsSettled may_stop may_go gives s l
      by_index source s l (Earlier before is_s) (Earlier before' is_l) = settled.each source s l is_s is_l
      by_index source s l (Earlier before is_s) (Last at is_l) = let e = settled.count in absurd (omega arith)
      by_index source s l (Last at is_s) (Earlier before is_l) = let e = settled.count in absurd (omega arith)
      by_index source s l (Last at is_s) (Last at' is_l) = subst (λ t. IsSettled may_stop may_go gives t l) (sym is_s) (subst (IsSettled may_stop may_go gives started) (sym is_l) one)

-- a row had a number without a name only where what was received is not well told
none_was_unnamed : {keeps : Bool} {records sent : List RingRecord} {close : Option Close} {ledger : LedgerState} {stage : Stage} {list : List Sample}
    → Tracked keeps records close ledger stage list → IsPrefixOf records sent → IsWellTold sent → stage ≢ Unnamed
none_was_unnamed tracked begins well unnamed = tracked.unnamed unnamed (front_well_told _ _ begins well)

-- the records of what was received are the first of those that were sent
pub begins_all : (batches more sent : List Batch) → batches ++ more ≡ sent → IsPrefixOf (records_of_all batches) (records_of_all sent)
begins_all batches more sent is = (records_of_all more, sym (records_of_all-append batches more) ∙ ap records_of_all is)

-- so not where the end of the ring left what shows what was sent
pub none_unnamed : {A P : Type 0} {keeps : Bool} {close : Option Close} {ledger : LedgerState} {stage : Stage} {list : List Sample} {whole : Type 0}
    (left : Option (Finished Batch A P)) (one : Finished Batch A P) (batches more : List Batch)
    → left ≡ Some one → IfSome left (λ left. IsWellTold (records_of_all (all_sent left))) → batches ++ more ≡ all_sent one → Tracked keeps (records_of_all batches) close ledger stage list
    → (stage ≢ Unnamed → whole) → IfSome left (λ _. (stage ≢ Unnamed) × whole)
none_unnamed {stage = stage} {whole = whole} left one batches more is well sent tracked then =
    let told = none_was_unnamed tracked (begins_all batches more (all_sent one) sent) (subst (λ o. IfSome o (λ left. IsWellTold (records_of_all (all_sent left)))) is well) in
    subst (λ o. IfSome o (λ _. (stage ≢ Unnamed) × whole)) (sym is) (told, then told)

closed_by : (close : Option Close) → IsSome close → (last : Close) × (close ≡ Some last)
closed_by None closed = absurd (true≢false (sym closed))
closed_by (Some last) closed = (last, refl)

module _ {R G : Type 0} (may_stop may_go : G → ℕ → ℕ → Type 0) (gives : R → Rest → Type 0) (started : RunningSource R G) where
  abbrev gate : G
  gate = arc_value started.handle.promise.gate.value

  -- a source whose ledger has all that was sent is settled
  received_settled : (sent : List RingRecord) (ledger : LedgerState) → IsSome started.intake.close
      → GivesSuch (gives started.handle.promise.reader.value) (λ rest. TellsAll (may_stop gate) (may_go gate) started.handle.promise.source rest sent)
      → IsReceived sent started.intake ledger → IsSettled may_stop may_go gives started ledger
  received_settled sent ledger closed tells is =
      let intake = started.intake in
      let last = closed_by intake.close closed in
      record {
        rest = tells.rest;
        is_given = tells.is_given;
        holds = λ list tracked.
            settled last.0 (subst (λ close. Tracked intake.origin.keeps (records_of_all (received intake.consumer)) close intake.ledger intake.stage list) last.1 tracked) is.begins tells.holds
            (is.closed ∙ ap (λ close. record intake.ledger { close = close }) last.1);
      }

  pub left_settled : {A P : Type 0} (left : Option (Finished Batch A P)) (result : Option LedgerState) → IsSome started.intake.close
      → IfSome left (λ left. GivesSuch (gives started.handle.promise.reader.value) (λ rest. TellsAll (may_stop gate) (may_go gate) started.handle.promise.source rest (records_of_all (all_sent left))))
      → IfSome left (λ left. IfSome result (IsReceived (records_of_all (all_sent left)) started.intake)) → IfNone left (result ≡ None)
      → IfSome result (IsSettled may_stop may_go gives started)
  left_settled left None closed tells received unshown = tt
  left_settled None (Some ledger) closed tells received unshown = absurd (some≢none unshown)
  left_settled (Some left) (Some ledger) closed tells received unshown = received_settled (records_of_all (all_sent left)) ledger closed tells received

-- what holds of the ledgers goes on to one more, where no source is unfinished
pub more_settled : {R G : Type 0} (may_stop may_go : G → ℕ → ℕ → Type 0) (gives : R → Rest → Type 0) (all : List (RunningSource R G)) (ledgers ledgers' : List LedgerState)
    (unfinished result : Option ℕ) (last : Option LedgerState) (started : RunningSource R G)
    → IfNone result ((unfinished ≡ None) × IfSome last (λ ledger. ledgers' ≡ ledgers ++ ledger ∷ []) × IsSome last)
    → IfNone unfinished (AreSettled may_stop may_go gives all ledgers) → IfSome last (IsSettled may_stop may_go gives started)
    → IfNone result (AreSettled may_stop may_go gives (all ++ started ∷ []) ledgers')
more_settled may_stop may_go gives all ledgers ledgers' unfinished (Some first) last started kept so_far one = tt
more_settled may_stop may_go gives all ledgers ledgers' unfinished None None started kept so_far one = absurd (true≢false (sym kept.2))
more_settled may_stop may_go gives all ledgers ledgers' unfinished None (Some ledger) started kept so_far one =
    subst (AreSettled may_stop may_go gives (all ++ started ∷ [])) (sym kept.1)
    (settled_push (subst (λ u. IfNone u (AreSettled may_stop may_go gives all ledgers)) kept.0 so_far) started ledger one)

-- and so do their closes
pub more_closes : {R G : Type 0} (all : List (RunningSource R G)) (ledgers ledgers' : List LedgerState) (unfinished result : Option ℕ) (last : Option LedgerState) (started : RunningSource R G)
    → IfNone result ((unfinished ≡ None) × IfSome last (λ ledger. ledgers' ≡ ledgers ++ ledger ∷ []) × IsSome last)
    → IfNone unfinished (map (λ ledger. ledger.close) ledgers ≡ map (λ running. running.intake.close) all) → IfSome last (λ ledger. ledger.close ≡ started.intake.close)
    → IfNone result (map (λ ledger. ledger.close) ledgers' ≡ map (λ running. running.intake.close) (all ++ started ∷ []))
more_closes all ledgers ledgers' unfinished (Some first) last started kept so_far one = tt
more_closes all ledgers ledgers' unfinished None None started kept so_far one = absurd (true≢false (sym kept.2))
more_closes all ledgers ledgers' unfinished None (Some ledger) started kept so_far one =
    ap (map (λ ledger. ledger.close)) kept.1 ∙ map_push (λ ledger. ledger.close) ledgers ledger
    ∙ (λ i. subst (λ u. IfNone u (map (λ ledger. ledger.close) ledgers ≡ map (λ running. running.intake.close) all)) kept.0 so_far i ++ one i ∷ [])
    ∙ sym (map_push (λ running. running.intake.close) all started)

pub first_below : {n source : ℕ} (unfinished result : Option ℕ) → IfSome result (λ first. (unfinished ≡ Some first) ⊎ (first ≡ source)) → IfSome unfinished (λ first. first < n) → source ≡ n
    → IfSome result (λ first. first < n + 1)
first_below unfinished None first below at = tt
first_below {n} unfinished (Some first) (inl was) below at = let lt = subst (λ u. IfSome u (λ k. k < n)) was below in omega arith
first_below {n} unfinished (Some first) (inr is) below at = omega arith

-- a list more, that the next ledger hands out
pub one_more_list : {ledgers : List LedgerState} {lists : List ListState} → AreListsOf ledgers lists → (ledger : LedgerState) (list : ListState) → list.samples ≡ ledger.samples → ledger.close ≡ Some (close.Read list.ending) → list.told ≡ ledger.told
    → AreListsOf (ledgers ++ ledger ∷ []) (lists ++ list ∷ [])
one_more_list {ledgers = ledgers} {lists = lists} are ledger list samples closed told = record {
  samples = let of_lists = map_push (λ list. list.samples) lists list in let of_ledgers = map_push (λ ledger. ledger.samples) ledgers ledger in let so_far = are.samples in cc;
  closes = let of_lists = map_push (λ list. Some (close.Read list.ending)) lists list in let of_ledgers = map_push (λ ledger. ledger.close) ledgers ledger in let so_far = are.closes in cc;
  names = let of_lists = map_push (λ list. list.told) lists list in let of_ledgers = map_push (λ ledger. ledger.told) ledgers ledger in let so_far = are.names in cc;
}
