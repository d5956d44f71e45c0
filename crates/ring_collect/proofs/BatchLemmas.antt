-- The records of batches, one batch after another.
use Rattle.std.proofs.Common.{◌≡◌, List, [], ◌∷◌, ◌++◌, refl, ap, ◌∙◌, append-nil, Option}
use Rattle.std.proofs.lemmas.List.Concat.{flat_map-append}
use Rattle.stack_core.specs.declared.records.RingRecord.{RingRecord}
use Rattle.stack_core.specs.declared.records.RingRecord.TheVariants.{Name, Row, Again, Close as CloseRecord}
use Rattle.ring_collect.specs.checked.Batches.{records_in, records_of_all}
use Rattle.ring_collect.specs.checked.Records.{close_after}
use Rattle.ring_collect.specs.checked.Rings.{IsGathered, IsLimitedRecord}
use Rattle.ring_collect.specs.declared.batches.Batch.{Batch}
use Rattle.stack_core.specs.declared.endings.Close.{Close}

pub records_of_all-append : (front back : List Batch) → records_of_all (front ++ back) ≡ records_of_all front ++ records_of_all back
records_of_all-append front back = flat_map-append records_in front back

-- one batch more
pub records_of_more : (batches : List Batch) (last : Batch) → records_of_all (batches ++ last ∷ []) ≡ records_of_all batches ++ records_in last
records_of_more batches last = records_of_all-append batches (last ∷ []) ∙ ap (λ records. records_of_all batches ++ records) (append-nil (records_in last))

-- the same, where it is known what was sent
pub records_of_sent : (batches batches' : List Batch) (last : Batch) → batches' ≡ batches ++ last ∷ [] → records_of_all batches' ≡ records_of_all batches ++ records_in last
records_of_sent batches batches' last sent = ap records_of_all sent ∙ records_of_more batches last

-- what may be gathered keeps to the limits, and is no close
pub gathered_limited : (one : RingRecord) → IsGathered one → IsLimitedRecord one
gathered_limited (Name name) gathered = tt
gathered_limited (Row frames weight) gathered = gathered
gathered_limited (Again row weight) gathered = gathered
gathered_limited (CloseRecord last) gathered = tt

pub gathered_open : (close : Option Close) (one : RingRecord) → IsGathered one → close_after close one ≡ close
gathered_open close (Name name) gathered = refl
gathered_open close (Row frames weight) gathered = refl
gathered_open close (Again row weight) gathered = refl
gathered_open close (CloseRecord last) gathered = absurd gathered
