-- What each batch in a ring keeps to, by the ring alone: checked, not to be believed.
use Rattle.std.specs.Prelude.{◌≤◌, All, length}
use Rattle.std.proofs.Props.{props}
use Rattle.rtrb.specs.Ends.{SameRing}
use Rattle.rtrb.specs.declared.producer.Producer.{Producer}
use Rattle.rtrb.specs.declared.finished.Finished.{Finished}
use Rattle.sample_tables.specs.declared.samples.TheConstants.{FRAME_LIMIT, WEIGHT_LIMIT}
use Rattle.stack_core.specs.declared.records.RingRecord.{RingRecord}
use Rattle.stack_core.specs.declared.records.RingRecord.TheVariants.{Name, Row, Again, Close}
use Rattle.ring_collect.specs.declared.batches.Batch.{Batch}
use Rattle.ring_collect.specs.declared.batches.Batch.TheVariants.{One, Many}

abbrev pub IsLimitedRecord : RingRecord → Type 0
IsLimitedRecord (Name name) = Unit {0}
IsLimitedRecord (Row frames weight) = (length frames ≤ FRAME_LIMIT) × (weight ≤ WEIGHT_LIMIT)
IsLimitedRecord (Again row weight) = weight ≤ WEIGHT_LIMIT
IsLimitedRecord (Close close) = Unit {0}

-- the same of a record that may be gathered with others: a close may not, so nothing stands behind it
abbrev pub IsGathered : RingRecord → Type 0
IsGathered (Name name) = Unit {0}
IsGathered (Row frames weight) = (length frames ≤ FRAME_LIMIT) × (weight ≤ WEIGHT_LIMIT)
IsGathered (Again row weight) = weight ≤ WEIGHT_LIMIT
IsGathered (Close close) = ⊥

-- so it may be a ghost field
pub gathered_prop : (one : RingRecord) → IsProp (IsGathered one)
gathered_prop (Name name) = Prim.hlevel props
gathered_prop (Row frames weight) = Prim.hlevel props
gathered_prop (Again row weight) = Prim.hlevel props
gathered_prop (Close close) = Prim.hlevel props

abbrev pub IsLimitedBatch : Batch → Type 0
IsLimitedBatch (One one) = IsLimitedRecord one
IsLimitedBatch (Many records) = All IsGathered records

-- what is left of the producer's ring
abbrev pub IsLeftOf : {T A P : Type 0} → Producer T A P → Finished T A P → Type 0
IsLeftOf producer finished = SameRing producer.end finished.end
