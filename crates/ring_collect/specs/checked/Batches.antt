-- What the batches of a ring stand for: checked, not to be believed.
use Rattle.std.specs.Prelude.{◌++◌, List, [], ◌∷◌, Option}
use Rattle.std.specs.List.{flat_map}
use Rattle.rtrb.specs.Ring.{sent}
use Rattle.stack_core.specs.declared.endings.Close.{Close}
use Rattle.stack_core.specs.declared.records.RingRecord.{RingRecord}
use Rattle.ring_collect.specs.checked.Records.{close_after}
use Rattle.ring_collect.specs.declared.batches.Batch.{Batch}
use Rattle.ring_collect.specs.declared.batches.Batch.TheVariants.{One, Many}
use Rattle.ring_collect.specs.declared.outlets.Outlet.{Outlet}

-- the records of a batch, in order
abbrev pub records_in : Batch → List RingRecord
records_in (One one) = one ∷ []
records_in (Many records) = records

-- the records of batches, one batch after another
abbrev pub records_of_all : List Batch → List RingRecord
records_of_all batches = flat_map records_in batches

-- the records that were told to an outlet: those that were sent, and then those that are pending
abbrev pub told_to : Outlet → List RingRecord
told_to outlet = records_of_all (sent outlet.producer) ++ outlet.pending

-- what closes a ring, after a batch: several records have no close among them
abbrev pub close_after_batch : Option Close → Batch → Option Close
close_after_batch close (One one) = close_after close one
close_after_batch close (Many records) = close
