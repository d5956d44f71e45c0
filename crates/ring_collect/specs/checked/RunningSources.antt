-- Sources that were started: checked, not to be believed.
use Rattle.std.specs.Prelude.{◌≡◌, ◌≤◌, ℕ, Bool, List, [], length, Some, None, slice_get}
use Rattle.std.specs.Arc.{arc_value}
use Rattle.rtrb.specs.Ring.{received, producer_capacity, consumer_capacity}
use Rattle.ring_collect.specs.declared.running_sources.ReaderPromise.{ReaderPromise}
use Rattle.ring_collect.specs.declared.rings.RingEnds.{RingEnds}
use Rattle.ring_collect.specs.declared.intakes.Intake.{Intake}
use Rattle.ring_collect.specs.declared.intakes.Stage.TheVariants.{Taking}

module _ {R G : Type 0} where
  -- a promise made for the reader of this source and for this gate
  pub record IsPromised (gate : G) (source : ℕ) (reader : R) (promise : ReaderPromise R G) : Type 0 where
    pub reader_is : promise.reader.value ≡ reader
    pub gate_is : arc_value promise.gate.value ≡ gate
    pub source_is : promise.source ≡ source

  -- a promise for each of the first readers, in order
  pub record ArePromised (gate : G) (readers : List R) (promises : List (ReaderPromise R G)) : Type 0 where
    pub no_more : length promises ≤ length readers
    pub each : (source : ℕ) (promise : ReaderPromise R G) (reader : R) → slice_get promises source ≡ Some promise → slice_get readers source ≡ Some reader → IsPromised gate source reader promise

-- both ends know the size
pub record IsOfSize (size : ℕ) (ends : RingEnds) : Type 0 where
  pub producer : producer_capacity ends.outlet.producer ≡ size
  pub consumer : consumer_capacity ends.consumer ≡ size

-- nothing came yet
pub record IsFresh (keeps : Bool) (source : ℕ) (intake : Intake) : Type 0 where
  pub number : intake.origin.number ≡ source
  pub kept : intake.origin.keeps ≡ keeps
  pub received_nothing : received intake.consumer ≡ []
  pub ledger : intake.ledger ≡ record { samples = []; close = None; told = []; rows = []; stacks = []; entries = [] }
  pub stage : intake.stage ≡ Taking
  pub close : intake.close ≡ None

pub record AreFresh (keeps : Bool) (intakes : List Intake) : Type 0 where
  pub each : (source : ℕ) (intake : Intake) → slice_get intakes source ≡ Some intake → IsFresh keeps source intake
