-- What readers gave, as it was found.
use Rattle.std.specs.Prelude.{Bool, List}
use Rattle.std.specs.List.{AllZip}
use Rattle.stack_core.specs.Reading.{Rest}
use Rattle.ring_collect.specs.Collection.{AreGiven}
use Rattle.source_lists.specs.Summing.{IsFound}

-- each reader might have given a rest as which this was found
pub record FindsGiven {R : Type 0} (gives : R → Rest → Type 0) (is_summed : Bool) (readers : List R) (found : List Rest) : Type 0 where
  pub rests : List Rest
  pub are_given : AreGiven gives readers rests
  pub are_found : AllZip (IsFound is_summed) rests found
