-- Where the samples of a part stand.
use Rattle.std.specs.Prelude.{◌≡◌, ◌<◌, ℕ, List, length, slice_index}

-- the next of these places, before the sample that is past
pub record IsPlace (places : List ℕ) (next past at : ℕ) : Type 0 where
  pub before : next < past
  pub is_there : next < length places
  pub is : at ≡ slice_index places next
