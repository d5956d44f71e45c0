-- Records that are kept flat: checked, not to be believed.
use Rattle.std.specs.Prelude.{◌≡◌, ◌≤◌, ℕ, List, [], ◌∷◌, length, take, drop}
use Rattle.stack_core.specs.declared.records.RingRecord.{RingRecord}
use Rattle.stack_core.specs.declared.records.RingRecord.TheVariants as one
use Rattle.ring_collect.specs.declared.flat_records.Step.{Step}
use Rattle.ring_collect.specs.declared.flat_records.Step.TheVariants.{Name, Row, Again}

-- the record that a step tells: it has the first of these names, or as many of these frames as it is deep
abbrev pub record_by : Step → List (List ℕ) → List ℕ → RingRecord
record_by Name [] frames = one.Name []
record_by Name (name ∷ names) frames = one.Name name
record_by (Row depth weight) names frames = one.Row (take depth frames) weight
record_by (Again row weight) names frames = one.Again row weight

-- the names that it leaves to the steps behind it
abbrev pub names_behind : Step → List (List ℕ) → List (List ℕ)
names_behind Name names = drop 1 names
names_behind (Row depth weight) names = names
names_behind (Again row weight) names = names

-- and the frames
abbrev pub frames_behind : Step → List ℕ → List ℕ
frames_behind Name frames = frames
frames_behind (Row depth weight) frames = drop depth frames
frames_behind (Again row weight) frames = frames

-- there is the name of the step, or there are its frames
abbrev pub HasItsParts : Step → List (List ℕ) → List ℕ → Type 0
HasItsParts Name names frames = 1 ≤ length names
HasItsParts (Row depth weight) names frames = depth ≤ length frames
HasItsParts (Again row weight) names frames = Unit {0}

-- the records that steps tell one after another
abbrev pub records_by : List Step → List (List ℕ) → List ℕ → List RingRecord
records_by [] names frames = []
records_by (step ∷ steps) names frames =
    record_by step names frames ∷ records_by steps (names_behind step names) (frames_behind step frames)

-- these are the names and the frames of the steps, and no more
abbrev pub FitTogether : List Step → List (List ℕ) → List ℕ → Type 0
FitTogether [] names frames = (names ≡ []) × (frames ≡ [])
FitTogether (step ∷ steps) names frames =
    HasItsParts step names frames × FitTogether steps (names_behind step names) (frames_behind step frames)
