-- What a run leaves where its words want it to write: on standard output, or in a file that takes its place when it is whole.
use Rattle.std.specs.Prelude.{◌≡◌, ◌⊎◌, ◌==◌, ◌||◌, ℕ, Bool, IsTrue, false, List, [], Option, Some, if◌then◌else◌}
use Rattle.clap.specs.Walk.{Text}
use Rattle.byte_io.specs.Outputs.{PlacedFile, with_file}
use Rattle.command_line.specs.Plans.{plan_of}
use Rattle.command_line.specs.declared.destinations.Destination.{Destination}
use Rattle.command_line.specs.declared.destinations.Destination.TheVariants.{File, Pages, Standard}
use Rattle.command_line.specs.declared.plans.Form.TheVariants as form
use Rattle.command_line.specs.declared.plans.Plan.{Plan}
use Rattle.flame_tool.specs.KnownRuns.{Change, KnownFiles, KnownStreams, LiveShows, RunShows, change}

-- with this status of `run` its text is whole
abbrev pub is_whole_run : ℕ → Bool
is_whole_run status = status == 0 || status == 4

-- with this status of `live` its lines are, of samples before a fault, too
abbrev pub is_whole_live : ℕ → Bool
is_whole_live status = status == 0 || status == 1

-- the words were run over whole files, and what was written is whole or not
pub record IsRun (words : List Text) (files : KnownFiles) (status : ℕ) (is_whole : Bool) (out err : Change) (is_flushed : Type 0) : Type 0 where
  pub shows : RunShows words files status out err is_flushed
  pub whole : is_whole ≡ is_whole_run status

-- they ask for `live`, and were run over streams, with a table where they were run on a terminal
pub record IsLive (is_terminal : Bool) (words : List Text) (streams : KnownStreams) (status : ℕ) (is_whole : Bool) (out err : Change) (is_flushed : Type 0) : Type 0 where
  pub plan : Plan
  pub asked : plan_of words ≡ Some plan
  pub live : plan.form ≡ form.Live
  pub shows : LiveShows is_terminal plan streams status out err is_flushed
  pub whole : is_whole ≡ is_whole_live status

-- one of both
abbrev pub Ran : Bool → List Text → KnownFiles → KnownStreams → ℕ → Bool → Change → Change → Type 0 → Type 0
Ran is_terminal words files streams status is_whole out err is_flushed =
    IsRun words files status is_whole out err is_flushed ⊎ IsLive is_terminal words streams status is_whole out err is_flushed

-- the run of `live` wrote to the file of pages, which had no bytes where it is known what files have
pub record WrotePages (is_known : Type 0) (words : List Text) (streams : KnownStreams) (status : ℕ) (err : Change) : Type 0 where
  pub before : Option (List ℕ)
  pub empty : is_known → before ≡ Some []
  pub after : Option (List ℕ)
  pub failures : ℕ
  pub is_whole : Bool
  pub is_flushed : Bool
  pub ran : IsLive false words streams status is_whole (change before after 0 failures) err (IsTrue is_flushed)

-- the files that took their places after a run for this path, whose bytes are these: one more where they are whole
abbrev pub delivered : List PlacedFile → List ℕ → Option (List ℕ) → Bool → List PlacedFile
delivered placed path bytes is_whole = if is_whole then with_file placed path bytes else placed

-- of words that want a file, by its path
abbrev pub IfFile : Destination → (List ℕ → Type 0) → Type 0
IfFile (File path) holds = holds path
IfFile (Pages path) holds = Unit {0}
IfFile (Standard is_document) holds = Unit {0}

-- of words that want a file of pages
abbrev pub IfPages : Destination → Type 0 → Type 0
IfPages (File path) holds = Unit {0}
IfPages (Pages path) holds = holds
IfPages (Standard is_document) holds = Unit {0}

-- of words that want standard output, for what may be a page or a picture
abbrev pub IfStandard : Destination → (Bool → Type 0) → Type 0
IfStandard (File path) holds = Unit {0}
IfStandard (Pages path) holds = Unit {0}
IfStandard (Standard is_document) holds = holds is_document
