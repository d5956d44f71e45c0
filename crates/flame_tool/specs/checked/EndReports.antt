-- What was said of ends, while others still came.
use Rattle.std.specs.Prelude.{◌≡◌, ℕ, ◌-◌, ◌^◌, ◌||◌, Bool, false, List, [], ◌++◌, ◌∷◌, Option, if◌then◌else◌, nat_le, nat_lt}
use Rattle.std.specs.Io.KnownBytes.{Appends}
use Rattle.command_line.specs.declared.plans.Plan.{Plan}
use Rattle.live_lines.specs.Ends.{ToldEnd}
use Rattle.live_lines.specs.Settings.{counted_numbers, known_numbers}
use Rattle.flame_tool.specs.checked.LiveSaying.{said_of_told}

-- ---- what was said

abbrev pub said_at_once : Bool → Plan → List ToldEnd → List ℕ
said_at_once is_at_once plan told = if is_at_once then said_of_told plan told else []

-- a call failed in between, as `HasFailed` has it
abbrev pub has_failed : ℕ → ℕ → Bool
has_failed before after = nat_lt before after || nat_le (2 ^ 64 - 1) after

-- a text was told, unless a call failed
abbrev pub TellsUnlessFailed : List ℕ → Option (List ℕ) → Option (List ℕ) → ℕ → ℕ → Type 0
TellsUnlessFailed text old new before after = has_failed before after ≡ false → Appends old new text × (after ≡ before)

-- ---- what no end changes, as numbers

abbrev pub strict_number : Bool → ℕ
strict_number is_strict = if is_strict then 1 else 0

abbrev pub files_numbers : List (List ℕ) → List ℕ
files_numbers [] = []
files_numbers (file ∷ files) = counted_numbers file ++ files_numbers files

-- which outlet it is, by its ghost name, what stood in it and how many of its calls had failed, and which files are read, and how
abbrev pub reports_setting : ℕ → Option (List ℕ) → ℕ → Bool → List (List ℕ) → List ℕ
reports_setting name contents failures is_strict files =
    name ∷ failures ∷ strict_number is_strict ∷ (counted_numbers (known_numbers contents) ++ files_numbers files)
