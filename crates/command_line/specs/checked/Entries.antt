-- What holds of the entries of a command line without a fault.
use Rattle.std.specs.Prelude.{◌≡◌, ◌≢◌, ◌⊎◌, ◌≤◌, ◌||◌, ℕ, Bool, List, IfSome, IsSome, codes, false, length, true}
use Rattle.std.specs.Str.{bytes_eq}
use Rattle.std.specs.Str.Parse.{IsNumeral, digits_value, without_leading_plus}
use Rattle.clap.specs.Matches.{found_of}
use Rattle.clap.specs.Walk.{Row, Text, one_of, rows_of}
use Rattle.clap.specs.declared.error.kind.ErrorKind.{ErrorKind}
use Rattle.clap.specs.declared.error.kind.ErrorKind.TheVariants as kind
use Rattle.clap.specs.declared.parser.matches.ArgMatches.{ArgMatches}
use Rattle.run_options.specs.declared.ring_sizes.TheConstants.{LARGEST_RING}
use Rattle.run_options.specs.declared.widths.TheConstants.{MAX_WIDTH}
use Rattle.command_line.specs.Plans.{IsDrawn, IsRequest, files_of, is_set, view_of}
use Rattle.command_line.specs.declared.arguments.TheConstants.{MOST_BETWEEN_SNAPSHOTS, MOST_HUNDREDTHS, MOST_ROWS}
use Rattle.command_line.specs.declared.plans.PlanFault.{PlanFault}
use Rattle.command_line.specs.declared.plans.PlanFault.TheVariants as fault

abbrev pub entries_of : ArgMatches → List Row
entries_of matches = rows_of (found_of matches)

-- a value, if there is one, is a number from 1 to `most`, or a flag's `true` or `false`
abbrev pub IsNumberAt : Text → ℕ → List Row → Type 0
IsNumberAt id most entries = IfSome (one_of id entries) (λ text.
    IsNumeral 10 (without_leading_plus text)
    × (1 ≤ digits_value 10 (without_leading_plus text))
    × (digits_value 10 (without_leading_plus text) ≤ most))

-- a value, if there is one, is a number from 0 to `most`
abbrev pub IsCountAt : Text → ℕ → List Row → Type 0
IsCountAt id most entries = IfSome (one_of id entries) (λ text.
    IsNumeral 10 (without_leading_plus text) × (digits_value 10 (without_leading_plus text) ≤ most))

-- the greatest number of 64 bits
abbrev pub GREATEST_COUNT : ℕ
GREATEST_COUNT = 18446744073709551615

abbrev pub IsFlagAt : Text → List Row → Type 0
IsFlagAt id entries =
    IfSome (one_of id entries) (λ text. (text ≡ codes "true") ⊎ (text ≡ codes "false"))

-- the command compares two profiles
abbrev pub compares : Text → Bool
compares name = bytes_eq name (codes "compare") || bytes_eq name (codes "diff")

-- the command is `types`, `live` or `svg` or shows a view, its values are read as they are meant, a comparison has two files, a page
-- and a picture are of a view with boxes, and `types` has one file
pub record IsRead (name : Text) (entries : List Row) : Type 0 where
  pub command : bytes_eq name (codes "types") ≡ false → bytes_eq name (codes "live") ≡ false → bytes_eq name (codes "svg") ≡ false → IsSome (view_of name entries)
  pub width : IsNumberAt (codes "width") MAX_WIDTH entries
  pub ring : IsNumberAt (codes "ring") LARGEST_RING entries
  pub every : IsNumberAt (codes "every") MOST_BETWEEN_SNAPSHOTS entries
  pub lines : IsFlagAt (codes "lines") entries
  pub boxes : IsFlagAt (codes "boxes") entries
  pub rows : IsNumberAt (codes "number") MOST_ROWS entries
  pub json : IsFlagAt (codes "json") entries
  pub exact : IsFlagAt (codes "exact") entries
  pub share : IsFlagAt (codes "share") entries
  pub over : IsCountAt (codes "fail-over") MOST_HUNDREDTHS entries
  pub strict : IsFlagAt (codes "strict") entries
  pub quiet : IsFlagAt (codes "quiet") entries
  pub page : IsFlagAt (codes "page") entries
  pub svg : IsFlagAt (codes "svg") entries
  pub below : IsFlagAt (codes "root-below") entries
  pub least : IsCountAt (codes "least") GREATEST_COUNT entries
  pub pair : compares name ≡ true → length (files_of entries) ≡ 2
  pub drawn : is_set (codes "page") entries ≡ true → IfSome (view_of name entries) IsDrawn
  pub pictured : is_set (codes "svg") entries ≡ true → IfSome (view_of name entries) IsDrawn
  pub single : bytes_eq name (codes "types") ≡ true → length (files_of entries) ≡ 1

-- what an error of that kind is for the caller
abbrev pub IsFaultOf : ErrorKind → PlanFault → Type 0
IsFaultOf k (fault.Words text) = (IsRequest k → ⊥) × (k ≢ kind.OutOfMemory)
IsFaultOf k (fault.Help text) = IsRequest k
IsFaultOf k fault.OutOfMemory = Unit {0}
