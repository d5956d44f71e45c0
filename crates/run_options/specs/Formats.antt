-- The format of a file, by the end of its name, and the names of the formats.
use Rattle.std.specs.Prelude.{ℕ, ◌||◌, Bool, List, Option, Some, None, codes, if◌then◌else◌, nat_eq}
use Rattle.std.specs.List.{ends_with}
use Rattle.std.specs.Str.{bytes_eq}
use Rattle.run_options.specs.declared.formats.Format.{Format}
use Rattle.run_options.specs.declared.formats.Format.TheVariants.{Folded, Pprof}

abbrev pub is_pprof_path : List ℕ → Bool
is_pprof_path path = ends_with nat_eq path (codes ".pb")
    || (ends_with nat_eq path (codes ".pprof") || ends_with nat_eq path (codes ".prof"))

abbrev pub format_at : List ℕ → Format
format_at path = if is_pprof_path path then Pprof else Folded

abbrev pub named_format : List ℕ → Option Format
named_format name = if bytes_eq name (codes "folded") then Some Folded
    else (if bytes_eq name (codes "pprof") then Some Pprof else None)
