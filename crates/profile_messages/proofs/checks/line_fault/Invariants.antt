use Rattle.std.proofs.Common.{◌≡◌, drop}
use Rattle.std.specs.Prelude.{flat_map}
use Rattle.profile_messages.specs.Message.{first}
use Rattle.profile_messages.specs.Tables.{line_faults}
use Rattle.profile_messages.specs.SeenIndex.{is_in}
use Rattle.profile_messages.proofs.checks.line_fault.Given as goal

abbrev pub invariant-loop-line : goal.invariant-loop-line
invariant-loop-line l =
    first (flat_map (line_faults (is_in l.functions) l.at) (drop l.line-index l.lines))
    ≡ first (flat_map (line_faults (is_in l.functions) l.at) l.lines)
