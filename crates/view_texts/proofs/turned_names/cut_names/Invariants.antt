use Rattle.std.proofs.Common.{◌≡◌, ◌≤◌, length, take}
use Rattle.std.specs.Io.{StartsWith}
use Rattle.view_texts.specs.checked.Joined.{joined_names}
use Rattle.view_texts.proofs.turned_names.cut_names.Given as goal

abbrev pub invariant-loop-kept : goal.invariant-loop-kept
invariant-loop-kept l =
    let kept = joined_names l.merged.names (take l.kept l.ranks) in
    record {
      within : l.kept ≤ length l.ranks;
      wide : l.keep ≤ l.kept;
      begins : StartsWith l.text.items kept;
      long : l.length ≡ length kept;
    }

abbrev pub decreases-loop-kept : goal.decreases-loop-kept
decreases-loop-kept l = l.kept
