-- what was taken so far
use Rattle.std.proofs.Common.{◌≡◌, ◌++◌, ◌≤◌, ◌-◌, length, drop}
use Rattle.page_texts.specs.ScriptSafe.{script_safe}
use Rattle.page_texts.proofs.script_safe.append_script_safe.Given as goal

abbrev pub invariant-loop-at : goal.invariant-loop-at
invariant-loop-at l =
    (l.at ≤ length l.text) × (l.initial.out.items ++ script_safe l.text ≡ l.out.items ++ script_safe (drop l.at l.text))

abbrev pub decreases-loop-at : goal.decreases-loop-at
decreases-loop-at l = length l.text - l.at
