-- what was appended and what is left
use Rattle.std.proofs.Common.{◌≡◌, ◌++◌, drop}
use Rattle.live_lines.specs.Terminal.{plain_text}
use Rattle.live_lines.proofs.terminal.append_plain.Given as goal

abbrev pub invariant-loop-byte : goal.invariant-loop-byte
invariant-loop-byte l = l.out.items ++ plain_text l.before (drop l.byte-index l.text) ≡ l.fn.out.items ++ plain_text 0 l.text
