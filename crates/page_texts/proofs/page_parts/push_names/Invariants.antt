-- the names so far
use Rattle.std.proofs.Common.{◌≡◌, ◌++◌, false, map, take}
use Rattle.serde_json.specs.Data.{string}
use Rattle.page_texts.specs.checked.Parts.{parts_text}
use Rattle.page_texts.specs.checked.SafeText.{values_text}
use Rattle.page_texts.proofs.page_parts.push_names.Given as goal

abbrev pub invariant-loop-number : goal.invariant-loop-number
invariant-loop-number l = parts_text l.parts.items ≡ parts_text l.initial.parts.items ++ values_text false (map string (take l.number l.names))
