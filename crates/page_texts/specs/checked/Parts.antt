-- The parts of which the text of a page is made.
use Rattle.std.specs.Prelude.{ℕ, List, map, take, decimal}
use Rattle.std.specs.List.{concat}
use Rattle.json.specs.Print.{quoted}
use Rattle.page_texts.specs.Page.{whole_number}
use Rattle.page_texts.specs.ScriptSafe.{script_safe}
use Rattle.page_texts.specs.declared.parts.Part.{Part}
use Rattle.page_texts.specs.declared.parts.Part.TheVariants.{Literal, Number, Text, Name, Numbers}
use Rattle.page_texts.specs.checked.Kept.{numbers_of}
use Rattle.page_texts.specs.checked.SafeText.{values_text}

abbrev pub part_text : Part → List ℕ
part_text (Literal bytes) = bytes.now
part_text (Number n) = decimal n
part_text (Text text) = script_safe (quoted text.now)
part_text (Name name) = script_safe (quoted name.now)
part_text (Numbers run) = values_text run.later (map whole_number (take run.count (numbers_of run.column run.before run.boxes.now)))

-- what the parts are one after another
unfoldable pub parts_text : List Part → List ℕ
parts_text parts = concat (map part_text parts)
