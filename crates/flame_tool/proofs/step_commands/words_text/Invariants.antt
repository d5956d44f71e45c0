-- the text of the words so far
use Rattle.std.proofs.Common.{◌≡◌, map, option_map, string_bytes, take}
use Rattle.std.specs.List.{flat_map}
use Rattle.flame_tool.specs.NextSteps.{word_text}
use Rattle.flame_tool.proofs.step_commands.words_text.Given as goal

abbrev pub invariant-loop-word : goal.invariant-loop-word
invariant-loop-word l = string_bytes l.text ≡ flat_map (word_text (option_map (λ word. word.now) l.gone) l.stand_in) (map string_bytes (take l.word-index l.words))
