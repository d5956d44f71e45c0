-- What a reader that leaves samples out does in one step.
use Rattle.std.specs.Prelude.{◌≡◌, Option, Some, None}
use Rattle.stack_core.specs.Reading.{Rest, Steps}
use Rattle.stack_core.specs.declared.readers.Step.{Step}

-- it gives a step, or leaves out what is not kept
abbrev pub PassesOn : Rest → Option Step → Rest → Type 0
PassesOn old None new = new ≡ old
PassesOn old (Some step) new = Steps old step new
