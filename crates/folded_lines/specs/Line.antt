-- What a folded line is.
use Rattle.sample_tables.specs.declared.samples.Sample.{Sample as StackSample}
use Rattle.stack_core.specs.declared.endings.ReadKind.{ReadKind}

-- no count stands at its end, or it is refused, or it is a stack and a weight
pub data Line : Type 0 where
  Ignored : Line
  Fault : ReadKind → Line
  Sample : StackSample → Line
