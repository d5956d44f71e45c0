use Rattle.std.proofs.Common.{IfOk, subst, sym}
use Rattle.stack_core.specs.RowReading.{StepsAmong}
use Rattle.source_lists.specs.checked.InputReaders.{input_gives, input_told}
use Rattle.source_lists.specs.checked.Readers.{reader_told}
use Rattle.source_lists.specs.declared.input_readers.InputReader.{InputReader}
use Rattle.source_lists.specs.declared.input_readers.InputReader.TheVariants.{Loaded}
use Rattle.source_lists.proofs.input_readers.InputReaderRowReader.next_row.Goals as goal

pub returns-in-Loaded-clause-step : goal.returns-in-Loaded-clause-step
returns-in-Loaded-clause-step c =
    let left = c.next_row.new.self in
    subst (λ (reader : InputReader). IfOk c.next_row.result (λ step. StepsAmong (input_gives reader) (input_gives (Loaded left)) (input_told reader) step (reader_told left))) (sym c.in-Loaded.is) c.next_row.ensures.step
