use Rattle.std.proofs.Common.{◌≡◌, IfOk, subst, sym}
use Rattle.stack_core.specs.Reading.{Rest}
use Rattle.stack_core.specs.RowReading.{StepsAmong}
use Rattle.source_lists.specs.checked.Readers.{reader_rest, reader_told}
use Rattle.source_lists.specs.declared.source_reader.SourceReader.{SourceReader}
use Rattle.source_lists.proofs.source_reader.SourceReaderRowReader.next_row.Goals as goal

pub returns-in-Folded-clause-step : goal.returns-in-Folded-clause-step
returns-in-Folded-clause-step c =
    subst (λ (reader : SourceReader). IfOk c.next_row.result (λ step.
    StepsAmong (λ (rest : Rest). rest ≡ reader_rest reader) (λ rest. rest ≡ c.next_row.new.self.rest) (reader_told reader) step c.next_row.new.self.told))
    (sym c.in-Folded.is) c.next_row.ensures.step

pub returns-in-Pprof-clause-step : goal.returns-in-Pprof-clause-step
returns-in-Pprof-clause-step c =
    subst (λ (reader : SourceReader). IfOk c.next_row-in-Pprof.result (λ step.
    StepsAmong (λ (rest : Rest). rest ≡ reader_rest reader) (λ rest. rest ≡ c.next_row-in-Pprof.new.self.rest) (reader_told reader) step c.next_row-in-Pprof.new.self.told))
    (sym c.in-Pprof.is) c.next_row-in-Pprof.ensures.step
