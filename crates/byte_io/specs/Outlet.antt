-- What a clause reads of a `CountedWriter`.
use Rattle.std.specs.Prelude.{ℕ, Bool}
use Rattle.byte_io.specs.declared.outlet.CountedWriter.{CountedWriter}

-- the writer inside
abbrev pub inner_writer : {W : Type 0} → CountedWriter W → W
inner_writer s = s.writer

-- how many of its writes and flushes failed
abbrev pub failed_writes : {W : Type 0} → CountedWriter W → ℕ
failed_writes s = s.failures

-- whether its last call was a flush that succeeded
abbrev pub was_flushed : {W : Type 0} → CountedWriter W → Bool
was_flushed s = s.flushed
