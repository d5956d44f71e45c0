-- What a clause reads of a `CountedReader`, and of the machine's inlets.
use Rattle.std.specs.Prelude.{ℕ}
use Rattle.byte_io.specs.declared.inlet.CountedReader.{CountedReader}
use Rattle.byte_io.specs.declared.machine_inlet.MachineInlet.{MachineInlet}
use Rattle.byte_io.specs.declared.machine_inlet.MachineInlet.TheVariants.{File, Input}

-- the reader inside
abbrev pub inner_reader : {R : Type 0} → CountedReader R → R
inner_reader s = s.reader

-- how many of its reads failed
abbrev pub failed_reads : {R : Type 0} → CountedReader R → ℕ
failed_reads s = s.failures

-- the same of the machine's inlets
abbrev pub failed_machine_reads : {T R : Type 0} → MachineInlet T R → ℕ
failed_machine_reads (File reader) = failed_reads reader
failed_machine_reads (Input reader) = failed_reads reader
