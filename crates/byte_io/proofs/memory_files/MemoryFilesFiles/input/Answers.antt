use Rattle.byte_io.proofs.memory_files.MemoryFilesFiles.input.Goals as goal

pub returns-clause-bytes : goal.returns-clause-bytes
returns-clause-bytes c = rw c.as_slice.ensures.value at c.copied.ensures.same
