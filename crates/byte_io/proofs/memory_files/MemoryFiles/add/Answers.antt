use Rattle.byte_io.proofs.memory_files.MemoryFiles.add.Goals as goal

pub returns-clause-ok : goal.returns-clause-ok
returns-clause-ok c = c.in_ok-push.ensures.items
