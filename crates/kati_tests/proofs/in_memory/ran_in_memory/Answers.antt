use Rattle.kati_tests.proofs.in_memory.ran_in_memory.Goals as goal

pub returns : goal.returns
returns c = c.run.ensures.leaves c.run.new.files.store (c.files_in_memory_agree.ensures c.run.new.files)
