use Rattle.kati_tests.proofs.in_memory.translated_in_memory.Goals as goal

pub returns : goal.returns
returns c = c.translate.ensures.means c.translate.new.files.store (c.files_in_memory_agree.ensures c.translate.new.files)
