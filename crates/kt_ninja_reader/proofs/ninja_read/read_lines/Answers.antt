use Rattle.std.proofs.Common.{arith, take}
use Rattle.kt_ninja_reader.proofs.lemmas.ReaderLemmas.{length_before, part_refused, part_taken, parts_begin, parts_carried}
use Rattle.kt_ninja_reader.proofs.ninja_read.read_lines.Goals as goal

pub returns-in-Err : goal.returns-in-Err
returns-in-Err c = grind (arith, take, length_before, part_refused, parts_begin)

pub returns : goal.returns
returns c = grind (arith, take, length_before, parts_carried, part_taken, parts_begin)
