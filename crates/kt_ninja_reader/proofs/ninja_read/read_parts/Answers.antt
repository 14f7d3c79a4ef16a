use Rattle.std.proofs.Common.{sym, ◌∙◌, arith, drop}
use Rattle.kt_ninja_reader.specs.NinjaRead.{cut_lines, nothing_read, read_part, read_parts}
use Rattle.kt_ninja_reader.specs.inner.Reading.{file_part}
use Rattle.kt_ninja_reader.proofs.lemmas.ReaderLemmas.{none_left, part_refused, part_taken, parts_step}
use Rattle.kt_ninja_reader.proofs.ninja_read.read_parts.Goals as goal

pub loop-part-init : goal.loop-part-init
loop-part-init c = grind arith

pub returns-in-Err : goal.returns-in-Err
returns-in-Err c =
    let lines = c.args.parts.now in
    let head = c.in-Some.part.head.now in
    let body = c.in-Some.part.body.now in
    let later = drop c.in-Some.part.next lines in
    let step = parts_step c.loop-part.state head (drop c.loop-part.from lines) body later c.in-Some.ensures.parts in
    rw (c.fault_at.ensures, c.number.ensures)
    (part_refused head.number (read_part c.loop-part.state (file_part head body)) (λ s. read_parts s (cut_lines later).parts) (read_parts nothing_read (cut_lines lines).parts)
    (sym c.loop-part.invariant.same ∙ step) c.in-Err.fault c.in-Err.ensures)

pub loop-part-preserved : goal.loop-part-preserved
loop-part-preserved c =
    let lines = c.args.parts.now in
    let head = c.in-Some.part.head.now in
    let body = c.in-Some.part.body.now in
    let later = drop c.in-Some.part.next lines in
    let step = parts_step c.loop-part.state head (drop c.loop-part.from lines) body later c.in-Some.ensures.parts in
    record {
      begun = c.in-Some.ensures.begun;
      same = part_taken head.number (read_part c.loop-part.state (file_part head body)) c.in-Ok.next (λ s. read_parts s (cut_lines later).parts) (read_parts nothing_read (cut_lines lines).parts)
          (sym c.loop-part.invariant.same ∙ step) c.in-Ok.ensures;
      bound = c.in-Some.ensures.bound;
    }

pub returns : goal.returns
returns c = sym c.loop-part.invariant.same ∙ none_left c.loop-part.state (drop c.loop-part.from c.args.parts.now) c.in_default.ensures
