use Rattle.kati_args.proofs.Common.{map, string_bytes, found_of, rows_of}
use Rattle.kati_args.proofs.Answering.{answers_fault, answers_found}
use Rattle.kati_args.proofs.asking.args_of.Goals as goal

pub returns-in-Ok-clause-answers : goal.returns-in-Ok-clause-answers
returns-in-Ok-clause-answers c =
    answers_found (map string_bytes c.args.words.now) (rows_of (found_of c.in-Ok.matches)) c.asked.result c.in-Ok.ensures.found c.in-Ok.ensures.taken
    c.asked.ensures.found

pub returns-in-Err-clause-answers : goal.returns-in-Err-clause-answers
returns-in-Err-clause-answers c =
    answers_fault (map string_bytes c.args.words.now) c.in-Err.error c.fault_of.result c.in-Err.ensures.memory c.in-Err.ensures.kinds c.fault_of.ensures
