use Rattle.std.proofs.Common.{refl}
use Rattle.kati.proofs.names.program.asked_names.Goals as goal

pub returns-in-Ok : goal.returns-in-Ok
returns-in-Ok g c = record { answered = c.args_of.result; answers = c.args_of.ensures.answers; exits = rw c.in-Ok.is c.names_of_run.ensures }

pub returns-in-Err : goal.returns-in-Err
returns-in-Err g c = record { answered = c.args_of.result; answers = c.args_of.ensures.answers; exits = rw c.in-Err.is (refl, c.refuse.ensures) }
