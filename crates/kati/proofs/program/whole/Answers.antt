use Rattle.kati.proofs.Common.{ap, refl, devices}
use Rattle.kati.proofs.lemmas.BlameLemmas.{on_ok_weaker}
use Rattle.kati.proofs.lemmas.TellLemmas.{told_end}
use Rattle.kati.proofs.program.whole.Goals as goal

pub returns-in-Ok : goal.returns-in-Ok
returns-in-Ok g c =
    let files = g.F.Files.seen c.run-ended.new.files in
    record {
      answered = c.args_of.result;
      answers = c.args_of.ensures.answers;
      exits = rw c.in-Ok.is (record {
        run = c.run-ended.result;
        ended = devices files (g.O.Sink.seen c.run-ended.new.out) (g.E.Sink.seen c.run-ended.new.err);
        leaves = c.run-ended.ensures.leaves;
        output = c.run-ended.ensures.output;
        blames = c.run-ended.ensures.blames;
        exit = c.finish.ensures.code;
        told = told_end c.run-ended.result files (g.O.Sink.seen c.run-ended.new.out) (g.E.Sink.seen c.run-ended.new.err) (g.E.Sink.seen c.finish.new.err)
            (on_ok_weaker c.run-ended.result _ _ (λ same. ap g.E.Sink.seen same) c.finish.ensures.quiet) c.finish.ensures.told;
      });
    }

pub returns-in-Err : goal.returns-in-Err
returns-in-Err g c = record { answered = c.args_of.result; answers = c.args_of.ensures.answers; exits = rw c.in-Err.is (refl, c.refuse.ensures) }
