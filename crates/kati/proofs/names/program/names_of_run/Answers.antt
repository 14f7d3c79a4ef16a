use Rattle.kati.proofs.Common.{ap, refl, devices}
use Rattle.kati.proofs.lemmas.BlameLemmas.{on_ok_weaker}
use Rattle.kati.proofs.lemmas.TellLemmas.{told_end}
use Rattle.kati.proofs.lemmas.NamesLemmas.{blames_after}
use Rattle.kati.proofs.names.program.names_of_run.Goals as goal

pub returns : goal.returns
returns g c =
    let first = g.F.Files.seen c.args.files.now in
    let files = g.F.Files.seen c.run-ran.new.files in
    let ran = g.O.Sink.seen c.run-ran.new.out in
    let out = g.O.Sink.seen c.with_names-ended.new.out in
    let err = g.E.Sink.seen c.run-ran.new.err in
    record {
      run = c.run-ran.result;
      ran = devices files ran err;
      leaves = c.run-ran.ensures.leaves;
      output = c.run-ran.ensures.output;
      ended = c.with_names-ended.result;
      named = devices files out err;
      names = c.with_names-ended.ensures;
      rest = (refl, refl);
      blames = blames_after c.run-ran.result c.with_names-ended.result first files (g.O.Sink.seen c.args.out.now) ran out
          (g.E.Sink.seen c.args.err.now) err c.with_names-ended.ensures c.run-ran.ensures.blames;
      exit = c.finish.ensures.code;
      told = told_end c.with_names-ended.result files out err (g.E.Sink.seen c.finish.new.err)
          (on_ok_weaker c.with_names-ended.result _ _ (λ same. ap g.E.Sink.seen same) c.finish.ensures.quiet) c.finish.ensures.told;
    }
