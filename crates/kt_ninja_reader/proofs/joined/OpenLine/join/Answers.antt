use Rattle.kt_ninja_reader.proofs.Common.{refl, on_ok_weaker, OpenLine}
use Rattle.kt_ninja_reader.proofs.lemmas.JoinedLemmas.{joins}
use Rattle.kt_ninja_reader.proofs.joined.OpenLine.join.Goals as goal

pub returns : goal.returns
returns c =
    let new : OpenLine = record { number = c.args.self.now.number; text = c.add.new.self; blank = c.stays_blank-blank.result; going_on = c.goes_on-going_on.result } in
    record {
      joined = on_ok_weaker c.add.result
          (λ text. joins c.args.self.now c.args.line.now new c.added-bytes.result.now c.kept-kept.result.now c.requires.blank c.requires.plain c.added-bytes.ensures c.goes_on-going_on.ensures c.kept-kept.ensures c.stays_blank-blank.ensures text refl)
          c.add.ensures;
    }
