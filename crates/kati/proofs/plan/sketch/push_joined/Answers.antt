use Rattle.kati.proofs.lemmas.plan.SketchLemmas.{row_kept, row_put}
use Rattle.kati.proofs.plan.sketch.push_joined.Goals as goal

pub returns-in-Some-clause-added : goal.returns-in-Some-clause-added
returns-in-Some-clause-added c =
    row_put c.args.rows.now c.open_row.new.self c.push.new.self c.in-Some.joined c.in_ok-open_row.ensures.added c.args.joined c.push.result
    c.in-Some.is c.push.ensures.added

pub returns-in-Some-clause-kept : goal.returns-in-Some-clause-kept
returns-in-Some-clause-kept c =
    row_kept c.args.rows.now c.open_row.new.self c.push.new.self c.in-Some.joined c.in_ok-open_row.ensures.added c.push.result
    c.push.ensures.added c.push.ensures.refused
