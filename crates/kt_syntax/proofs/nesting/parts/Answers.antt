use Rattle.std.proofs.Common.{◌≤◌, length, ap, ◌∙◌, arith}
use Rattle.kt_syntax.specs.Parts.{missing_in}
use Rattle.kt_syntax.specs.Roles.{numbered_role}
use Rattle.kt_syntax.proofs.lemmas.NestingLemmas.{depth-after, parts_ended, parts_more, scanned_ended, scanned_more}
use Rattle.kt_syntax.proofs.nesting.parts.Goals as goal

pub loop-line-preserved : goal.loop-line-preserved
loop-line-preserved c = record {
  found = parts_more _ _ _ _ c.args.text.now c.args.lines.now c.loop-line.line-index _ _ _ _ c.loop-line-test.true c.line-item.is
      c.in_ok-next_part.ensures.part c.in_ok-next_part.ensures.scan c.in_ok-push.ensures.items c.loop-line.invariant.found;
  scanned = scanned_more _ _ _ c.args.text.now c.args.lines.now c.loop-line.line-index _ _ c.loop-line-test.true c.line-item.is
      c.in_ok-next_part.ensures.scan c.loop-line.invariant.scanned;
  shallow =
      let head = numbered_role c.args.text.now c.line-item.result in
      let deeper = depth-after c.loop-line.scan.define c.loop-line.scan.conditionals head.role head.number in
      rw c.in_ok-next_part.ensures.scan (omega (arith, deeper, c.loop-line.invariant.shallow));
}

pub returns-clause-parts : goal.returns-clause-parts
returns-clause-parts c =
    let beyond : length c.args.lines.now ≤ c.loop-line.line-index = omega arith in
    parts_ended _ _ c.args.text.now c.args.lines.now c.loop-line.line-index _ beyond c.loop-line.invariant.found

pub returns-clause-missing : goal.returns-clause-missing
returns-clause-missing c =
    let beyond : length c.args.lines.now ≤ c.loop-line.line-index = omega arith in
    c.missing-missing.ensures ∙ ap missing_in (scanned_ended _ _ c.args.text.now c.args.lines.now c.loop-line.line-index beyond c.loop-line.invariant.scanned)
