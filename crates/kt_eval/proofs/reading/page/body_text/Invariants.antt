use Rattle.std.proofs.Common.{◌≡◌, ◌++◌, map, drop}
use Rattle.kt_syntax.specs.Roles.{line_text}
use Rattle.kt_eval.specs.macros.Assignments.{body_text}
use Rattle.kt_eval.proofs.BodyLemmas.{left_of_body}
use Rattle.kt_eval.proofs.reading.page.body_text.Given as goal

abbrev pub invariant-loop-line : goal.invariant-loop-line
invariant-loop-line l = l.body.items ++ left_of_body l.separator (map (line_text l.text) (drop l.line-index l.lines)) ≡ body_text (map (line_text l.text) l.lines)
