use Rattle.std.proofs.Common.{Some, None}
use Rattle.kt_ninja_reader.proofs.lemmas.JoinedLemmas.{comment_found}
use Rattle.kt_ninja_reader.proofs.joined.is_comment.Goals as goal

pub returns-in-Some : goal.returns-in-Some
returns-in-Some c = comment_found c.args.text.now (Some c.in-Some.byte.now) c.in-Some.ensures

pub returns-in-None : goal.returns-in-None
returns-in-None c = comment_found c.args.text.now None c.in-None.ensures
