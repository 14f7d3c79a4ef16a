use Rattle.std.proofs.Common.{false, sym}
use Rattle.kt_ninja_reader.proofs.lemmas.JoinedLemmas.{no_end, other_end}
use Rattle.kt_ninja_reader.proofs.joined.ends_in_dollar.Goals as goal

pub returns-in_default : goal.returns-in_default
returns-in_default c = sym (no_end c.args.text.now c.in_default.len_below)

pub returns-in_default-2 : goal.returns-in_default-2
returns-in_default-2 c = sym (other_end false c.args.text.now c.in-len1-up.len_at_least c.if-last-eq36.false)
