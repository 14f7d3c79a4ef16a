use Rattle.std.proofs.Common.{sym, arith}
use Rattle.kt_rules.proofs.lemmas.book.SuffixLemmas.{end_is_none}
use Rattle.kt_rules.proofs.book.suffix.end_of_length.Goals as goal

pub returns-then-len-name : goal.returns-then-len-name
returns-then-len-name c = sym (end_is_none c.args.suffixes.now c.args.name.now c.args.len (omega arith))
