use Rattle.std.proofs.Common.{◌∙◌, sym}
use Rattle.kt_rules.proofs.lemmas.book.SparedLemmas.{none_appended}
use Rattle.kt_rules.proofs.book.matching.add_suffix_rules.Goals as goal

pub returns : goal.returns
returns c = none_appended c.args.suffixes.now c.args.entry c.args.patterns.now.items (sym c.may_be_bare.ensures ∙ c.if-may_be_bare.false)
