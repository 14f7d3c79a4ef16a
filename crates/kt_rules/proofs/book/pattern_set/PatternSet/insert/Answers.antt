use Rattle.std.proofs.Common.{◌∙◌, ap, not}
use Rattle.kt_rules.proofs.lemmas.book.PatternLemmas.{key_known}
use Rattle.kt_rules.proofs.book.pattern_set.PatternSet.insert.Goals as goal

pub returns-clause-told : goal.returns-clause-told
returns-clause-told c =
    c.in_ok-is_new.ensures.added ∙ ap not (key_known c.args.pattern.now c.in_ok-key.key c.args.self.now.keys.keys c.in_ok-key.ensures)
