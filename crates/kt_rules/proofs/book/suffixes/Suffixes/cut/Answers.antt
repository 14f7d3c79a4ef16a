use Rattle.std.proofs.Common.{◌≡◌, ◌∙◌, ap}
use Rattle.kt_rules.proofs.Common.{first_cut, suffix_cut}
use Rattle.kt_rules.proofs.lemmas.book.SuffixLemmas.{all_cuts, cut_within}
use Rattle.kt_rules.proofs.book.suffixes.Suffixes.cut.Goals as goal

pub returns-clause-within : goal.returns-clause-within
returns-clause-within c =
    let cut : c.first_cut.result ≡ suffix_cut c.args.self.now c.args.name.now
    = c.first_cut.ensures
    ∙ ap (λ lengths. first_cut c.self.inside.names lengths c.args.name.now) c.as_slice.ensures.keys
    ∙ all_cuts c.self.inside.names c.self.inside.lengths.keys c.args.name.now c.self.invariant
    ∙ ap (λ names. suffix_cut names c.args.name.now) c.self.view_is in
    cut_within c.args.self.now c.args.name.now c.first_cut.result cut
