use Rattle.std.proofs.Common.{◌∙◌, ◌++◌, sym, ap, Some, drop, take, if◌then◌else◌}
use Rattle.kt_rules.proofs.Common.{option_map, take_rest, pattern_rule, percent, suffix_cut}
use Rattle.kt_rules.proofs.book.matching.named_form.Goals as goal

pub returns-then-contains : goal.returns-then-contains
returns-then-contains c = λ rule.
    ap Some (c.in_ok-suffix_form.ensures rule)
    ∙ ap (λ b. option_map (pattern_rule rule) (if b then Some (percent, percent ++ c.args.name.now) else option_map (λ place. (percent ++ drop place c.args.name.now, percent ++ take place c.args.name.now)) (suffix_cut c.args.suffixes.now c.args.name.now)))
    (sym c.if-contains.true ∙ c.contains.ensures)

pub returns-in_ok-suffix_form-in-Some : goal.returns-in_ok-suffix_form-in-Some
returns-in_ok-suffix_form-in-Some c = λ rule.
    ap Some (c.in_ok-suffix_form-in-Some.ensures rule)
    ∙ ap (λ made. Some (pattern_rule rule (percent ++ made, percent ++ take c.in-Some.place c.args.name.now))) (take_rest c.args.name.now c.in-Some.place)
    ∙ ap (λ cut. option_map (pattern_rule rule) (option_map (λ place. (percent ++ drop place c.args.name.now, percent ++ take place c.args.name.now)) cut)) c.in-Some.ensures.cut
    ∙ ap (λ b. option_map (pattern_rule rule) (if b then Some (percent, percent ++ c.args.name.now) else option_map (λ place. (percent ++ drop place c.args.name.now, percent ++ take place c.args.name.now)) (suffix_cut c.args.suffixes.now c.args.name.now)))
    (sym c.if-contains.false ∙ c.contains.ensures)
