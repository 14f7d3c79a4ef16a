use Rattle.std.proofs.Common.{◌++◌, ◌∷◌, ◌∙◌, [], ap, fold, map, subst, sym, take}
use Rattle.kt_graph.proofs.Common.{map-append, with_name, rule_view, all_needs, suffixes_of, NumberedPart, needed_by_parts, SayParts, part_held, parts_held, own_part, SaysPart}
use Rattle.kt_graph.proofs.lemmas.nodes.BuildingLemmas.{needed_more, one_more_part}
use Rattle.kt_graph.proofs.lemmas.nodes.NumberLemmas.{parts_more}
use Rattle.kt_graph.proofs.lemmas.nodes.OfLemmas.{rule_of}
use Rattle.kt_graph.proofs.nodes.building.double_parts.Goals as goal

pub loop-rule-preserved : goal.loop-rule-preserved
loop-rule-preserved c =
    let own = own_part (suffixes_of c.args.book.now) in
    let rules = c.args.rules.now in
    let rule = c.rule-item.result in
    let i = c.loop-rule.rule-index in
    let before = map own (map rule_view (take i rules)) in
    let one = own (rule_view rule) in
    let part = c.in_ok-double_part.field-0 in
    let new = c.double_part.new.names in
    let told = one_more_part own rule_view rules i rule c.loop-rule-test.true c.rule-item.is in
    record {
      say = λ name of. subst (λ l. SayParts new name l (parts_held c.push.new.self.items)) (sym told)
          (subst (λ l. SayParts new name (before ++ one ∷ []) l)
          (sym (ap parts_held c.in_ok-push.ensures.items ∙ map-append (λ (p : NumberedPart). part_held p.part p.needs) c.loop-rule.parts.items (part ∷ [])))
          (parts_more c.loop-rule.names new (all_needs one.needs) name before (parts_held c.loop-rule.parts.items) one (part_held part.part part.needs)
          c.in_ok-double_part.ensures.reached (c.loop-rule.invariant.say name of)
          (subst (λ n. SaysPart new n one (part_held part.part part.needs)) (rule_of name rules i rule of c.loop-rule-test.true c.rule-item.is) c.in_ok-double_part.ensures.says)));
      reached = needed_more c.args.names.now c.loop-rule.names new before one c.loop-rule.invariant.reached c.in_ok-double_part.ensures.reached
          ∙ ap (λ l. fold with_name c.args.names.now (needed_by_parts l)) (sym told);
    }
