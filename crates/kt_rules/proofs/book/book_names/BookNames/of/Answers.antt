use Rattle.std.proofs.Common.{arith, ◌≡◌, ◌∙◌, ◌∷◌, ◌+◌, ◌||◌, List, drop, ap, subst}
use Rattle.kt_rules.proofs.Common.{flat_map, drop_all, Text, Entry, is_among, entry_view}
use Rattle.kt_rules.specs.Known.{named_by}
use Rattle.kt_rules.specs.inner.Marks.{is_marked}
use Rattle.kt_rules.proofs.lemmas.book.MarkLemmas.{IsMarkedFrom, marked_end, marked_step}
use Rattle.kt_rules.proofs.lemmas.book.SpotLemmas.{rules_past, rules_left}
use Rattle.kt_rules.proofs.book.book_names.BookNames.of.Goals.{in-Some+in_ok-mark_rule-in-Some, in-None}
use Rattle.kt_rules.proofs.book.book_names.BookNames.of.Goals as goal

pub loop-place-preserved : goal.loop-place-preserved
loop-place-preserved c =
    let names = c.args.rules.now.0 in
    let rules = c.args.rules.now.1 in
    let place = c.loop-place.place in
    let named = flat_map (named_by c.args.suffixes.now) in
    let now = c.loop-place.marks in
    let old = c.in_ok-marks.marks in
    elim c.match-get.branch [
      | in-Some+in_ok-mark_rule-in-Some w ↦
          let rule = entry_view w.in-Some.rule in
          let first : drop place rules ≡ rule ∷ drop (place + 1) rules = rules_left rules place rule w.in-Some.ensures.told in
          let new = w.mark_rule.new.self in
          let step : (name : Text) → is_marked names new name ≡ (is_marked names now name || is_among (named_by c.args.suffixes.now rule) name)
          = subst (λ (list : List Text). (name : Text) → is_marked list new name ≡ (is_marked list now name || is_among (named_by c.args.suffixes.now rule) name))
          w.in-Some.ensures.names w.in_ok-mark_rule-in-Some.ensures.marked in
          rw w.marks-is (record {
            marked = marked_step names (named rules) (named (drop place rules)) (named_by c.args.suffixes.now rule) (named (drop (place + 1) rules))
                old now new (ap named first) step c.loop-place.invariant.marked;
            many = w.in_ok-mark_rule-in-Some.ensures.many ∙ c.loop-place.invariant.many;
          })
      | in-None w ↦
          rw w.marks-is (record {
            marked = subst (λ (left : List Text). IsMarkedFrom names (named rules) left old now)
                (ap (λ (rules : List Entry). named rules) (rules_past rules place w.in-None.ensures.told)) c.loop-place.invariant.marked;
            many = c.loop-place.invariant.many;
          })
    ]

pub invariant_of-result : goal.invariant_of-result
invariant_of-result c = grind (arith, drop_all, marked_end)
