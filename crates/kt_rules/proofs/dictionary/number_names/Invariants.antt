use Rattle.std.proofs.Common.{take}
use Rattle.kt_list.specs.views.Prefixes.{HasMore}
use Rattle.kt_list.specs.views.Names.{AreNumbersOf}
use Rattle.kt_rules.proofs.dictionary.number_names.Given as goal

abbrev pub invariant-loop-name : goal.invariant-loop-name
invariant-loop-name l = record {
  numbered : AreNumbersOf l.names l.numbers.items (take l.name-index l.list);
  grown : HasMore l.fn.names l.names;
}
