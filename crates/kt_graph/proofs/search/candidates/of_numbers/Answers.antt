use Rattle.std.proofs.Common.{◌<◌, length, ◌∙◌, arith}
use Rattle.kt_graph.proofs.Common.{append-nil, drop_all}
use Rattle.kt_graph.proofs.lemmas.search.EndLemmas.{numbered_more, within_with}
use Rattle.kt_graph.proofs.lemmas.search.CandidateViewLemmas.{read_itself}
use Rattle.kt_graph.proofs.search.candidates.of_numbers.Goals as goal

pub loop-number-preserved : goal.loop-number-preserved
loop-number-preserved c =
    let i = c.loop-number.number-index in
    let within : i < length c.args.numbers.now = omega arith in
    record {
      left = numbered_more c.args.patterns.now c.args.name.now c.args.numbers.now i _ c.loop-number.candidates.items c.add.new.candidates.items c.candidate_numbered.result
          within (read_itself c.args.numbers.now i _ within) c.candidate_numbered.ensures.candidate c.in_ok-add.ensures ∙ c.loop-number.invariant.left;
      within = within_with c.args.patterns.now c.args.name.now c.loop-number.candidates.items c.add.new.candidates.items c.candidate_numbered.result
          c.candidate_numbered.ensures.within c.in_ok-add.ensures c.loop-number.invariant.within;
    }

pub returns-clause-matching : goal.returns-clause-matching
returns-clause-matching c = grind (arith, drop_all, append-nil)
