-- How deep in the chain a step is: a question is above the questions that it asks, each of which has one rule more. The
-- loops: what remains to be asked and found from here is what was to be asked and found from the start.
use Rattle.std.proofs.Common.{◌≡◌, ◌+◌, ◌-◌, ◌*◌, length, drop, is_some}
use Rattle.kt_graph.proofs.Common.{find, list_all, questions_among, questions_for, asking, fitting, is_inferred, candidates_view}
use Rattle.kt_graph.proofs.lemmas.search.TurnLemmas.{IsAsking}
use Rattle.kt_graph.proofs.search.chains.Chains.+search.Given as goal

abbrev pub decreases-ask : goal.decreases-ask
decreases-ask l = 6 * l.left + 1

abbrev pub decreases-answer : goal.decreases-answer
decreases-answer l = 6 * l.left

abbrev pub decreases-first_fitting : goal.decreases-first_fitting
decreases-first_fitting l = 6 * l.left + 5

abbrev pub decreases-first_inferred : goal.decreases-first_inferred
decreases-first_inferred l = 6 * l.left + 4

abbrev pub decreases-is_inferred : goal.decreases-is_inferred
decreases-is_inferred l = 6 * l.left + 3

abbrev pub decreases-all_found : goal.decreases-all_found
decreases-all_found l = 6 * l.left + 2

abbrev pub invariant-all_found-loop-at : goal.invariant-all_found-loop-at
invariant-all_found-loop-at l =
    let rules = l.self.patterns in
    let known = l.self.known.now in
    let deeper = fitting rules known l.left in
    record {
      asks : IsAsking rules known l.fn.tried l.tried (length l.used) (questions_for deeper (asking rules known l.left) l.used l.names) (questions_for deeper (asking rules known l.left) l.used (drop l.at l.names));
      finds : list_all (λ name. is_some (deeper l.used name)) (drop l.at l.names) ≡ list_all (λ name. is_some (deeper l.used name)) l.names;
    }

abbrev pub decreases-all_found-loop-at : goal.decreases-all_found-loop-at
decreases-all_found-loop-at l = length l.names - l.at

abbrev pub invariant-first_inferred-loop-at : goal.invariant-first_inferred-loop-at
invariant-first_inferred-loop-at l =
    let rules = l.self.patterns in
    let known = l.self.known.now in
    let deeper = fitting rules known l.left in
    record {
      asks : IsAsking rules known l.fn.tried l.tried (length l.used + 1) (questions_among known deeper (asking rules known l.left) l.used (candidates_view rules l.name l.candidates)) (questions_among known deeper (asking rules known l.left) l.used (candidates_view rules l.name (drop l.at l.candidates)));
      finds : find (is_inferred known deeper l.used) (candidates_view rules l.name (drop l.at l.candidates)) ≡ find (is_inferred known deeper l.used) (candidates_view rules l.name l.candidates);
    }

abbrev pub decreases-first_inferred-loop-at : goal.decreases-first_inferred-loop-at
decreases-first_inferred-loop-at l = length l.candidates - l.at
