-- The lemmas of each step, at the values of the code.
use Rattle.std.proofs.Common.{◌≡◌, ◌+◌, ◌<◌, ◌≤◌, Some, find, length, not, is_some, sym, ap, ◌∙◌, refl, subst, arith, rules, IfSome}
use Rattle.kt_list.proofs.NameLemmas.{name_or}
use Rattle.kt_graph.proofs.Common.{list_all, IfOk-weaker, on_ok_weaker, asking, fitting, is_inferred, is_met, open_candidates, candidate_view, candidates_view}
use Rattle.kt_graph.specs.inner.search.Chains.{IsFound, IsRightFor}
use Rattle.kt_graph.proofs.lemmas.search.AskingLemmas.{length-with_rule}
use Rattle.kt_graph.proofs.lemmas.search.ChainLemmas.{keeps_more, last_leaves, last_ready, stood_found, stood_leaves}
use Rattle.kt_graph.proofs.lemmas.search.TurnLemmas.{asked_past, asked_so, asking_ends, asking_starts, asks_later, asks_no_more, among_past, after_are, finds_later, finds_not, finds_past, fitting_is, inferred_so, infers_later, infers_no_more, met_leaves, none_asked, none_fits, unmet_asked}
use Rattle.kt_graph.proofs.lemmas.search.CandidateViewLemmas.{found_later, found_none, found_this, read_itself}
use Rattle.kt_graph.proofs.search.chains.Chains.+search.Goals as goal

-- ---- names in turn

pub all_found-loop-at-init : goal.all_found-loop-at-init
all_found-loop-at-init t c = grind (arith, asking_starts, length)

pub all_found-returns-in_err-ask-clause-kept : goal.all_found-returns-in_err-ask-clause-kept
all_found-returns-in_err-ask-clause-kept t c = grind (arith, keeps_more)

pub all_found-returns-then-is_none-clause-found : goal.all_found-returns-then-is_none-clause-found
all_found-returns-then-is_none-clause-found t c =
    let names = c.args.names.now in
    let name = c.name_at.result.now in
    let within : c.loop-at.at < length names = omega (arith, c.loop-at-test.true, c.len.ensures.len) in
    let is = c.name_at.ensures ∙ name_or names c.loop-at.at name within in
    finds_not c.args.self.now.patterns c.args.self.now.known.now c.args.left c.args.used.now names c.loop-at.at name within is name refl
    c.in_ok-ask.field-0 c.in_ok-ask.ensures.found _ (c.is_none.ensures ∙ ap not c.if-is_none.true) c.loop-at.invariant.finds

pub all_found-returns-then-is_none-clause-leaves : goal.all_found-returns-then-is_none-clause-leaves
all_found-returns-then-is_none-clause-leaves t c =
    let names = c.args.names.now in
    let name = c.name_at.result.now in
    let within : c.loop-at.at < length names = omega (arith, c.loop-at-test.true, c.len.ensures.len) in
    let is = c.name_at.ensures ∙ name_or names c.loop-at.at name within in
    asks_no_more c.args.self.now.patterns c.args.self.now.known.now c.args.left c.args.used.now names c.loop-at.at name within is name refl
    c.in_ok-ask.field-0 c.in_ok-ask.ensures.found c.args.tried.now c.loop-at.tried c.ask.new.tried _
    (c.is_none.ensures ∙ ap not c.if-is_none.true) c.loop-at.invariant.asks c.in_ok-ask.ensures.leaves c.in_ok-ask.ensures.kept

pub all_found-returns-then-is_none-clause-kept : goal.all_found-returns-then-is_none-clause-kept
all_found-returns-then-is_none-clause-kept t c = grind (arith, keeps_more)

pub all_found-loop-at-preserved : goal.all_found-loop-at-preserved
all_found-loop-at-preserved t c =
    let names = c.args.names.now in
    let name = c.name_at.result.now in
    let within : c.loop-at.at < length names = omega (arith, c.loop-at-test.true, c.len.ensures.len) in
    let is = c.name_at.ensures ∙ name_or names c.loop-at.at name within in
    record {
      asks = asks_later c.args.self.now.patterns c.args.self.now.known.now c.args.left c.args.used.now names c.loop-at.at name within is name refl
          c.in_ok-ask.field-0 c.in_ok-ask.ensures.found c.args.tried.now c.loop-at.tried c.ask.new.tried _
          (c.is_none.ensures ∙ ap not c.if-is_none.false) c.loop-at.invariant.asks c.in_ok-ask.ensures.leaves c.in_ok-ask.ensures.kept;
      finds = finds_later c.args.self.now.patterns c.args.self.now.known.now c.args.left c.args.used.now names c.loop-at.at name within is name refl
          c.in_ok-ask.field-0 c.in_ok-ask.ensures.found _ (c.is_none.ensures ∙ ap not c.if-is_none.false) c.loop-at.invariant.finds;
    }

pub all_found-returns-clause-found : goal.all_found-returns-clause-found
all_found-returns-clause-found t c =
    let rules = c.args.self.now.patterns in
    let known = c.args.self.now.known.now in
    let past : length c.args.names.now ≤ c.loop-at.at = omega (arith, c.loop-at-test.false, c.len.ensures.len) in
    sym (finds_past (fitting rules known c.args.left) (asking rules known c.args.left) c.args.used.now c.args.names.now c.loop-at.at past) ∙ c.loop-at.invariant.finds

pub all_found-returns-clause-leaves : goal.all_found-returns-clause-leaves
all_found-returns-clause-leaves t c = grind (arith, asking_ends, length, asked_past)

pub all_found-returns-clause-kept : goal.all_found-returns-clause-kept
all_found-returns-clause-kept t c = c.loop-at.invariant.asks.kept

-- ---- candidates in turn

pub first_inferred-loop-at-init : goal.first_inferred-loop-at-init
first_inferred-loop-at-init t c = grind (arith, asking_starts, length)

pub first_inferred-returns-in_err-is_inferred-clause-kept : goal.first_inferred-returns-in_err-is_inferred-clause-kept
first_inferred-returns-in_err-is_inferred-clause-kept t c = grind (arith, keeps_more)

pub first_inferred-returns-then-branch-clause-found : goal.first_inferred-returns-then-branch-clause-found
first_inferred-returns-then-branch-clause-found t c = grind (arith, found_this, read_itself)

pub first_inferred-returns-then-branch-clause-leaves : goal.first_inferred-returns-then-branch-clause-leaves
first_inferred-returns-then-branch-clause-leaves t c =
    infers_no_more c.args.self.now.patterns c.args.self.now.known.now c.args.left c.args.name.now c.args.used.now c.args.candidates.now c.loop-at.at
    _ c.loop-at-test.true (read_itself c.args.candidates.now c.loop-at.at _ c.loop-at-test.true) c.requires.within c.in_ok-is_inferred.field-0 c.in_ok-is_inferred.ensures.inferred
    c.args.tried.now c.loop-at.tried c.is_inferred.new.tried (length c.args.used.now + 1) _ c.if-branch.true c.loop-at.invariant.asks c.in_ok-is_inferred.ensures.leaves c.in_ok-is_inferred.ensures.kept

pub first_inferred-returns-then-branch-clause-kept : goal.first_inferred-returns-then-branch-clause-kept
first_inferred-returns-then-branch-clause-kept t c = grind (arith, keeps_more)

pub first_inferred-loop-at-preserved : goal.first_inferred-loop-at-preserved
first_inferred-loop-at-preserved t c =
    let rules = c.args.self.now.patterns in
    let known = c.args.self.now.known.now in
    record {
      asks = infers_later rules known c.args.left c.args.name.now c.args.used.now c.args.candidates.now c.loop-at.at
          _ c.loop-at-test.true (read_itself c.args.candidates.now c.loop-at.at _ c.loop-at-test.true) c.requires.within c.in_ok-is_inferred.field-0 c.in_ok-is_inferred.ensures.inferred
          c.args.tried.now c.loop-at.tried c.is_inferred.new.tried (length c.args.used.now + 1) _ c.if-branch.false c.loop-at.invariant.asks c.in_ok-is_inferred.ensures.leaves c.in_ok-is_inferred.ensures.kept;
      finds = found_later rules c.args.name.now (is_inferred known (fitting rules known c.args.left) c.args.used.now) c.args.candidates.now c.loop-at.at c.loop-at.invariant.finds
          _ c.loop-at-test.true (read_itself c.args.candidates.now c.loop-at.at _ c.loop-at-test.true) c.requires.within c.in_ok-is_inferred.field-0 c.in_ok-is_inferred.ensures.inferred c.if-branch.false;
    }

pub first_inferred-returns-clause-found : goal.first_inferred-returns-clause-found
first_inferred-returns-clause-found t c = grind (arith, found_none)

pub first_inferred-returns-clause-leaves : goal.first_inferred-returns-clause-leaves
first_inferred-returns-clause-leaves t c = grind (arith, asking_ends, length, among_past)

pub first_inferred-returns-clause-kept : goal.first_inferred-returns-clause-kept
first_inferred-returns-clause-kept t c = c.loop-at.invariant.asks.kept

-- ---- one candidate

pub is_inferred-all_found-requires : goal.is_inferred-all_found-requires
is_inferred-all_found-requires t c = grind (arith, length, length-with_rule)

pub is_inferred-returns-clause-inferred : goal.is_inferred-returns-clause-inferred
is_inferred-returns-clause-inferred t c =
    let rules = c.args.self.now.patterns in
    let known = c.args.self.now.known.now in
    IfOk-weaker c.all_found.result
    (λ all. all ≡ list_all (λ n. is_some (fitting rules known c.args.left c.as_slice.result.now n)) c.in_ok-unknown.unknown)
    (λ all. IfSome (candidate_view rules c.args.name.now c.args.candidate) (λ told. all ≡ is_inferred known (fitting rules known c.args.left) c.args.used.now told))
    (λ all found. inferred_so rules known c.args.left c.args.name.now c.args.used.now c.as_slice.result.now c.args.candidate c.in_ok-unknown.unknown c.is_last.result c.if-is_last.false
    c.is_last.ensures (c.as_slice.ensures.value ∙ c.in_ok-chain.ensures) c.in_ok-unknown.ensures all found)
    c.all_found.ensures.found

pub is_inferred-returns-clause-leaves : goal.is_inferred-returns-clause-leaves
is_inferred-returns-clause-leaves t c =
    let rules = c.args.self.now.patterns in
    let known = c.args.self.now.known.now in
    on_ok_weaker c.all_found.result
    (λ leaves. asked_so rules known c.args.left c.args.name.now c.args.used.now c.as_slice.result.now c.args.candidate c.in_ok-unknown.unknown c.is_last.result c.if-is_last.false
    c.is_last.ensures (c.as_slice.ensures.value ∙ c.in_ok-chain.ensures) c.in_ok-unknown.ensures c.args.tried.now c.all_found.new.tried leaves)
    c.all_found.ensures.leaves

-- ---- what makes a name

pub answer-returns-then-left-eq0-clause-found : goal.answer-returns-then-left-eq0-clause-found
answer-returns-then-left-eq0-clause-found t c = grind (arith, none_fits)

pub answer-returns-then-left-eq0-clause-leaves : goal.answer-returns-then-left-eq0-clause-leaves
answer-returns-then-left-eq0-clause-leaves t c =
    none_asked c.args.self.now.patterns c.args.self.now.known.now c.args.tried.now (length c.args.used.now + 1) c.args.left c.args.used.now c.args.name.now c.if-left-eq0.true c.requires.ready

pub answer-returns-clause-found : goal.answer-returns-clause-found
answer-returns-clause-found t c = grind (arith, fitting_is)

pub answer-returns-clause-leaves : goal.answer-returns-clause-leaves
answer-returns-clause-leaves t c = grind (arith, after_are)

pub ask-answer-requires : goal.ask-answer-requires
ask-answer-requires t c =
    let question = c.in_ok-question.ensures in
    let ready : IsRightFor c.args.self.now.patterns c.args.self.now.known.now c.put.new.self (length c.args.used.now + 1)
    = last_ready c.args.self.now.patterns c.args.self.now.known.now c.args.tried.now c.put.new.self c.in_ok-question.question c.in-Last.place c.args.used.now question.1 c.requires.ready
    (rw c.in-Last.is at c.in_ok-answer.ensures.placed) in
    search rules

pub ask-returns-in-Before-clause-leaves : goal.ask-returns-in-Before-clause-leaves
ask-returns-in-Before-clause-leaves t c = grind (arith, stood_leaves)

pub ask-returns-in-Before-clause-found : goal.ask-returns-in-Before-clause-found
ask-returns-in-Before-clause-found t c = grind (arith, stood_found)

pub ask-returns-in_ok-answer-in-Last-clause-leaves : goal.ask-returns-in_ok-answer-in-Last-clause-leaves
ask-returns-in_ok-answer-in-Last-clause-leaves t c =
    let question = c.in_ok-question.ensures in
    let answered = c.in_ok-answer-in-Last.ensures in
    last_leaves c.args.self.now.patterns c.args.self.now.known.now c.args.tried.now c.put.new.self c.in_ok-question.question c.in-Last.place c.args.used.now question.1 c.requires.ready
    (rw c.in-Last.is at c.in_ok-answer.ensures.placed) c.answer.new.tried c.note.new.self c.in_ok-answer-in-Last.answer c.args.left c.args.name.now question.0 c.requires.whole
    answered.leaves answered.kept answered.found (ap (λ set. set.keys) c.note.ensures.questions) c.note.ensures.answers

-- ---- the open candidates

pub first_fitting-returns-in-Some-clause-leaves : goal.first_fitting-returns-in-Some-clause-leaves
first_fitting-returns-in-Some-clause-leaves t c =
    let rules = c.args.self.now.patterns in
    let known = c.args.self.now.known.now in
    let same = ap (candidates_view rules c.args.name.now) c.as_slice.ensures.value ∙ c.in_ok-open.ensures.candidates in
    met_leaves rules known c.args.tried.now (length c.args.used.now + 1) c.args.left c.args.used.now c.args.name.now (open_candidates rules c.args.used.now c.args.name.now) c.in-Some.candidate c.requires.ready
    (subst (λ candidates. IsFound rules c.args.name.now (find (is_met known) candidates) (Some c.in-Some.candidate)) same (rw c.in-Some.is at c.in_ok-candidate.ensures))

pub first_fitting-returns-clause-leaves : goal.first_fitting-returns-clause-leaves
first_fitting-returns-clause-leaves t c = grind (arith, unmet_asked)
