use Rattle.std.proofs.Common.{◌≡◌, ◌∙◌, ap, map, refl, subst, true, string_bytes}
use Rattle.kati_args.proofs.Common.{IfErr-weaker, IfOk-weaker, App, FailsBy, fault_of, is_simple_and_free, takes}
use Rattle.kati_args.proofs.Depths.{depth_passes}
use Rattle.kati_args.proofs.Taking.{taken_where_found}
use Rattle.kati_args.proofs.matching.matched.Goals as goal

pub returns-clause-taken : goal.returns-clause-taken
returns-clause-taken c =
    let words = map string_bytes c.args.words.now in
    taken_where_found c.try_get_matches_from.result words
    (subst (λ (app : App). is_simple_and_free app ≡ true → FailsBy (fault_of app words) c.try_get_matches_from.result) c.in_ok-command.ensures
    c.try_get_matches_from.ensures.kinds refl)

pub returns-clause-memory : goal.returns-clause-memory
returns-clause-memory c =
    IfErr-weaker c.try_get_matches_from.result _ _
    (λ e passes taken. passes (ap (λ (app : App). takes app (map string_bytes c.args.words.now)) c.in_ok-command.ensures ∙ taken))
    c.try_get_matches_from.ensures.passes

pub returns-clause-depth : goal.returns-clause-depth
returns-clause-depth c =
    IfOk-weaker c.try_get_matches_from.result _ _ (λ m parsed. depth_passes c.in_ok-command.field-0 m c.in_ok-command.ensures parsed) c.try_get_matches_from.ensures.parsed
