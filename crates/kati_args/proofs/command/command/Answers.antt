use Rattle.std.proofs.Common.{◌≡◌, rules, ◌∙◌, ap₂, codes}
use Rattle.kati_args.proofs.Common.{IfOk-weaker, app_of, new_app, with_rule}
use Rattle.kati_args.proofs.command.command.Goals as goal

pub returns : goal.returns
returns c =
    let start : app_of c.after_help.result ≡ new_app (codes "kati") = search rules in
    let one = c.in_ok-arg.ensures.shape c.makefile.ensures.own ∙ ap₂ with_rule start c.makefile.ensures.rule in
    let two = c.in_ok-arg-2.ensures.shape c.ninja.ensures.own ∙ ap₂ with_rule one c.ninja.ensures.rule in
    let three = c.in_ok-arg-3.ensures.shape c.file.ensures.own ∙ ap₂ with_rule two c.file.ensures.rule in
    let four = c.in_ok-arg-4.ensures.shape c.file-2.ensures.own ∙ ap₂ with_rule three c.file-2.ensures.rule in
    let five = c.in_ok-arg-5.ensures.shape c.depth.ensures.own ∙ ap₂ with_rule four c.depth.ensures.rule in
    IfOk-weaker c.arg-6.result _ _ (λ command added. added.shape c.words.ensures.own ∙ ap₂ with_rule five c.words.ensures.rule) c.arg-6.ensures
