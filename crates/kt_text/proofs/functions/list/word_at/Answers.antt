use Rattle.std.proofs.Common.{◌≡◌, List, ℕ, [], ap, refl, ◌∙◌, Option, Some, None, unwrap_or, option_map}
use Rattle.kt_text.proofs.Common.{Bor, words_of}
use Rattle.std.proofs.lemmas.Iterator.Consumers.{YieldsList-from_first, nth_from_yields_List}
use Rattle.kt_text.proofs.functions.list.word_at.Goals as goal

now-unwrap_or : (found : Option (Bor (List ℕ))) (empty : Bor (List ℕ)) → (unwrap_or found empty).now ≡ unwrap_or (option_map (λ text. text.now) found) empty.now
now-unwrap_or None empty = refl
now-unwrap_or (Some word) empty = refl

pub returns : goal.returns
returns c =
    let found = nth_from_yields_List c.nth.result c.nth.new.self c.args.i c.nth.ensures.ran (YieldsList-from_first (λ x. x.now) (λ rest. rest) (words_of c.args.text.now) c.words.ensures.value) in
    ap (λ word. word.now) c.unwrap_or.ensures ∙ now-unwrap_or c.nth.result _ ∙ ap (λ word. unwrap_or word []) found
