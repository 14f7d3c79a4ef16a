-- A text without a dollar expands to itself.
use Rattle.std.proofs.Common.{◌≡◌, false, ◌==◌, [], ◌∷◌, refl, sym, append-nil}
use Rattle.kt_eval.proofs.Common.{or_parts, list_any, Text, dropped, literal, byte_count, terms_of, Evaluator, term_of, each_term, expanded, Gave, World}
use Rattle.kt_syntax.proofs.lemmas.Splitting.{terms_of-nil, term_first}

uncounted : (text : Text) → list_any (λ byte. byte == 36) text ≡ false → byte_count 36 text ≡ 0
unfolding byte_count
uncounted [] free = refl
uncounted (byte ∷ text) free =
    let parts = or_parts (byte == 36) (list_any (λ byte. byte == 36) text) free in
    rw (parts.0, uncounted text parts.1) refl

pub stays : (e : Evaluator) (text : Text) (w : World) → list_any (λ byte. byte == 36) text ≡ false → expanded e text w ≡ Gave w text
unfolding expanded terms_of each_term term_of
stays e [] w free = rw (terms_of-nil dropped) refl
stays e (byte ∷ text) w free =
    rw (term_first dropped (literal (byte ∷ text)) (byte ∷ text) (byte ∷ text) [] (sym (append-nil (byte ∷ text))) (refl, uncounted (byte ∷ text) free, tt), terms_of-nil dropped) refl
