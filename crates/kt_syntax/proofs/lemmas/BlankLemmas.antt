-- Lines that begin with their comment, or hold nothing.
use Rattle.std.proofs.Common.{arith, ◌≡◌, ◌∙◌, Bool, false, true, [], ◌∷◌, refl, sym, ap}
use Rattle.kt_syntax.proofs.Common.{eqb-true, Text, is_blank, without_newline, begins_comment, before_comment, blank, form_of, kind_within, line_form, mask_from, mask_of, more_masked}
use Rattle.kt_syntax.proofs.lemmas.CondensedBegins.{begins_alike}

comment_kind : (text : Text) (tab : Bool) → blank ≡ form_of (35 ∷ text) tab
unfolding form_of kind_within before_comment mask_of mask_from more_masked
comment_kind text tab = refl

pub comment_is_blank : (text : Text) (tab : Bool) → begins_comment text ≡ true → blank ≡ form_of text tab
unfolding form_of kind_within before_comment mask_of mask_from
comment_is_blank text tab h = grind (arith, eqb-true, comment_kind)

-- condensing leaves such a begin as it is
pub comment_line : (line : Text) → begins_comment line ≡ true → line_form line false ≡ blank
unfolding is_blank
comment_line [] h = ap (λ text. form_of text false) (without_newline [] refl) ∙ sym (comment_is_blank [] false refl)
comment_line (byte ∷ line) h =
    let begun = begins_alike 35 line (record { blank = refl; backslash = refl; newline = refl; return = refl }) in
    rw (eqb-true byte 35 h) (ap (λ text. form_of text false) begun.1 ∙ sym (comment_kind begun.0 false))
