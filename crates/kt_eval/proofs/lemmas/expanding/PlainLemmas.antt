-- What a term gives without a further level is its expansion.
use Rattle.std.proofs.Common.{◌≡◌, ℕ, zero, suc, ◌+◌, Bool, true, false, not, ◌==◌, ◌&&◌, [], ◌∷◌, length, Option, Some, None, if◌then◌else◌, refl, sym, ap, ◌∙◌, arith, true≢false, is_some}
use Rattle.kt_eval.proofs.Common.{and_parts, eq-eqb, not-true, list_all, list_any, position_or_len, Text, is_colon, is_separator, Mark, Byte, Parentheses, Braces, Term, literal, dollar, reference, unclosed, Flavour, Deferred, Immediate, FoundValue, Nothing, Value, Whole, Store, World, lookup, Gave, refers, asked_of, request_by_mark, naming_of, Evaluator, flavoured, value_of, body_of, value_named, referred, term_of, above, evaluator}
use Rattle.kt_eval.specs.declared.state.TermRest.{TermRest}
use Rattle.kt_eval.specs.inner.Plain.{is_plain, put_if, left_unless, put_of, still_deferred, value_left, put_by}
use Rattle.kt_eval.specs.inner.Plain.{left_by}
use Rattle.kt_eval.specs.views.expanding.Calls.{is_name_byte, names_plainly}
use Rattle.kt_eval.proofs.lemmas.expanding.LiteralLemmas.{stays}

pub no_text : (text : Text) → None ≡ Some text → ⊥
no_text text is = true≢false (sym (ap is_some is))

-- ---- a value

neither_is : (a b : Bool) → (not a && not b) ≡ true → b ≡ false
neither_is true b is = absurd (true≢false (sym is))
neither_is false true is = absurd (true≢false (sym is))
neither_is false false is = refl

plain_is : (reads : Bool) (store : Store) (below : ℕ) (flavour : Flavour) (value : Text) (w : World) → is_plain below flavour value ≡ true
    → flavoured (evaluator reads store below) flavour value w ≡ Gave w value
unfolding evaluator above
plain_is reads store below Immediate value w is = refl
plain_is reads store zero Deferred value w is = absurd (true≢false (sym is))
plain_is reads store (suc below) Deferred value w is = grind (arith, stays, neither_is)

deferred_is : (e : Evaluator) (below : ℕ) (flavour : Flavour) (value : Text) (w : World) → is_plain below flavour value ≡ false
    → flavoured e flavour value w ≡ e.expand value w
deferred_is e below Immediate value w is = absurd (true≢false is)
deferred_is e below Deferred value w is = refl

module _ (reads : Bool) (store : Store) (below : ℕ) where
  put_when : (flavour : Flavour) (value : Text) (w : World) (b : Bool) → is_plain below flavour value ≡ b → None ≡ left_unless b value
      → flavoured (evaluator reads store below) flavour value w ≡ Gave w (put_if b value)
  put_when flavour value w true is none = plain_is reads store below flavour value w is
  put_when flavour value w false is none = absurd (no_text value none)

  -- a value that expands to itself is appended as it is
  pub value_put : (found : Option FoundValue) (w : World) → None ≡ still_deferred below found
      → value_of (evaluator reads store below) found w ≡ Gave w (put_of below found)
  unfolding value_of put_of still_deferred
  value_put None w is = refl
  value_put (Some found) w is = put_when found.flavour found.value w (is_plain below found.flavour found.value) refl is

  left_when : (flavour : Flavour) (value text : Text) (w : World) (b : Bool) → is_plain below flavour value ≡ b → Some text ≡ left_unless b value
      → (flavoured (evaluator reads store below) flavour value w ≡ (evaluator reads store below).expand text w) × (put_if b value ≡ [])
  left_when flavour value text w true is some = absurd (no_text text (sym some))
  left_when flavour value text w false is some = grind (arith, deferred_is)

  -- a value that remains is expanded, and nothing of it was appended
  pub value_expanded : (found : Option FoundValue) (text : Text) (w : World) → Some text ≡ still_deferred below found
      → (value_of (evaluator reads store below) found w ≡ (evaluator reads store below).expand text w) × (put_of below found ≡ [])
  unfolding value_of put_of still_deferred
  value_expanded None text w is = absurd (no_text text (sym is))
  value_expanded (Some found) text w is = grind (arith, left_when)

-- ---- a name

-- a byte of a plain name is no dollar, no colon and no separator
byte_parts : (byte : ℕ) → is_name_byte byte ≡ true → ((byte == 36) ≡ false) × (((byte == 58) ≡ false) × (is_separator byte ≡ false))
unfolding is_name_byte
byte_parts byte is = grind (arith, and_parts, not, not-true)

no_dollar : (name : Text) → list_all is_name_byte name ≡ true → list_any (λ byte. byte == 36) name ≡ false
no_dollar [] is = refl
no_dollar (byte ∷ name) is =
    let parts = and_parts (is_name_byte byte) (list_all is_name_byte name) is in
    rw ((byte_parts byte parts.0).0, no_dollar name parts.1) refl

no_colon : (name : Text) → list_all is_name_byte name ≡ true → list_any is_colon name ≡ false
no_colon [] is = refl
no_colon (byte ∷ name) is =
    let parts = and_parts (is_name_byte byte) (list_all is_name_byte name) is in
    rw ((byte_parts byte parts.0).1.0, no_colon name parts.1) refl

no_separator : (name : Text) → list_all is_name_byte name ≡ true → position_or_len is_separator name ≡ length name
no_separator [] is = refl
no_separator (byte ∷ name) is =
    let parts = and_parts (is_name_byte byte) (list_all is_name_byte name) is in
    let more : 1 + length name ≡ suc (length name) = omega arith in
    rw ((byte_parts byte parts.0).1.1, no_separator name parts.1) more

named_is : (e : Evaluator) (name : Text) (w : World) → list_all is_name_byte name ≡ true
    → referred e (refers name) w ≡ value_of e (lookup name w) w
unfolding referred body_of naming_of value_named
named_is e name w is = rw (no_dollar name is) (rw (no_colon name is) refl)

asked_is : (mark : Mark) (name : Text) → list_all is_name_byte name ≡ true → asked_of mark name ≡ refers name
unfolding asked_of
asked_is mark name is = rw (eq-eqb (position_or_len is_separator name) (length name) (no_separator name is)) refl

pub plainly_is : (e : Evaluator) (mark : Mark) (name : Text) (w : World) → names_plainly mark name ≡ true
    → referred e (request_by_mark mark name) w ≡ value_of e (lookup name w) w
unfolding request_by_mark names_plainly
plainly_is e Byte name w is = grind (arith, and_parts, length, named_is)
plainly_is e Parentheses name w is = rw (asked_is Parentheses name is) (named_is e name w is)
plainly_is e Braces name w is = rw (asked_is Braces name is) (named_is e name w is)

-- ---- a term

abbrev is_nothing : TermRest → Bool
is_nothing Nothing = true
is_nothing (Value text) = false
is_nothing Whole = false

abbrev is_value : TermRest → Bool
is_value Nothing = false
is_value (Value text) = true
is_value Whole = false

abbrev text_of : TermRest → Option Text
text_of Nothing = None
text_of (Value text) = Some text
text_of Whole = None

none_left : (left : Option Text) → Nothing ≡ value_left left → None ≡ left
none_left None is = refl
none_left (Some text) is = absurd (true≢false (ap is_nothing is))

some_left : (left : Option Text) (text : Text) → Value text ≡ value_left left → Some text ≡ left
some_left None text is = absurd (true≢false (ap is_value is))
some_left (Some other) text is = ap text_of is

not_whole : (left : Option Text) → Whole ≡ value_left left → ⊥
not_whole None is = true≢false (ap is_nothing (sym is))
not_whole (Some text) is = true≢false (ap is_value (sym is))

module _ (reads : Bool) (store : Store) (below : ℕ) where
  named_put : (mark : Mark) (body : Text) (w : World) (b : Bool) → names_plainly mark body ≡ b
      → Nothing ≡ (if b then value_left (still_deferred below (lookup body w)) else Whole)
      → referred (evaluator reads store below) (request_by_mark mark body) w ≡ Gave w (if b then put_of below (lookup body w) else [])
  named_put mark body w true is left = grind (arith, plainly_is, value_put, none_left)
  named_put mark body w false is left = absurd (true≢false (ap is_nothing left))

  -- if nothing remains, what was appended is the term's expansion
  pub term_put : (piece : Term) (w : World) → Nothing ≡ left_by below piece w
      → term_of (evaluator reads store below) piece w ≡ Gave w (put_by below piece w)
  unfolding term_of left_by put_by
  term_put (literal bytes) w is = refl
  term_put dollar w is = refl
  term_put (reference mark body) w is = named_put mark body w (names_plainly mark body) refl is
  term_put unclosed w is = absurd (true≢false (ap is_nothing is))

  named_left : (mark : Mark) (body text : Text) (w : World) (b : Bool) → names_plainly mark body ≡ b
      → Value text ≡ (if b then value_left (still_deferred below (lookup body w)) else Whole)
      → (referred (evaluator reads store below) (request_by_mark mark body) w ≡ (evaluator reads store below).expand text w)
      × ((if b then put_of below (lookup body w) else []) ≡ [])
  named_left mark body text w true is left =
      let found = value_expanded reads store below (lookup body w) text w (some_left (still_deferred below (lookup body w)) text left) in
      (plainly_is (evaluator reads store below) mark body w is ∙ found.0, found.1)
  named_left mark body text w false is left = absurd (true≢false (ap is_value left))

  -- if a value remains, its expansion is the term's, and nothing was appended
  pub term_left : (piece : Term) (text : Text) (w : World) → Value text ≡ left_by below piece w
      → (term_of (evaluator reads store below) piece w ≡ (evaluator reads store below).expand text w) × (put_by below piece w ≡ [])
  unfolding term_of left_by put_by
  term_left (literal bytes) text w is = absurd (true≢false (ap is_value is))
  term_left dollar text w is = absurd (true≢false (ap is_value is))
  term_left (reference mark body) text w is = named_left mark body text w (names_plainly mark body) refl is
  term_left unclosed text w is = absurd (true≢false (ap is_value is))

-- if the whole term remains, nothing was appended
named_whole : (below : ℕ) (body : Text) (w : World) (b : Bool) → Whole ≡ (if b then value_left (still_deferred below (lookup body w)) else Whole)
    → (if b then put_of below (lookup body w) else []) ≡ []
named_whole below body w true left = absurd (not_whole (still_deferred below (lookup body w)) left)
named_whole below body w false left = refl

pub term_whole : (below : ℕ) (piece : Term) (w : World) → Whole ≡ left_by below piece w → put_by below piece w ≡ []
unfolding left_by put_by
term_whole below (literal bytes) w is = absurd (true≢false (ap is_nothing (sym is)))
term_whole below dollar w is = absurd (true≢false (ap is_nothing (sym is)))
term_whole below (reference mark body) w is = named_whole below body w (names_plainly mark body) is
term_whole below unclosed w is = refl
