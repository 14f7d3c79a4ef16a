-- Prerequisites before and after the bar.
use Rattle.std.proofs.Common.{◌≡◌, Bool, true, false, List, [], ◌∷◌, ◌++◌, map, sym, ◌∙◌, ap, arith, ⊎_elim, append_assoc, append-nil, if◌then◌else◌}
use Rattle.kt_rules.proofs.Common.{after_first, before_first, cases_Bool, Text, Needs, name_of, is_bar, needs_of}

-- the prerequisites that words add to those read so far, whether `|` was read or not; `name` gives a word's name
unfoldable pub needs_from : (Text → Text) → Bool → List Text → List Text → List Text → Needs
needs_from name past before after [] = record { prerequisites = before; order_only = after }
needs_from name true before after (word ∷ words) = needs_from name true before (after ++ name word ∷ []) words
needs_from name false before after (word ∷ words) =
    if is_bar word then needs_from name true before after words else needs_from name false (before ++ name word ∷ []) after words

module _ (name : Text → Text) where
  -- after `|` all are order-only
  after_all : (before after words : List Text) → needs_from name true before after words ≡ record { prerequisites = before; order_only = after ++ map name words }
  unfolding needs_from
  after_all before after [] = ap (λ l. record { prerequisites = before; order_only = l }) (sym (append-nil after))
  after_all before after (word ∷ words) =
      after_all before (after ++ name word ∷ []) words
      ∙ ap (λ l. record { prerequisites = before; order_only = l }) (append_assoc after (name word ∷ []) (map name words))

  -- a word that isn't `|` is before it
  before-cons : (word : Text) (words : List Text) → is_bar word ≡ false → before_first is_bar (word ∷ words) ≡ word ∷ before_first is_bar words
  before-cons word words h = rw h (grind arith)

  -- and not after it
  after-cons : (word : Text) (words : List Text) → is_bar word ≡ false → after_first is_bar (word ∷ words) ≡ after_first is_bar words
  after-cons word words h = rw h (grind arith)

  -- before `|` was read
  pub before_all : (before words : List Text) → needs_from name false before [] words ≡ record { prerequisites = before ++ map name (before_first is_bar words); order_only = map name (after_first is_bar words) }
  unfolding needs_from
  before_all before [] = ap (λ l. record { prerequisites = l; order_only = [] }) (sym (append-nil before))
  before_all before (word ∷ words) =
      ⊎_elim (λ h. rw h (after_all before [] words ∙ ap (λ l. record { prerequisites = l; order_only = map name words }) (sym (append-nil before))))
      (λ h. rw (before-cons word words h, after-cons word words h) (rw h (before_all (before ++ name word ∷ []) words
      ∙ ap (λ l. record { prerequisites = l; order_only = map name (after_first is_bar words) }) (append_assoc before (name word ∷ []) (map name (before_first is_bar words))))))
      (cases_Bool (is_bar word))

-- read from the start, they are the prerequisites of the words
pub needs_from_start : (words : List Text) → needs_from name_of false [] [] words ≡ needs_of words
unfolding needs_of
needs_from_start words = before_all name_of [] words
