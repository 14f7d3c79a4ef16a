-- Shell words, path by path.
use Rattle.std.proofs.Common.{arith, ◌≡◌, ℕ, Bool, ◌||◌, List, [], ◌∷◌, ◌++◌, refl, sym, ap, append_assoc, append-nil, map}
use Rattle.kt_ninja_reader.proofs.Common.{Bor, flat_map, join_with_byte, list_any, Bytes, Piece, Plain, bound_text, piece_text, shell_word, shell_words}
use Rattle.kt_ninja_reader.proofs.lemmas.SpelledParts.{expanded_after}

joined_words : (between : ℕ) (path : Bytes) (paths : List Bytes)
    → join_with_byte between (map shell_word (path ∷ paths)) ≡ shell_word path ++ flat_map (λ q. between ∷ shell_word q) paths
joined_words between path [] = sym (append-nil (shell_word path))
joined_words between path (next ∷ paths) = ap (λ later. shell_word path ++ (between ∷ later)) (joined_words between next paths)

pub shell_words-first : (between : ℕ) (path : Bytes) (paths : List Bytes)
    → shell_words between (path ∷ paths) ≡ shell_word path ++ flat_map (λ q. between ∷ shell_word q) paths
unfolding shell_words
shell_words-first between path paths = joined_words between path paths

pub shell_words-none : (between : ℕ) → shell_words between [] ≡ []
unfolding shell_words
shell_words-none between = refl

-- a word and the words after it, put one after the other
pub words_put : (text first last : Bytes) (between : ℕ) (path : Bytes) (paths all : List Bytes) → all ≡ path ∷ paths → first ≡ text ++ shell_word path
    → last ≡ first ++ flat_map (λ q. between ∷ shell_word q) paths → last ≡ text ++ shell_words between all
words_put text first last between path paths all is one more = grind (arith, append_assoc, shell_words-first)

-- what a spelling stands for, run by run
expanded_one : (value_of : Bytes → Bytes) (p : Piece) (ps : List Piece) → bound_text value_of (p ∷ ps) ≡ piece_text value_of p ++ bound_text value_of ps
unfolding bound_text
expanded_one value_of p ps = refl

expanded_none : (value_of : Bytes → Bytes) → bound_text value_of [] ≡ []
unfolding bound_text
expanded_none value_of = refl

pub expanded_run : (value_of : Bytes → Bytes) (text more now plain : Bytes) (p : Piece) (after rest whole : List Piece) → rest ≡ map Plain plain ++ p ∷ after → more ≡ text ++ plain
    → now ≡ more ++ piece_text value_of p → text ++ bound_text value_of rest ≡ bound_text value_of whole → now ++ bound_text value_of after ≡ bound_text value_of whole
expanded_run value_of text more now plain p after rest whole is one two h = grind (arith, expanded_after, expanded_one, append_assoc)

pub expanded_end : (value_of : Bytes → Bytes) (text more plain : Bytes) (after rest whole : List Piece) → rest ≡ map Plain plain ++ after → after ≡ [] → more ≡ text ++ plain
    → text ++ bound_text value_of rest ≡ bound_text value_of whole → more ≡ bound_text value_of whole
expanded_end value_of text more plain after rest whole is end one h = grind (arith, expanded_after, expanded_none, append-nil)

-- a test of borrowed names is one of what they hold
pub any_now : (test : Bytes → Bool) (names : List (Bor Bytes)) → list_any (λ name. test name.now) names ≡ list_any test (map (λ name. name.now) names)
any_now test [] = refl
any_now test (n ∷ ns) = ap (λ r. test n.now || r) (any_now test ns)
