-- The parts of a file name, by the places of its last slash and dot.
use Rattle.std.proofs.Common.{◌≡◌, ℕ, ◌+◌, ◌-◌, ◌<◌, ◌≤◌, length, drop, take, refl, sym, ◌∙◌, ap, arith, Some, None, not}
use Rattle.kt_text.proofs.Common.{suffix_len, take_rest, length-drop, eq-eqb, ne_eqb, IsLastByte, is_byte, Text, name_place, name_part, suffix_place}
use Rattle.kt_text.proofs.lemmas.PlaceLemmas.{last_found, none_found_last}

pub slash_found : (word : Text) (place : ℕ) → IsLastByte (is_byte 47) word (Some place) → place + 1 ≡ name_place word
slash_found word place found = omega (arith, last_found (is_byte 47) word place found, found.0.high)

pub no_slash_found : (word : Text) → IsLastByte (is_byte 47) word None → 0 ≡ name_place word
no_slash_found word found = omega (arith, none_found_last (is_byte 47) word found)

pub dot_found : (word : Text) (place dot : ℕ) → place ≡ name_place word → place ≤ length word
    → IsLastByte (is_byte 46) (take (length word - place) (drop place word)) (Some dot) → place + dot ≡ suffix_place word
dot_found word place dot at bound found =
    let name : take (length word - place) (drop place word) ≡ name_part word = take_rest word place ∙ ap (λ n. drop n word) at in
    let after = last_found (is_byte 46) (name_part word) dot (rw name at found) in
    let inside : dot < length (name_part word) = (rw name at found).0.high in
    let long : length (name_part word) ≡ length word - place = length-drop (name_place word) word ∙ ap (λ n. length word - n) (sym at) in
    let some : suffix_len (λ byte. not (is_byte 46 byte)) (name_part word) ≡ length (name_part word) → ⊥ = λ e. omega arith in
    rw (ne_eqb _ _ some) (omega arith)

pub no_dot_found : (word : Text) (place : ℕ) → place ≡ name_place word
    → IsLastByte (is_byte 46) (take (length word - place) (drop place word)) None → length word ≡ suffix_place word
no_dot_found word place at found =
    let name : take (length word - place) (drop place word) ≡ name_part word = take_rest word place ∙ ap (λ n. drop n word) at in
    let after = none_found_last (is_byte 46) (name_part word) (rw name at found) in
    rw (eq-eqb _ _ after) refl

pub ruleset name_places = (slash_found, no_slash_found, dot_found, no_dot_found)
