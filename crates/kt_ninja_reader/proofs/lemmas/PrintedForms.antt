-- The lines that the printer writes, cut as a reader cuts them.
use Rattle.std.proofs.Common.{arith, rules, ◌≡◌, ◌∙◌, ℕ, List, [], ◌∷◌, ◌++◌, refl, sym, ap, ap₂, map, append-nil, eq-eqb, Bool, true, false, not, ◌==◌, ◌||◌, Some, filter, codes}
use Rattle.kt_ninja_reader.proofs.Common.{list_all, list_any, flat_map, slice_split, option_and_then, and_from, and_parts, not-true, Bytes, Piece, Plain, Build, BuildInputs, Spelling, binding_of, bound_to, build_after, build_cut, build_of, defaults_of, build_inputs, is_plain_byte, name_bytes, single_name, paths_of, rule_name_in, without_lead, spelled_words, is_empty}
use Rattle.std.proofs.lemmas.List.Elements.{filter-append}
use Rattle.kt_ninja_reader.proofs.lemmas.PrintedPieces.{all_both, all_implies, neither, piece_by}
use Rattle.kt_ninja_reader.proofs.lemmas.PrintedNames.{command_pieces, is_name_piece, is_word}

-- ---- cutting at a plain byte

-- not this byte, written without a dollar
abbrev pub lacks : ℕ → Piece → Bool
lacks c p = not (is_plain_byte c p)

-- pieces without it are one part
pub uncut : (c : ℕ) (ps : Spelling) → list_all (lacks c) ps ≡ true → slice_split (is_plain_byte c) ps ≡ ps ∷ []
uncut c [] e = refl
uncut c (p ∷ ps) e =
    let both = and_parts (lacks c p) (list_all (lacks c) ps) e in
    rw (not-true (is_plain_byte c p) both.0, uncut c ps both.1) refl

-- the first part ends where it first stands
pub cut_here : (c : ℕ) (ps qs : Spelling) → list_all (lacks c) ps ≡ true → slice_split (is_plain_byte c) (ps ++ Plain c ∷ qs) ≡ ps ∷ slice_split (is_plain_byte c) qs
cut_here c [] qs e = rw (eq-eqb c c refl) refl
cut_here c (p ∷ ps) qs e =
    let both = and_parts (lacks c p) (list_all (lacks c) ps) e in
    rw (not-true (is_plain_byte c p) both.0, cut_here c ps qs both.1) refl

-- it stands nowhere
pub none_plain : (c : ℕ) (ps : Spelling) → list_all (lacks c) ps ≡ true → list_any (is_plain_byte c) ps ≡ false
none_plain c [] e = refl
none_plain c (p ∷ ps) e =
    let both = and_parts (lacks c p) (list_all (lacks c) ps) e in
    rw (not-true (is_plain_byte c p) both.0) (none_plain c ps both.1)

-- a name's pieces have no plain space, colon or bar
name_lacks_space : (p : Piece) → is_name_piece p ≡ true → lacks 32 p ≡ true
name_lacks_space p e = grind (arith, neither, and_parts, not)

name_lacks_colon : (p : Piece) → is_name_piece p ≡ true → lacks 58 p ≡ true
name_lacks_colon p e = grind (arith, neither, and_parts, not)

name_lacks_bar : (p : Piece) → is_name_piece p ≡ true → lacks 124 p ≡ true
name_lacks_bar p e = grind (arith, not, neither, and_parts)

-- ---- words

-- each word after a plain space
abbrev pub spaced : List Spelling → Spelling
spaced words = flat_map (λ w. Plain 32 ∷ w) words

-- each piece of each word passes
pub words_pass : (q : Piece → Bool) → ((p : Piece) → is_name_piece p ≡ true → q p ≡ true) → (ws : List Spelling) → list_all is_word ws ≡ true
    → list_all (list_all q) ws ≡ true
words_pass q each ws e = grind (arith, all_implies, is_word, is_name_piece, and_parts, not)

-- so does the space before each
pub spaced_pass : (q : Piece → Bool) → q (Plain 32) ≡ true → (ws : List Spelling) → list_all (list_all q) ws ≡ true → list_all q (spaced ws) ≡ true
spaced_pass q space [] e = refl
spaced_pass q space (w ∷ ws) e =
    let both = and_parts (list_all q w) (list_all (list_all q) ws) e in
    and_from (q (Plain 32)) _ space (all_both q w (spaced ws) both.0 (spaced_pass q space ws both.1))

-- words after a first one, cut at their spaces
split_spaced : (w : Spelling) (ws : List Spelling) → list_all (lacks 32) w ≡ true → list_all (list_all (lacks 32)) ws ≡ true
    → slice_split (is_plain_byte 32) (w ++ spaced ws) ≡ w ∷ ws
split_spaced w [] e es = rw append-nil (uncut 32 w e)
split_spaced w (v ∷ vs) e es =
    let both = and_parts (list_all (lacks 32) v) (list_all (list_all (lacks 32)) vs) es in
    cut_here 32 w (v ++ spaced vs) e ∙ ap (λ l. w ∷ l) (split_spaced v vs both.0 both.1)

-- no word is empty
kept : (ws : List Spelling) → list_all is_word ws ≡ true → filter (λ w. not (is_empty w)) ws ≡ ws
kept [] e = refl
kept (w ∷ ws) e =
    let both = and_parts (is_word w) (list_all is_word ws) e in
    rw ((and_parts (not (is_empty w)) (list_all is_name_piece w) both.0).0, kept ws both.1) refl

-- an empty part after them is dropped
kept_but_last : (ws : List Spelling) → list_all is_word ws ≡ true → filter (λ w. not (is_empty w)) (ws ++ [] ∷ []) ≡ ws
kept_but_last ws e = filter-append (λ (w : Spelling). not (is_empty w)) ws ([] ∷ []) ∙ append-nil _ ∙ kept ws e

-- words have no plain space
lack_spaces : (ws : List Spelling) → list_all is_word ws ≡ true → list_all (list_all (lacks 32)) ws ≡ true
lack_spaces ws e = words_pass (lacks 32) name_lacks_space ws e

-- the words of a list that begins with its first word
pub words_from : (w : Spelling) (ws : List Spelling) → list_all is_word (w ∷ ws) ≡ true → spelled_words (w ++ spaced ws) ≡ w ∷ ws
unfolding spelled_words
words_from w ws e =
    let lack = and_parts (list_all (lacks 32) w) (list_all (list_all (lacks 32)) ws) (lack_spaces (w ∷ ws) e) in
    ap (filter (λ v. not (is_empty v))) (split_spaced w ws lack.0 lack.1) ∙ kept (w ∷ ws) e

-- words after their spaces, cut there
split_after : (ws : List Spelling) → list_all (list_all (lacks 32)) ws ≡ true → slice_split (is_plain_byte 32) (spaced ws) ≡ [] ∷ ws
split_after [] e = refl
split_after (w ∷ ws) e = grind (arith, and_parts, split_spaced)

-- the words of a list that begins with a space
pub words_after : (ws : List Spelling) → list_all is_word ws ≡ true → spelled_words (spaced ws) ≡ ws
unfolding spelled_words
words_after ws e = ap (filter (λ v. not (is_empty v))) (split_after ws (lack_spaces ws e)) ∙ kept ws e

-- the words with a space after them
abbrev pub ended : List Spelling → List Spelling
ended ws = ws ++ [] ∷ []

-- what their pieces pass, they pass so too
ended_pass : (q : Piece → Bool) (ws : List Spelling) → list_all (list_all q) ws ≡ true → list_all (list_all q) (ended ws) ≡ true
ended_pass q ws e = all_both (list_all q) ws ([] ∷ []) e refl

-- and these are the same words
pub words_ended : (ws : List Spelling) → list_all is_word ws ≡ true → spelled_words (spaced (ended ws)) ≡ ws
unfolding spelled_words
words_ended ws e = search (rules, not, split_after, ended_pass, lack_spaces, kept_but_last)

-- ---- what stands after the colon of a build line

-- words, and implicit and order-only inputs after their bars
abbrev pub after_colon : List Spelling → List Spelling → List Spelling → Spelling
after_colon front [] [] = spaced front
after_colon front (i ∷ is) [] = spaced (ended front) ++ (Plain 124 ∷ spaced (i ∷ is))
after_colon front [] (o ∷ os) = spaced (ended front) ++ (Plain 124 ∷ Plain 124 ∷ spaced (o ∷ os))
after_colon front (i ∷ is) (o ∷ os) =
    spaced (ended front) ++ (Plain 124 ∷ (spaced (ended (i ∷ is)) ++ (Plain 124 ∷ Plain 124 ∷ spaced (o ∷ os))))

-- what spaces, bars and the pieces of words pass, all of it passes
pub after_pass : (q : Piece → Bool) → q (Plain 32) ≡ true → q (Plain 124) ≡ true → (front is os : List Spelling)
    → list_all (list_all q) front ≡ true → list_all (list_all q) is ≡ true → list_all (list_all q) os ≡ true → list_all q (after_colon front is os) ≡ true
after_pass q space bar front is os f i o = grind (arith, spaced_pass, all_both, ended_pass, and_from)

-- words have no plain bar
lack_bars : (ws : List Spelling) → list_all is_word ws ≡ true → list_all (list_all (lacks 124)) ws ≡ true
lack_bars ws e = words_pass (lacks 124) name_lacks_bar ws e

-- words have no plain colon
lack_colons : (ws : List Spelling) → list_all is_word ws ≡ true → list_all (list_all (lacks 58)) ws ≡ true
lack_colons ws e = words_pass (lacks 58) name_lacks_colon ws e

-- nor do they with spaces before them
no_bar : (ws : List Spelling) → list_all is_word ws ≡ true → list_all (lacks 124) (spaced ws) ≡ true
no_bar ws e = spaced_pass (lacks 124) refl ws (lack_bars ws e)

-- or after them
no_bar_ended : (ws : List Spelling) → list_all is_word ws ≡ true → list_all (lacks 124) (spaced (ended ws)) ≡ true
no_bar_ended ws e = spaced_pass (lacks 124) refl (ended ws) (ended_pass (lacks 124) ws (lack_bars ws e))

-- what stands between the bars
abbrev parts_of : List Spelling → List Spelling → List Spelling → List Spelling
parts_of front [] [] = spaced front ∷ []
parts_of front (i ∷ is) [] = spaced (ended front) ∷ spaced (i ∷ is) ∷ []
parts_of front [] (o ∷ os) = spaced (ended front) ∷ [] ∷ spaced (o ∷ os) ∷ []
parts_of front (i ∷ is) (o ∷ os) = spaced (ended front) ∷ spaced (ended (i ∷ is)) ∷ [] ∷ spaced (o ∷ os) ∷ []

-- what stands after the colon, cut at its bars
cut_at_bars : (front is os : List Spelling) → list_all is_word front ≡ true → list_all is_word is ≡ true → list_all is_word os ≡ true
    → slice_split (is_plain_byte 124) (after_colon front is os) ≡ parts_of front is os
cut_at_bars front [] [] f i o = uncut 124 (spaced front) (no_bar front f)
cut_at_bars front (x ∷ xs) [] f i o = search (rules, cut_here, no_bar_ended, uncut, no_bar)
cut_at_bars front [] (y ∷ ys) f i o = search (rules, cut_here, no_bar_ended, uncut, no_bar)
cut_at_bars front (x ∷ xs) (y ∷ ys) f i o = search (rules, cut_here, no_bar_ended, uncut, no_bar)

-- three kinds of inputs
abbrev pub inputs_are : List Spelling → List Spelling → List Spelling → BuildInputs
inputs_are ins is os = record { explicit = ins; implicit = is; order_only = os }

-- a build line
abbrev pub built : List Spelling → Bytes → BuildInputs → Build
built outs name inputs = record { outs = outs; rule_name = name; inputs = inputs }

-- a build line by its parts
with_parts : (outs : List Spelling) (name : Bytes) (rule : Spelling) (ins parts : List Spelling) (front : Spelling) (inputs : BuildInputs) → spelled_words front ≡ rule ∷ ins
    → name_bytes rule ≡ Some name → build_inputs ins parts ≡ Some inputs → build_after outs (front ∷ parts) ≡ Some (built outs name inputs)
with_parts outs name rule ins parts front inputs words named are = grind arith

-- these parts say the inputs
parts_say : (outs : List Spelling) (name : Bytes) (rule : Spelling) (ins is os : List Spelling) → name_bytes rule ≡ Some name
    → list_all is_word (rule ∷ ins) ≡ true → list_all is_word is ≡ true → list_all is_word os ≡ true
    → build_after outs (parts_of (rule ∷ ins) is os) ≡ Some (built outs name (inputs_are ins is os))
parts_say outs name rule ins [] [] named f i o = search (rules, with_parts, words_after)
parts_say outs name rule ins (x ∷ xs) [] named f i o = search (rules, with_parts, words_ended, words_after)
parts_say outs name rule ins [] (y ∷ ys) named f i o = search (rules, with_parts, words_ended, words_after)
parts_say outs name rule ins (x ∷ xs) (y ∷ ys) named f i o =
    with_parts outs name rule ins (spaced (ended (x ∷ xs)) ∷ [] ∷ spaced (y ∷ ys) ∷ []) (spaced (ended (rule ∷ ins))) (inputs_are ins (x ∷ xs) (y ∷ ys))
    (words_ended (rule ∷ ins) f) named
    (ap₂ (λ v w. Some (inputs_are ins v w)) (words_ended (x ∷ xs) i) (words_after (y ∷ ys) o))

-- ---- whole lines

-- paths that the printer writes are read
paths_printed : (o : Spelling) (os : List Spelling) → list_all is_word (o ∷ os) ≡ true → paths_of (o ++ spaced os) ≡ Some (o ∷ os)
paths_printed o os e = search (rules, none_plain, no_bar, words_from)

-- what stands after `build `
abbrev pub after_build : Spelling → List Spelling → List Spelling → List Spelling → List Spelling → Spelling
after_build o os front is ord = (o ++ spaced os) ++ (Plain 58 ∷ after_colon front is ord)

-- a build line that it writes is read
pub build_printed : (o : Spelling) (os : List Spelling) (name : Bytes) (rule : Spelling) (ins is ord : List Spelling) → name_bytes rule ≡ Some name
    → list_all is_word (o ∷ os) ≡ true → list_all is_word (rule ∷ ins) ≡ true → list_all is_word is ≡ true → list_all is_word ord ≡ true
    → build_of (after_build o os (rule ∷ ins) is ord) ≡ Some (built (o ∷ os) name (inputs_are ins is ord))
unfolding build_of
build_printed o os name rule ins is ord named outs front i order =
    let past = after_colon (rule ∷ ins) is ord in
    let before = spaced_pass (lacks 58) refl (o ∷ os) (lack_colons (o ∷ os) outs) in
    let colons = after_pass (lacks 58) refl refl (rule ∷ ins) is ord (lack_colons (rule ∷ ins) front) (lack_colons is i) (lack_colons ord order) in
    ap build_cut (cut_here 58 (o ++ spaced os) past before ∙ ap (λ (l : List Spelling). (o ++ spaced os) ∷ l) (uncut 58 past colons))
    ∙ ap (option_and_then (λ paths. build_after paths (slice_split (is_plain_byte 124) past))) (paths_printed o os outs)
    ∙ ap (build_after (o ∷ os)) (cut_at_bars (rule ∷ ins) is ord front i order)
    ∙ parts_say (o ∷ os) name rule ins is ord named front i order

-- so are default targets
pub defaults_printed : (o : Spelling) (os : List Spelling) → list_all is_word (o ∷ os) ≡ true → defaults_of (o ++ spaced os) ≡ Some (o ∷ os)
unfolding defaults_of
defaults_printed o os e =
    let colons = none_plain 58 (o ++ spaced os) (spaced_pass (lacks 58) refl (o ∷ os) (lack_colons (o ∷ os) e)) in
    rw colons (paths_printed o os e)

-- so is a rule's name
pub rule_printed : (rule : Spelling) (name : Bytes) → is_word rule ≡ true → name_bytes rule ≡ Some name → rule_name_in rule ≡ Some name
unfolding rule_name_in
rule_printed rule name e named =
    let one = ap spelled_words (sym (append-nil rule)) ∙ words_from rule [] (and_from (is_word rule) true e refl) in
    ap single_name one ∙ named

-- a command begins with no plain space
no_lead : (b : ℕ) (special : Bool) → (b == 32 || b == 36) ≡ special → is_plain_byte 32 (piece_by special b) ≡ false
no_lead b special e = grind (arith, neither, not)

-- one space before it is dropped, and no more
lead_dropped : (c : Bytes) → without_lead (Plain 32 ∷ command_pieces c) ≡ command_pieces c
lead_dropped c = grind (arith, no_lead)

-- the line of a rule's command binds it
pub binding_printed : (c : Bytes) → binding_of (map Plain (codes " command = ") ++ command_pieces c) ≡ Some (record { key = codes "command"; value = command_pieces c })
unfolding binding_of spelled_words name_bytes
binding_printed c = ap (λ (v : Spelling). bound_to v (codes "command")) (lead_dropped c)
