-- Where a pattern's stem is in a name.
use Rattle.std.proofs.Common.{◌≡◌, ℕ, ◌+◌, ◌<◌, ◌≤◌, length, drop, take, arith, Option, Some, None, is_some}
use Rattle.kt_graph.proofs.Common.{slice_range, lt-ltb, le-ltb, drop-drop, length-take, length-drop, IsFirstByte, is_byte, Text, stem_span, list_any-place, first_byte_place, fit_of, has_slash, left_out, matched_part, nonempty, stem_of}

pub slash_found : (text : Text) (found : Option ℕ) → IsFirstByte (is_byte 47) text found → is_some found ≡ has_slash text
slash_found text found' found = grind (arith, first_byte_place, list_any-place, lt-ltb, length, le-ltb)

-- no stem
pub no_fit : (pattern name part : Text) → part ≡ matched_part pattern name → stem_span pattern part ≡ None → fit_of pattern name ≡ None
unfolding fit_of stem_of
no_fit pattern name part is none = grind arith

-- a stem without a byte is none
pub empty_fit : (pattern name part : Text) (start end : ℕ) → part ≡ matched_part pattern name → stem_span pattern part ≡ Some (start, end) → end ≤ start
    → fit_of pattern name ≡ None
unfolding fit_of stem_of
empty_fit pattern name part start end is found empty = grind arith

nonempty_is : (text : Text) → 0 < length text → nonempty text ≡ Some text
nonempty_is text some = grind arith

-- places in a part are places in the whole
places_in : (name : Text) (directory start end : ℕ) → slice_range name (directory + start) (directory + end) ≡ slice_range (drop directory name) start end
places_in name directory start end = grind (arith, drop-drop)

-- a stem in a part of a name, by its places in the name
pub fit_found : (pattern name part : Text) (directory start end : ℕ) → take directory name ≡ left_out pattern name → drop directory name ≡ matched_part pattern name
    → part ≡ drop directory name → stem_span pattern part ≡ Some (start, end) → start < end → end ≤ length part
    → Some (take directory name, slice_range name (directory + start) (directory + end)) ≡ fit_of pattern name
unfolding fit_of stem_of
fit_found pattern name part directory start end front after is found some within = grind (arith, slice_range, places_in, length, length-take, length-drop, nonempty_is, take)
