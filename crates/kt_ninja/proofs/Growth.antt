-- How growths of a sink follow one another.
use Rattle.std.proofs.Common.{arith, ◌≡◌, ℕ, ◌+◌, List, [], ◌++◌, take, drop, sym, ap, subst, ◌∙◌, append_assoc, append-nil, Option}
use Rattle.kt_ninja.proofs.Common.{take-append-drop, take-add}
use Rattle.kt_ninja.specs.Written.{GrowsByFront, SinkSeen, Takes, appended}

pub appended-append : (taken : Option (List ℕ)) (a b : List ℕ) → appended (appended taken a) b ≡ appended taken (a ++ b)
appended-append taken a b = grind (arith, append_assoc)

pub appended-nil : (taken : Option (List ℕ)) → appended taken [] ≡ taken
appended-nil taken = grind (arith, append-nil)

-- two texts taken one after the other
pub takes_twice : (first second third : SinkSeen) (a b : List ℕ) → Takes first second a → Takes second third b → Takes first third (a ++ b)
takes_twice first second third a b one two = two ∙ ap (λ t. appended t b) one ∙ appended-append first.written a b

-- after a text that was taken, the next one is cut
pub front_after : (first second third : SinkSeen) (a b : List ℕ)
    → Takes first second a → GrowsByFront second third b → GrowsByFront first third (a ++ b)
front_after first second third a b one grows = grind (arith, append_assoc, takes_twice)

-- a text that is cut is a longer text that is cut
pub front_of_more : (old new : SinkSeen) (a b : List ℕ) → GrowsByFront old new a → GrowsByFront old new (a ++ b)
front_of_more old new a b grows = grind (arith, append_assoc)

-- what is taken of a piece in two calls
pub taken_twice : (first second third : SinkSeen) (n k : ℕ) (piece : List ℕ)
    → Takes first second (take n piece) → Takes second third (take k (drop n piece)) → Takes first third (take (n + k) piece)
taken_twice first second third n k piece one two =
    takes_twice first second third (take n piece) (take k (drop n piece)) one two ∙ ap (λ t. appended first.written t) (sym (take-add n k piece))

-- a prefix of what is left of a piece makes a prefix of the piece
pub front_of_rest : (first second third : SinkSeen) (n : ℕ) (piece : List ℕ)
    → Takes first second (take n piece) → GrowsByFront second third (drop n piece) → GrowsByFront first third piece
front_of_rest first second third n piece one grows =
    let P : List ℕ → Type 0 = λ t. GrowsByFront first third t in
    subst P (take-append-drop n piece) (front_after first second third (take n piece) (drop n piece) one grows)

-- the first n bytes of a piece are a prefix of it
pub front_taken : (old new : SinkSeen) (n : ℕ) (piece : List ℕ) → Takes old new (take n piece) → GrowsByFront old new piece
front_taken old new n piece taken = record {
  front = take n piece;
  rest = drop n piece;
  cut = sym (take-append-drop n piece);
  taken = taken;
}
