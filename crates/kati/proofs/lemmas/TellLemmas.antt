-- What is written to a sink in pieces, and what is reported at the end.
use Rattle.std.proofs.Common.{◌≡◌, ◌≤◌, ◌++◌, Result, Ok, Err, refl, inl, inr, arith, IfErr, OnErr, OnOk}
use Rattle.kati.proofs.Common.{Rises, Text, GrowsByFront, SinkSeen, Takes, front_after, front_of_more, takes_twice, RunFault, Status, devices, FilesSeen}
use Rattle.kati.specs.ErrorOutput.{WritesOrFails, ReportsEnd, fault_words}

-- the first piece was taken, and the others are written after it
pub told_after : (a b : Text) (old middle new : SinkSeen) → old.failed ≤ middle.failed → Takes old middle a → WritesOrFails b middle new
    → WritesOrFails (a ++ b) old new
told_after a b old middle new counts one (inl whole) = inl (takes_twice old middle new a b one whole)
told_after a b old middle new counts one (inr cut) = inr (omega (arith, cut.0), front_after old middle new a b one cut.1)

-- the first piece was taken in part
pub told_cut : (a b : Text) (old new : SinkSeen) → Rises old.failed new.failed → GrowsByFront old new a → WritesOrFails (a ++ b) old new
told_cut a b old new fails grows = inr (fails, front_of_more old new a b grows)

-- what one call of `put` leaves
pub told_by : {A B : Type 0} (result : Result A B) (text : Text) (old new : SinkSeen)
    → OnOk result (Takes old new text) → OnErr result (GrowsByFront old new text) → OnErr result (Rises old.failed new.failed)
    → WritesOrFails text old new
told_by (Ok x) text old new whole cut fails = inl whole
told_by (Err e) text old new whole cut fails = inr (fails, cut)

-- what is reported at the end goes to the error output alone
pub told_end : (result : Result Status RunFault) (files : FilesSeen) (out err err' : SinkSeen) → OnOk result (err' ≡ err)
    → IfErr result (λ fault. WritesOrFails (fault_words fault) err err') → ReportsEnd result (devices files out err) (devices files out err')
told_end (Ok status) files out err err' same told = grind arith
told_end (Err fault) files out err err' same told = (refl, refl, told)
