use Rattle.std.proofs.Common.{◌∷◌, [], subst, sym}
use Rattle.kt_graph.proofs.Common.{map-append, NumberedPart, PutsParts, part_held, parts_held}
use Rattle.kt_graph.proofs.lemmas.nodes.StoredLemmas.{grew_after, grew_none, puts_more, puts_none}
use Rattle.kt_graph.proofs.nodes.stored.put_parts.Goals as goal

pub loop-one-init : goal.loop-one-init
loop-one-init c = record { grew = grew_none c.args.held.now.items c.args.rows.now; put = puts_none c.args.held.now.items c.args.rows.now }

pub loop-one-preserved : goal.loop-one-preserved
loop-one-preserved c =
    let old = c.args.held.now.items in
    let held = c.loop-one.held.items in
    let rows = c.loop-one.rows in
    let new = c.put_part.new.rows in
    let one = c.in-Some.one in
    let kept = c.loop-one.invariant.grew in
    record {
      grew = grew_after old held c.put_part.new.held.items c.args.rows.now rows new kept c.in_ok-put_part.ensures.grew;
      put = subst (PutsParts old c.put_part.new.held.items new) (sym (map-append (λ (p : NumberedPart). part_held p.part p.needs) c.loop-one.yielded (one ∷ [])))
          (puts_more old held c.put_part.new.held.items rows new (parts_held c.loop-one.yielded) (part_held one.part one.needs ∷ [])
          (kept.within c.requires) c.in_ok-put_part.ensures.grew.more_rows c.loop-one.invariant.put c.in_ok-put_part.ensures.put);
    }

pub returns-in_err-put_part-clause-grew : goal.returns-in_err-put_part-clause-grew
returns-in_err-put_part-clause-grew c =
    grew_after c.args.held.now.items c.loop-one.held.items c.put_part.new.held.items c.args.rows.now c.loop-one.rows c.put_part.new.rows
    c.loop-one.invariant.grew c.in_err-put_part.ensures.grew
