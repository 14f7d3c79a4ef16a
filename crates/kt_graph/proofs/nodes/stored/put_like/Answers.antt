use Rattle.kt_graph.proofs.lemmas.nodes.StoredLemmas.{grew_like, head_like, one_cut, one_there}
use Rattle.kt_graph.proofs.nodes.stored.put_like.Goals as goal

pub head_like-requires-clause-there : goal.head_like-requires-clause-there
head_like-requires-clause-there c = one_there c.args.parts.now.items c.args.rows.now c.args.heads.now c.args.number c.requires.one

pub head_like-requires-clause-alone : goal.head_like-requires-clause-alone
head_like-requires-clause-alone c = rw c.as_slice.ensures.value (one_cut c.args.parts.now.items c.args.rows.now c.args.heads.now c.args.number c.requires.one)

pub returns-clause-grew : goal.returns-clause-grew
returns-clause-grew c =
    grew_like c.args.parts.now.items c.args.rows.now c.args.heads.now c.args.number c.args.maker (c.in_ok-head.head, c.in_ok-head.needs) c.args.part
    c.of.result c.push.new.self.items c.requires.stored (rw c.as_slice.ensures.value at c.in_ok-head.ensures) c.of.ensures.recipe c.of.ensures.stem c.of.ensures.needs
    c.in_ok-push.ensures.items

pub returns-clause-head : goal.returns-clause-head
returns-clause-head c =
    head_like c.args.parts.now.items c.args.rows.now c.args.heads.now c.args.number c.args.maker (c.in_ok-head.head, c.in_ok-head.needs) c.args.part
    c.of.result c.push.new.self.items c.requires.stored (rw c.as_slice.ensures.value at c.in_ok-head.ensures) c.of.ensures.recipe c.of.ensures.stem c.of.ensures.needs
    c.in_ok-push.ensures.items
