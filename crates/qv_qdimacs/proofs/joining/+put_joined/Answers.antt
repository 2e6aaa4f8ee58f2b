use Rattle.std.proofs.Common.{◌/◌, ◌≤◌, length, refl, subst}
use Rattle.std.specs.Prelude.{IfOk}
use Rattle.qv_words.specs.Tree.{Tree}
use Rattle.qv_store.specs.Stores.{StandsAt}
use Rattle.qv_qdimacs.proofs.Pairs.{front-at, behind-at, pair-joined}
use Rattle.qv_qdimacs.proofs.joining.+put_joined.Goals as goal

pub put_pair-requires-clause-a : goal.put_pair-requires-clause-a
put_pair-requires-clause-a t c =
    front-at c.args.store.now c.put_joined.new.store c.put_joined-2.new.store c.args.both c.args.ids.now (length c.args.ids.now / 2) c.in_ok-front.front c.in_ok-behind.behind
    c.requires c.in_ok-front.ensures.grows c.in_ok-behind.ensures.grows c.in_ok-front.ensures.id c.in_ok-behind.ensures.id

pub put_pair-requires-clause-b : goal.put_pair-requires-clause-b
put_pair-requires-clause-b t c =
    behind-at c.args.store.now c.put_joined.new.store c.put_joined-2.new.store c.args.both c.args.ids.now (length c.args.ids.now / 2) c.in_ok-front.front c.in_ok-behind.behind
    c.requires c.in_ok-front.ensures.grows c.in_ok-behind.ensures.grows c.in_ok-front.ensures.id c.in_ok-behind.ensures.id

pub returns-clause-id : goal.returns-clause-id
returns-clause-id t c =
    let two : 2 ≤ length c.args.ids.now = c.if-ids-lt2.false in
    subst (λ (u : Tree). IfOk c.put_pair.result (λ id. StandsAt c.put_pair.new.store id u))
    (pair-joined c.args.store.now c.put_joined.new.store c.put_joined-2.new.store c.args.both c.args.ids.now (length c.args.ids.now / 2) c.in_ok-front.front c.in_ok-behind.behind
    c.requires c.in_ok-front.ensures.grows c.in_ok-behind.ensures.grows c.in_ok-front.ensures.id c.in_ok-behind.ensures.id two refl)
    c.put_pair.ensures.id
