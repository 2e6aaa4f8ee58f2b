use Rattle.std.proofs.Common.{◌≡◌, ℕ, List, sym, ap, ◌∙◌}
use Rattle.std.specs.Prelude.{IsTrue}
use Rattle.qv_store.specs.Walks.{named}
use Rattle.qv_rewrite_passes.specs.Passes.{behind}
use Rattle.qv_rewrite_lists.proofs.Further.{further-by, further-still}
use Rattle.qv_rewrite_lists.proofs.rewriting.take_one.Goals as goal

pub returns-then-are_same-clause-further : goal.returns-then-are_same-clause-further
returns-then-are_same-clause-further c = further-still c.args.store.now c.take.new.store c.args.made.now c.requires c.take.ensures.grows

pub returns-clause-further : goal.returns-clause-further
returns-clause-further c =
    let old = c.args.store.now in
    let new = c.take.new.store in
    let ids = c.args.made.now.list.items in
    let taken = c.in_ok-taken.taken in
    let passed : named new taken.items ≡ behind c.args.pass (named old ids) =
    c.in_ok-taken.ensures.list ∙ ap (λ (ns : List ℕ). behind c.args.pass (named old ns)) c.deref.ensures.value in
    let other : taken.items ≡ ids → ⊥ =
    λ e. let yes : IsTrue c.are_same.result = c.are_same.ensures.1 (c.deref-2.ensures.value ∙ e ∙ sym c.deref-3.ensures.value) in let no = c.if-are_same.false in cc in
    further-by c.args.pass old new c.args.made.now (record { passes = c.push.new.self; list = taken }) c.len-terms.ensures.shared c.requires c.take.ensures.grows
    (record { below = c.in_ok-taken.ensures.below; free = c.in_ok-taken.ensures.free }) other passed c.in_ok-push.ensures.items
