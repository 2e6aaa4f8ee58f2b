use Rattle.std.proofs.Common.{ℕ, length, sym, subst}
use Rattle.std.specs.Prelude.{Vec}
use Rattle.std.specs.declared.alloc.Global.{Global}
use Rattle.std.proofs.lemmas.List.{length-map}
use Rattle.qv_store.specs.Nodes.{tree_at}
use Rattle.qv_store.proofs.Visiting.{on-ok}
use Rattle.qv_choose.specs.Listing.{numbers_in, IsNoted}
use Rattle.qv_choose.proofs.Lists.{noted-there, noted-nowhere}
use Rattle.qv_choose.proofs.listing.note_term.Goals as goal

pub returns-in-Some : goal.returns-in-Some
returns-in-Some c =
    on-ok c.note.result
    (λ noted. noted-there c.args.first c.args.number (tree_at c.args.store.now c.args.term) c.args.lists.now c.in-Some.place c.index-lists-place.result c.note.new.list c.index-lists-place.is (subst (λ (v : Vec ℕ Global). IsNoted c.args.number v.items c.note.new.list.items) (sym c.index-lists-place.is) noted) c.in-Some.ensures.1.0 c.in-Some.ensures.1.1)
    c.note.ensures

pub returns-in-None : goal.returns-in-None
returns-in-None c =
    noted-nowhere c.args.first c.args.number (length c.args.lists.now) (tree_at c.args.store.now c.args.term) (numbers_in c.args.lists.now) (sym (length-map c.args.lists.now (λ v. v.items))) c.in-None.ensures
