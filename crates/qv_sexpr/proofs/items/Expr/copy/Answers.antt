use Rattle.std.proofs.Common.{◌-◌, ℕ, List, length, get_or, drop, ◌++◌, ◌≤◌, sym, ap, subst, ◌∙◌, arith, length-drop}
use Rattle.std.specs.List.{slice_range}
use Rattle.std.proofs.lemmas.List.{length-take-le}
use Rattle.qv_sexpr.specs.declared.items.Item.{Item}
use Rattle.qv_sexpr.specs.declared.items.ItemKind.TheVariants.{Atom}
use Rattle.qv_text.specs.declared.kinds.TokenKind.TheVariants.{LeftParen}
use Rattle.qv_sexpr.specs.Copying.{CanCopy, EndsBefore, own_text}
use Rattle.qv_sexpr.proofs.Copies.{begun_ends, part_item, copied_more, whole_copy}
use Rattle.qv_sexpr.proofs.items.Expr.copy.Goals as goal

-- what a read past the end would give
abbrev no_item : Item
no_item = record { kind = Atom LeftParen; place = 0; start = 0; end = 0 }

pub end_at-to-requires : goal.end_at-to-requires
end_at-to-requires c = begun_ends c.args.self.now c.args.at c.deref.result.now c.requires.expr c.requires.at c.deref.ensures.value

pub add_moved-requires : goal.add_moved-requires
add_moved-requires c =
    let end = subst (λ (is : List Item). EndsBefore is c.args.at c.end_at-to.result) (c.deref.ensures.value ∙ sym c.deref-2.ensures.value) c.end_at-to.ensures.end in
    let item = part_item c.args.self.now c.args.at c.end_at-to.result c.loop-item.item-index c.deref-2.result.now no_item c.requires.expr c.requires.at c.deref-2.ensures.value end c.loop-item-test.true in
    subst (λ (t : List ℕ). CanCopy (get_or (slice_range c.deref-2.result.now c.args.at c.end_at-to.result) c.loop-item.item-index no_item) t c.args.at) (sym c.deref-in-loop-item.ensures.value) item.1

pub loop-item-preserved : goal.loop-item-preserved
loop-item-preserved c =
    let end = subst (λ (is : List Item). EndsBefore is c.args.at c.end_at-to.result) (c.deref.ensures.value ∙ sym c.deref-2.ensures.value) c.end_at-to.ensures.end in
    let item = part_item c.args.self.now c.args.at c.end_at-to.result c.loop-item.item-index c.deref-2.result.now no_item c.requires.expr c.requires.at c.deref-2.ensures.value end c.loop-item-test.true in
    copied_more c.args.self.now.items.items c.args.self.now.text.items c.args.at c.loop-item.copy.items.items c.loop-item.copy.text.items c.loop-item.item-index (get_or (slice_range c.deref-2.result.now c.args.at c.end_at-to.result) c.loop-item.item-index no_item) c.add_moved.new.self.items.items c.add_moved.new.self.text.items
    c.loop-item.invariant item.0
    (c.in_ok-add_moved.ensures.text ∙ ap (λ (t : List ℕ). c.loop-item.copy.text.items ++ own_text (get_or (slice_range c.deref-2.result.now c.args.at c.end_at-to.result) c.loop-item.item-index no_item).kind (get_or (slice_range c.deref-2.result.now c.args.at c.end_at-to.result) c.loop-item.item-index no_item) t) c.deref-in-loop-item.ensures.value)
    c.in_ok-add_moved.ensures.items

pub returns : goal.returns
returns c = λ tree to stands.
    let within : c.end_at-to.result ≤ length c.deref-2.result.now = omega (arith, c.end_at-to.ensures.within, ap length c.deref.ensures.value, ap length c.deref-2.ensures.value) in
    let end = subst (λ (is : List Item). EndsBefore is c.args.at c.end_at-to.result) c.deref.ensures.value c.end_at-to.ensures.end in
    whole_copy c.args.self.now c.loop-item.copy c.args.at c.end_at-to.result c.loop-item.item-index tree to end c.end_at-to.ensures.start
    (omega (arith, c.loop-item-test.false, c.loop-item.auto.item-index-end, length-take-le (c.end_at-to.result - c.args.at) (drop c.args.at c.deref-2.result.now) (omega (arith, within, length-drop c.args.at c.deref-2.result.now))))
    c.loop-item.invariant stands
