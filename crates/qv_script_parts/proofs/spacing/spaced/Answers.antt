use Rattle.std.proofs.Common.{List, length, ap, subst, sym, ◌∙◌, arith}
use Rattle.qv_text.specs.declared.kinds.TokenKind.TheVariants.{LeftParen}
use Rattle.qv_sexpr.specs.declared.items.Item.{Item}
use Rattle.qv_sexpr.specs.declared.items.ItemKind.TheVariants.{Atom}
use Rattle.qv_sexpr.specs.Copying.{EndsBefore}
use Rattle.qv_sexpr.proofs.Copies.{begun_ends}
use Rattle.qv_script_parts.proofs.Spelled.{spaced-more, spaced-end}
use Rattle.qv_script_parts.proofs.spacing.spaced.Goals as goal

-- what a read past the end would give
abbrev no_item : Item
no_item = record { kind = Atom LeftParen; place = 0; start = 0; end = 0 }

pub end_of-to-requires : goal.end_of-to-requires
end_of-to-requires c =
    let b = begun_ends c.args.expr.now c.args.at c.deref.result.now c.requires.expr c.requires.at c.deref.ensures.value in
    (b.0, b.2, b.1, b.3)

pub items-preserved : goal.items-preserved
items-preserved c =
    let ends = subst (λ (is : List Item). EndsBefore is c.args.at c.end_of-to.result) (c.deref.ensures.value ∙ sym c.deref-2.ensures.value) c.end_of-to.ensures.ends in
    spaced-more c.args.expr.now c.args.at c.end_of-to.result c.deref-2.result.now c.requires.expr c.requires.at c.deref-2.ensures.value ends
    c.items.item-index no_item c.items.edge c.is_edge-edge.result c.items.bytes.items c.add_item.new.bytes.items c.deref-in-items.result.now c.items-test.true c.items.invariant c.deref-in-items.ensures.value c.in_ok-add_item.ensures c.is_edge-edge.ensures

pub returns : goal.returns
returns c =
    let ends = subst (λ (is : List Item). EndsBefore is c.args.at c.end_of-to.result) (c.deref.ensures.value ∙ sym c.deref-2.ensures.value) c.end_of-to.ensures.ends in
    spaced-end c.args.expr.now c.args.at c.end_of-to.result c.deref-2.result.now c.requires.expr c.requires.at c.deref-2.ensures.value ends
    c.items.item-index c.items.edge c.items.bytes.items c.end_of-to.ensures.start
    (omega (arith, c.end_of-to.ensures.within, ap length c.deref.ensures.value, ap length c.deref-2.ensures.value)) c.items-test.false c.items.auto.item-index-end c.items.invariant
