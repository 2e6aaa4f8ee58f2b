use Rattle.std.proofs.Common.{◌≡◌, true, false, Bool, ap, sym, ◌∙◌}
use Rattle.qv_words.specs.Prenex.{joined_blocks}
use Rattle.qv_prenex_laws.specs.FormLaws.{lengths_of}
use Rattle.qv_prenex_laws.specs.MatrixLaws.{starts_empty}
use Rattle.qv_prenex_laws.specs.RuleLaws.{quantifier_blocks}
use Rattle.qv_prenex.specs.Blocks.{sorts_in, behind}
use Rattle.qv_prenex.proofs.Placing.{bound-existential, bound-universal}
use Rattle.qv_prenex.proofs.blocks.bind.Goals as goal

pub returns-then-existential-clause-blocks : goal.returns-then-existential-clause-blocks
returns-then-existential-clause-blocks c = λ inner e.
    bound-existential (sorts_in c.args.blocks.now.items) (sorts_in c.put_sort.new.blocks.items) c.args.sort c.args.block inner c.in_ok-put_sort.ensures.blocks
    ∙ ap (λ (b : Bool). joined_blocks (sorts_in c.args.blocks.now.items) (behind c.args.block (quantifier_blocks b c.args.sort inner))) (sym c.if-existential.true)

pub returns-then-empty-clause-blocks : goal.returns-then-empty-clause-blocks
returns-then-empty-clause-blocks c = λ inner e.
    let empty : starts_empty (lengths_of inner) ≡ true = ap (λ bs. starts_empty (lengths_of bs)) e ∙ sym c.in_ok-empty.ensures.empty ∙ c.if-empty.true in
    bound-universal (sorts_in c.args.blocks.now.items) (sorts_in c.put_sort-2.new.blocks.items) c.args.sort c.args.block true inner empty c.in_ok-put_sort-2.ensures.blocks
    ∙ ap (λ (b : Bool). joined_blocks (sorts_in c.args.blocks.now.items) (behind c.args.block (quantifier_blocks b c.args.sort inner))) (sym c.if-existential.false)

pub returns-else-empty-clause-blocks : goal.returns-else-empty-clause-blocks
returns-else-empty-clause-blocks c = λ inner e.
    let empty : starts_empty (lengths_of inner) ≡ false = ap (λ bs. starts_empty (lengths_of bs)) e ∙ sym c.in_ok-empty.ensures.empty ∙ c.if-empty.false in
    bound-universal (sorts_in c.args.blocks.now.items) (sorts_in c.put_sort-2.new.blocks.items) c.args.sort c.args.block false inner empty c.in_ok-put_sort-2.ensures.blocks
    ∙ ap (λ (b : Bool). joined_blocks (sorts_in c.args.blocks.now.items) (behind c.args.block (quantifier_blocks b c.args.sort inner))) (sym c.if-existential.false)
