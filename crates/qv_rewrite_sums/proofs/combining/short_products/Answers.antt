use Rattle.std.proofs.Common.{◌^◌, sym, ◌∙◌}
use Rattle.qv_rewrite_sums.proofs.Tests.{many-products}
use Rattle.qv_rewrite_sums.proofs.combining.short_products.Goals as goal

pub returns-then-are_many : goal.returns-then-are_many
returns-then-are_many c = λ trees. many-products trees (2 ^ c.args.width) c.args.a.now c.args.b.now (sym c.are_many.ensures ∙ c.if-are_many.true)
