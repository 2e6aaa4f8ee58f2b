use Rattle.std.proofs.lemmas.List.{length-map}
use Rattle.qv_circuits.specs.Adding.{lit_of}
use Rattle.qv_circuits.proofs.Running.{encodes-then, exits, stopped-first}
use Rattle.qv_circuits.proofs.encoder.Encoder.product_overflows.Goals as goal

pub returns-in_err-product : goal.returns-in_err-product
returns-in_err-product c =
    let stop = rw (c.deref.ensures.value, c.deref-2.ensures.value, c.in_ok-wide.ensures, c.in_ok-other.ensures, c.no.ensures, c.no-2.ensures, ← length-map c.args.a.now lit_of, ← length-map c.args.b.now lit_of) at c.in_err-product.ensures in
    exits c.from_residual-in_err-product.result lit_of c.from_residual-in_err-product.ensures.1
    (stopped-first _ stop)

pub returns : goal.returns
returns c =
    let product-ran = rw (c.deref.ensures.value, c.deref-2.ensures.value, c.in_ok-wide.ensures, c.in_ok-other.ensures, c.no.ensures, c.no-2.ensures, ← length-map c.args.a.now lit_of, ← length-map c.args.b.now lit_of) at c.in_ok-product.ensures in
    let last = rw (c.behind.ensures, c.deref-3.ensures.value, ← length-map c.args.a.now lit_of) at c.any.ensures in
    encodes-then _ lit_of c.any.result _ product-ran last
