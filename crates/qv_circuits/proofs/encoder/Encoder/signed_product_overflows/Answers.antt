use Rattle.std.proofs.lemmas.List.{length-map}
use Rattle.qv_circuits.specs.Adding.{lit_of}
use Rattle.qv_circuits.proofs.Running.{encodes-then, exits, no-memory, ran-base, stopped-first, stopped-then}
use Rattle.qv_circuits.proofs.encoder.Encoder.signed_product_overflows.Goals as goal

pub returns-in_err-product : goal.returns-in_err-product
returns-in_err-product c =
    let stop = rw (c.deref.ensures.value, c.deref-2.ensures.value, c.in_ok-wide.ensures, c.in_ok-other.ensures, c.top.ensures, c.top-2.ensures, ← length-map c.args.a.now lit_of, ← length-map c.args.b.now lit_of) at c.in_err-product.ensures in
    exits c.from_residual-in_err-product.result lit_of c.from_residual-in_err-product.ensures.1
    (stopped-first _ stop)

pub returns-in_err-signs : goal.returns-in_err-signs
returns-in_err-signs c =
    exits c.from_residual-in_err-signs.result lit_of c.from_residual-in_err-signs.ensures.1 (no-memory (ran-base c.in_ok-product.ensures))

pub returns-in_err-differences : goal.returns-in_err-differences
returns-in_err-differences c =
    let product-ran = rw (c.deref.ensures.value, c.deref-2.ensures.value, c.in_ok-wide.ensures, c.in_ok-other.ensures, c.top.ensures, c.top-2.ensures, ← length-map c.args.a.now lit_of, ← length-map c.args.b.now lit_of) at c.in_ok-product.ensures in
    let stop = rw (c.behind.ensures, c.deref-4.ensures.value, c.deref-5.ensures.value, c.in_ok-signs.ensures, c.top-3.ensures, c.front.ensures, c.deref-3.ensures.value, ← length-map c.args.a.now lit_of) at c.in_err-differences.ensures in
    exits c.from_residual-in_err-differences.result lit_of c.from_residual-in_err-differences.ensures.1
    (stopped-then _ product-ran (stopped-first _ stop))

pub returns : goal.returns
returns c =
    let product-ran = rw (c.deref.ensures.value, c.deref-2.ensures.value, c.in_ok-wide.ensures, c.in_ok-other.ensures, c.top.ensures, c.top-2.ensures, ← length-map c.args.a.now lit_of, ← length-map c.args.b.now lit_of) at c.in_ok-product.ensures in
    let differences-ran = rw (c.behind.ensures, c.deref-4.ensures.value, c.deref-5.ensures.value, c.in_ok-signs.ensures, c.top-3.ensures, c.front.ensures, c.deref-3.ensures.value, ← length-map c.args.a.now lit_of) at c.in_ok-differences.ensures in
    let last = rw (c.deref-6.ensures.value) at c.any.ensures in
    encodes-then _ lit_of c.any.result _ product-ran (encodes-then _ lit_of c.any.result _ differences-ran last)
