use Rattle.std.proofs.Common.{◌≡◌, ◌-◌, min, List, ◌++◌, length, take, drop, replicate, ◌∙◌}
use Rattle.std.proofs.lemmas.List.{length-map}
use Rattle.std.proofs.lemmas.Result.{IfOk-weaker}
use Rattle.qv_words.specs.Gate.{Lit}
use Rattle.qv_words.specs.Routine.{moved_left, moved_right}
use Rattle.qv_circuits.specs.Adding.{lit_of, lits_of}
use Rattle.qv_circuits.proofs.MadeLists.{moved-to-left, moved-to-right}
use Rattle.qv_circuits.proofs.shifts.moved.Goals as goal

pub returns-then-left : goal.returns-then-left
returns-then-left c =
    let bits = c.args.bits.now in
    let fill = lit_of c.args.fill in
    let places = c.args.places in
    let by : List Lit = replicate (min places (length bits)) fill ++ take (length bits - min places (length bits)) (lits_of bits) in
    let whole : by ≡ moved_left places fill (lits_of bits) = rw (← length-map bits lit_of) (moved-to-left places fill (lits_of bits)) in
    rw c.if-left.true (IfOk-weaker c.joined.result (λ v. lits_of v.items ≡ by) (λ v. lits_of v.items ≡ moved_left places fill (lits_of bits)) (λ v h. h ∙ whole)
    (rw (c.front.ensures, c.deref.ensures.value, c.in_ok-outside.ensures, c.min-by.ensures) at c.joined.ensures))

pub returns : goal.returns
returns c =
    let bits = c.args.bits.now in
    let fill = lit_of c.args.fill in
    let places = c.args.places in
    let by : List Lit = drop (min places (length bits)) (lits_of bits) ++ replicate (min places (length bits)) fill in
    let whole : by ≡ moved_right places fill (lits_of bits) = rw (← length-map bits lit_of) (moved-to-right places fill (lits_of bits)) in
    rw c.if-left.false (IfOk-weaker c.joined-else-left.result (λ v. lits_of v.items ≡ by) (λ v. lits_of v.items ≡ moved_right places fill (lits_of bits)) (λ v h. h ∙ whole)
    (rw (c.behind.ensures, c.deref-else-left.ensures.value, c.in_ok-outside.ensures, c.min-by.ensures) at c.joined-else-left.ensures))
