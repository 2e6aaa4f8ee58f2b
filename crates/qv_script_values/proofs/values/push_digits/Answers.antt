-- One digit more is that of the next bits.
use Rattle.std.proofs.Common.{◌≡◌, ◌+◌, ◌-◌, ◌*◌, ◌/◌, ◌%◌, ◌^◌, ◌∷◌, [], ◌++◌, ap, ◌∙◌, sym, arith}
use Rattle.qv_script_values.specs.ValueText.{digit, digits}
use Rattle.qv_script_values.proofs.KeptLemmas.{keeps_added}
use Rattle.qv_script_values.proofs.DigitLemmas.{one_more, with_digit}
use Rattle.qv_script_values.proofs.values.push_digits.Goals as goal

pub digits-preserved : goal.digits-preserved
digits-preserved c =
    let behind = c.args.count - 1 - c.digits.i in
    let next : behind ≡ c.args.count - (c.digits.i + 1) = omega arith in
    let last : behind + 1 ≡ c.args.count - c.digits.i = omega arith in
    let more = one_more c.args.base c.args.bits c.digits.i behind c.args.value c.requires.base in
    let before : digits c.args.base c.digits.i (c.args.value / 2 ^ (c.args.bits * (behind + 1))) ≡ digits c.args.base c.digits.i (c.args.value / 2 ^ (c.args.bits * (c.args.count - c.digits.i))) =
    ap (λ k. digits c.args.base c.digits.i (c.args.value / 2 ^ (c.args.bits * k))) last in
    let after : digits c.args.base (c.digits.i + 1) (c.args.value / 2 ^ (c.args.bits * behind)) ≡ digits c.args.base (c.digits.i + 1) (c.args.value / 2 ^ (c.args.bits * (c.args.count - (c.digits.i + 1)))) =
    ap (λ k. digits c.args.base (c.digits.i + 1) (c.args.value / 2 ^ (c.args.bits * k))) next in
    let number = (c.args.value / 2 ^ (c.args.bits * behind)) % c.args.base in
    let pushed : c.push.new.self.items ≡ c.digits.out.items ++ c.digit.result ∷ [] = c.in_ok-push.ensures.items in
    let added = with_digit _ _ _ _ _ c.digit.result (digit number) c.digits.invariant.added pushed c.digit.ensures (sym after ∙ more ∙ ap (λ xs. xs ++ digit number ∷ []) before) in
    record { added = added; kept = keeps_added _ _ _ added }
