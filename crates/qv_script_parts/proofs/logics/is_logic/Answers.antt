use Rattle.std.proofs.Common.{◌≡◌, ◌||◌, Bool, true, false, sym, ap, ◌∙◌, codes}
use Rattle.qv_script_defs.specs.Logics.{without, without_arrays, is_of_bits, is_all, is_logic}
use Rattle.qv_script_parts.proofs.logics.is_logic.Goals as goal

pub returns-then-is_all : goal.returns-then-is_all
unfolding is_logic
returns-then-is_all c =
    let all : true ≡ is_all c.args.name.now = sym c.if-is_all.true ∙ c.is_all.ensures in
    ap (λ (b : Bool). b || is_of_bits (without (codes "UF") (without_arrays (without (codes "QF_") c.args.name.now)))) all

pub returns : goal.returns
unfolding is_logic
returns c =
    let other : false ≡ is_all c.args.name.now = sym c.if-is_all.false ∙ c.is_all.ensures in
    c.is_of_bits.ensures ∙ ap is_of_bits (c.without-2.ensures ∙ ap (without (codes "UF")) (c.without_arrays.ensures ∙ ap without_arrays c.without.ensures))
    ∙ ap (λ (b : Bool). b || is_of_bits (without (codes "UF") (without_arrays (without (codes "QF_") c.args.name.now)))) other
