use Rattle.std.proofs.Common.{List, [], ◌++◌, refl, sym, ap, subst}
use Rattle.std.proofs.lemmas.List.{append-nil}
use Rattle.qv_words.specs.Tree.{Tree}
use Rattle.qv_script_defs.specs.State.{forgetful, in_force}
use Rattle.qv_script_defs.specs.Moves.{Check}
use Rattle.qv_script_stack.specs.Held.{Held, AreAt, IsScriptIn}
use Rattle.qv_script_stack.proofs.Holding.{held-forgotten}
use Rattle.qv_script_plain.proofs.simple.check_sat.Goals as goal

pub returns : goal.returns
returns c = λ trees s h.
    let e = c.forget.ensures in (
      forgetful s,
      Check (in_force s ++ []),
      refl,
      subst (λ (k : Held). IsScriptIn trees k (forgetful s)) (sym e) (held-forgotten trees c.args.stack.now s h),
      (
        in_force s ++ [],
        refl,
        subst (λ (k : Held). AreAt trees k.assertions (in_force s ++ [])) (sym e) (subst (λ (ts : List Tree). AreAt trees c.args.stack.now.assertions ts) (sym (append-nil (in_force s))) h.assertions),
        ap (λ (k : Held). k.assumed) e,
      ),
    )
