use Rattle.std.proofs.Common.{◌≡◌, ℕ, true, length, refl, subst, arith}
use Rattle.qv_script_parts.specs.declared.command.Command.{Command as Told}
use Rattle.qv_script_parts.specs.declared.command.Command.TheVariants as code
use Rattle.qv_script_parts.specs.Meant.{meant}
use Rattle.qv_script.specs.Beginnings.{has_terms}
use Rattle.qv_script.proofs.Calling.{args-begin, one-long, three-long, four-long, steps-in-as, runs-in-as}
use Rattle.qv_script.proofs.Outsets.{three-is, four-is}
use Rattle.qv_script.proofs.step.run_terms.Goals as goal

-- of so many arguments
of : (c : Told) (n m : ℕ) → has_terms (meant c) n ≡ true → n ≡ m → has_terms (meant c) m ≡ true
of c n m h e = subst (λ (k : ℕ). has_terms (meant c) k ≡ true) e h

pub returns-in-len1-clause-step : goal.returns-in-len1-clause-step
returns-in-len1-clause-step c =
    let a = c.args in
    steps-in-as a.place a.expr.now a.command a.command a.args.now _ a.store.now c.run_asked.new.store a.stack.now c.run_asked.new.stack c.run_asked.result refl (one-long a.args.now c.in-len1.len_at_least c.in-len1.len_below) c.run_asked.ensures.step

pub returns-in-len3-clause-step : goal.returns-in-len3-clause-step
returns-in-len3-clause-step c =
    let a = c.args in
    let n : length a.args.now ≡ 3 = omega (arith, c.in-len3.len_at_least, c.in-len3.len_below) in
    steps-in-as a.place a.expr.now a.command code.DefineConst a.args.now _ a.store.now c.define_const.new.store a.stack.now c.define_const.new.stack c.define_const.result (three-is a.command (of a.command (length a.args.now) 3 c.requires.terms n)) (three-long a.args.now c.in-len3.len_at_least c.in-len3.len_below) c.define_const.ensures.step

pub returns-in-len4-clause-step : goal.returns-in-len4-clause-step
returns-in-len4-clause-step c =
    let a = c.args in
    let n : length a.args.now ≡ 4 = omega (arith, c.in-len4.len_at_least, c.in-len4.len_below) in
    steps-in-as a.place a.expr.now a.command code.DefineFun a.args.now _ a.store.now c.define_fun.new.store a.stack.now c.define_fun.new.stack c.define_fun.result (four-is a.command (of a.command (length a.args.now) 4 c.requires.terms n)) (four-long a.args.now c.in-len4.len_at_least c.in-len4.len_below) c.define_fun.ensures.step

pub run_asked-requires-clause-terms : goal.run_asked-requires-clause-terms
run_asked-requires-clause-terms c =
    let a = c.args in
    of a.command (length a.args.now) 1 c.requires.terms (omega (arith, c.in-len1.len_at_least, c.in-len1.len_below))

pub run_asked-requires-clause-t : goal.run_asked-requires-clause-t
run_asked-requires-clause-t c =
    let a = c.args in
    let p = c.requires.parts in
    args-begin a.expr.now a.args.now p.0 p.1 0 (omega (arith, c.in-len1.len_at_least))

pub define_const-requires-clause-sort : goal.define_const-requires-clause-sort
define_const-requires-clause-sort c =
    let a = c.args in
    let p = c.requires.parts in
    args-begin a.expr.now a.args.now p.0 p.1 1 (omega (arith, c.in-len3.len_at_least))

pub define_const-requires-clause-t : goal.define_const-requires-clause-t
define_const-requires-clause-t c =
    let a = c.args in
    let p = c.requires.parts in
    args-begin a.expr.now a.args.now p.0 p.1 2 (omega (arith, c.in-len3.len_at_least))

pub define_fun-requires-clause-parameters : goal.define_fun-requires-clause-parameters
define_fun-requires-clause-parameters c =
    let a = c.args in
    let p = c.requires.parts in
    args-begin a.expr.now a.args.now p.0 p.1 1 (omega (arith, c.in-len4.len_at_least))

pub define_fun-requires-clause-sort : goal.define_fun-requires-clause-sort
define_fun-requires-clause-sort c =
    let a = c.args in
    let p = c.requires.parts in
    args-begin a.expr.now a.args.now p.0 p.1 2 (omega (arith, c.in-len4.len_at_least))

pub define_fun-requires-clause-t : goal.define_fun-requires-clause-t
define_fun-requires-clause-t c =
    let a = c.args in
    let p = c.requires.parts in
    args-begin a.expr.now a.args.now p.0 p.1 3 (omega (arith, c.in-len4.len_at_least))

pub returns-in-len1-clause-short : goal.returns-in-len1-clause-short
returns-in-len1-clause-short c =
    let a = c.args in
    runs-in-as a.place a.expr.now a.command a.command a.args.now _ a.store.now a.stack.now c.run_asked.result refl (one-long a.args.now c.in-len1.len_at_least c.in-len1.len_below) c.run_asked.ensures.short

pub returns-in-len3-clause-short : goal.returns-in-len3-clause-short
returns-in-len3-clause-short c =
    let a = c.args in
    let n : length a.args.now ≡ 3 = omega (arith, c.in-len3.len_at_least, c.in-len3.len_below) in
    runs-in-as a.place a.expr.now a.command code.DefineConst a.args.now _ a.store.now a.stack.now c.define_const.result (three-is a.command (of a.command (length a.args.now) 3 c.requires.terms n)) (three-long a.args.now c.in-len3.len_at_least c.in-len3.len_below) c.define_const.ensures.short

pub returns-in-len4-clause-short : goal.returns-in-len4-clause-short
returns-in-len4-clause-short c =
    let a = c.args in
    let n : length a.args.now ≡ 4 = omega (arith, c.in-len4.len_at_least, c.in-len4.len_below) in
    runs-in-as a.place a.expr.now a.command code.DefineFun a.args.now _ a.store.now a.stack.now c.define_fun.result (four-is a.command (of a.command (length a.args.now) 4 c.requires.terms n)) (four-long a.args.now c.in-len4.len_at_least c.in-len4.len_below) c.define_fun.ensures.short
