use Rattle.std.proofs.Common.{◌≡◌, ◌<◌, ◌≤◌, ◌+◌, ◌-◌, ◌/◌, ◌++◌, ℕ, length, map, take, drop, get_or, ap, subst, sym, refl, arith}
use Rattle.std.proofs.lemmas.List.{get_or_default}
use Rattle.qv_words.specs.declared.sort.Sort.TheVariants.{Bool as BoolSort}
use Rattle.qv_words.specs.Problem.{with_constant}
use Rattle.qv_prenex.specs.declared.constants.Constant.{Constant}
use Rattle.qv_prenex.specs.Constants.{pair_of}
use Rattle.qv_prenex.proofs.Leaves.{place-behind}
use Rattle.qv_prenex.proofs.constants.place_for.Goals as goal

abbrev none : Constant
none = record { index = 0; sort = BoolSort }

pub halves-init : goal.halves-init
halves-init c = record {
  order = omega arith;
  within = omega arith;
  front = λ s. refl;
  least = λ d lt. absurd (omega (arith, lt));
}

pub halves-preserved-then-constants-middle : goal.halves-preserved-then-constants-middle
halves-preserved-then-constants-middle c =
    let cs = c.args.constants.now in
    let middle : ℕ = c.halves.low + (c.halves.high - c.halves.low) / 2 in
    let inside : middle < length cs = omega (arith, c.halves-test.true, c.halves.invariant.within) in
    record {
      order = omega (arith, c.halves-test.true);
      within = c.halves.invariant.within;
      front = λ s. place-behind (c.args.index, s) cs middle none c.requires inside c.if-constants-middle.true;
      least = c.halves.invariant.least;
    }

pub halves-preserved : goal.halves-preserved
halves-preserved c =
    let cs = c.args.constants.now in
    let middle : ℕ = c.halves.low + (c.halves.high - c.halves.low) / 2 in
    let inside : middle < length cs = omega (arith, c.halves-test.true, c.halves.invariant.within) in
    record {
      order = omega (arith, c.halves-test.true);
      within = omega (arith, inside);
      front = c.halves.invariant.front;
      least = λ d lt.
          (let same : get_or cs middle none ≡ get_or cs middle d = get_or_default cs middle none d inside in
          omega (arith, c.if-constants-middle.false, ap (λ (k : Constant). k.index) same));
    }

pub returns-then-constants-high-clause-front : goal.returns-then-constants-high-clause-front
returns-then-constants-high-clause-front c = λ s.
    (let cs = c.args.constants.now in
    let whole : (length cs - 1) + 1 ≡ length cs = omega (arith, c.if-high-gt0.true) in
    let ps = map pair_of cs in
    subst (λ (n : ℕ). with_constant (c.args.index, s) ps ≡ take n ps ++ with_constant (c.args.index, s) (drop n ps)) whole
    (place-behind (c.args.index, s) cs (length cs - 1) none c.requires (omega (arith, c.if-high-gt0.true)) c.if-constants-high.true))

pub returns-clause-least : goal.returns-clause-least
returns-clause-least c = λ d lt.
    (let same : c.halves.low ≡ c.halves.high = omega (arith, c.halves-test.false, c.halves.invariant.order) in
    subst (λ (n : ℕ). n < length c.args.constants.now → c.args.index ≤ (get_or c.args.constants.now n d).index) (sym same) (c.halves.invariant.least d) lt)
