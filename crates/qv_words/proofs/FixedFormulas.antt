-- Formulas that all passes in order leave as they are are simple: a pass that changes a formula takes applications from it.
use Rattle.std.proofs.Common.{◌≡◌, ◌≤◌, ◌<◌, ◌⊎◌, inl, inr, Option, Some, None, List, [], ◌∷◌, refl, sym, ap, ◌∙◌, arith, le_refl}
use Rattle.std.specs.Prelude.{unwrap_or}
use Rattle.std.specs.List.{AllByRecursion}
use Rattle.std.proofs.lemmas.List.Elements.{recursion_from_All, All-from_recursion}
use Rattle.qv_words.specs.declared.op.Op.{Op}
use Rattle.qv_words.specs.Tree.{Tree, Trees, Constant, Variable, Literal, Apply, ForAll, Exists, Nil, Cons}
use Rattle.qv_words.specs.declared.rule.Rule.{Rule}
use Rattle.qv_words.specs.declared.rule.Rule.TheVariants.{Fold, Same, NotNot, Unit as UnitRule, Absorb, IteKnown, IteSame, AddZero, MulOne, MulZero}
use Rattle.qv_words.specs.Passes.{rewritten, passed, passed_each, pass, passes_by, rules_in_order, IsSimple}
use Rattle.qv_words.specs.PassLaws.{FixedFormulasAreSimple}
use Rattle.qv_words.proofs.Passed.{simple-stays}
use Rattle.qv_words.proofs.Simplest.{uses, uses_each, Fewer, rewritten-fewer, whole-uses, passed-uses, each-uses, stays-simple}

-- a pass leaves a tree as it is, or takes applications from it
abbrev SameOrFewer : Tree → Tree → Type 0
SameOrFewer u t = (u ≡ t) ⊎ (uses u < uses t)

application : (r : Rule) (o : Op) (ts us : Trees) → (us ≡ ts) ⊎ (uses_each us < uses_each ts) → SameOrFewer (unwrap_or (rewritten r o us) (Apply o us)) (Apply o ts)
application r o ts us (inl e) = go (rewritten r o us) (rewritten-fewer r o us)
  where
    go : (q : Option Tree) → Fewer q (uses (Apply o us)) → SameOrFewer (unwrap_or q (Apply o us)) (Apply o ts)
    go None f = inl (ap (Apply o) e)
    go (Some u) f = let k = f u refl in let same : uses (Apply o us) ≡ uses (Apply o ts) = ap (λ xs. uses (Apply o xs)) e in inr (omega (arith, k, same))
application r o ts us (inr less) = let k = whole-uses r o us us (le_refl (uses_each us)) in inr (omega (arith, less, k))

-- of the first of some trees and the others
join : (r : Rule) (t : Tree) (ts : Trees) → SameOrFewer (passed r t) t → (passed_each r ts ≡ ts) ⊎ (uses_each (passed_each r ts) < uses_each ts) → (passed_each r (Cons t ts) ≡ Cons t ts) ⊎ (uses_each (passed_each r (Cons t ts)) < uses_each (Cons t ts))
join r t ts (inl e) (inl f) = inl (ap (λ u. Cons u (passed_each r ts)) e ∙ ap (Cons t) f)
join r t ts (inl e) (inr less) = let k = passed-uses r t in inr (omega (arith, less, k))
join r t ts (inr less) _ = let k = each-uses r ts in inr (omega (arith, less, k))

mutual
  passed-less : (r : Rule) (t : Tree) → SameOrFewer (passed r t) t
  passed-less r (Constant i s) = inl refl
  passed-less r (Variable l s) = inl refl
  passed-less r (Literal s n) = inl refl
  passed-less r (Apply o ts) = application r o ts (passed_each r ts) (each-less r ts)
  passed-less r (ForAll l s t) = inl refl
  passed-less r (Exists l s t) = inl refl

  each-less : (r : Rule) (ts : Trees) → (passed_each r ts ≡ ts) ⊎ (uses_each (passed_each r ts) < uses_each ts)
  each-less r Nil = inl refl
  each-less r (Cons t ts) = join r t ts (passed-less r t) (each-less r ts)

-- passes in a row over one formula
abbrev passed_by : List Rule → Tree → Tree
passed_by [] t = t
passed_by (r ∷ rs) t = passed_by rs (passed r t)

by-uses : (rs : List Rule) (t : Tree) → uses (passed_by rs t) ≤ uses t
by-uses [] t = le_refl (uses t)
by-uses (r ∷ rs) t = let a = by-uses rs (passed r t) in let b = passed-uses r t in omega (arith, a, b)

abbrev Stays : Tree → Rule → Type 0
Stays t r = passed r t ≡ t

all-stay : (rs : List Rule) (t : Tree) → passed_by rs t ≡ t → AllByRecursion (Stays t) rs
all-stay [] t e = tt
all-stay (r ∷ rs) t e = go (passed-less r t) (all-stay rs t)
  where
    go : SameOrFewer (passed r t) t → (passed_by rs t ≡ t → AllByRecursion (Stays t) rs) → AllByRecursion (Stays t) (r ∷ rs)
    go (inl same) rest = (same, rest (ap (passed_by rs) (sym same) ∙ e))
    go (inr less) rest =
        let a = by-uses rs (passed r t) in
        let b : uses (passed_by rs (passed r t)) ≡ uses t = ap uses e in
        absurd (omega (arith, less, a, b))

each-stays : (t : Tree) → AllByRecursion (Stays t) rules_in_order → (r : Rule) → passed r t ≡ t
each-stays t h Fold = h.0
each-stays t h Same = h.1.0
each-stays t h NotNot = h.1.1.0
each-stays t h UnitRule = h.1.1.1.0
each-stays t h Absorb = h.1.1.1.1.0
each-stays t h IteKnown = h.1.1.1.1.1.0
each-stays t h IteSame = h.1.1.1.1.1.1.0
each-stays t h AddZero = h.1.1.1.1.1.1.1.0
each-stays t h MulOne = h.1.1.1.1.1.1.1.1.0
each-stays t h MulZero = h.1.1.1.1.1.1.1.1.1.0

-- over lists
one-by_one : (rs : List Rule) (t : Tree) (ts : List Tree) → passes_by rs (t ∷ ts) ≡ passed_by rs t ∷ passes_by rs ts
one-by_one [] t ts = refl
one-by_one (r ∷ rs) t ts = one-by_one rs (passed r t) (pass r ts)

first-same : (t u : Tree) (ts us : List Tree) → t ∷ ts ≡ u ∷ us → t ≡ u
first-same t u ts us e = cc

others-same : (t u : Tree) (ts us : List Tree) → t ∷ ts ≡ u ∷ us → ts ≡ us
others-same t u ts us e = cc

fixed-simple : (ts : List Tree) → passes_by rules_in_order ts ≡ ts → AllByRecursion IsSimple ts
fixed-simple [] e = tt
fixed-simple (t ∷ ts) e =
    let apart = sym (one-by_one rules_in_order t ts) ∙ e in
    let first = first-same (passed_by rules_in_order t) t (passes_by rules_in_order ts) ts apart in
    let others = others-same (passed_by rules_in_order t) t (passes_by rules_in_order ts) ts apart in
    (stays-simple t (each-stays t (all-stay rules_in_order t first)), fixed-simple ts others)

pass-stays : (r : Rule) (ts : List Tree) → AllByRecursion IsSimple ts → pass r ts ≡ ts
pass-stays r [] h = refl
pass-stays r (t ∷ ts) h = ap (λ u. u ∷ pass r ts) (simple-stays r t h.0) ∙ ap (λ us. t ∷ us) (pass-stays r ts h.1)

simple-fixed : (rs : List Rule) (ts : List Tree) → AllByRecursion IsSimple ts → passes_by rs ts ≡ ts
simple-fixed [] ts h = refl
simple-fixed (r ∷ rs) ts h = ap (passes_by rs) (pass-stays r ts h) ∙ simple-fixed rs ts h

pub fixed-formulas_are_simple : FixedFormulasAreSimple
fixed-formulas_are_simple formulas = (
  λ e. All-from_recursion IsSimple formulas (fixed-simple formulas e),
  λ h. simple-fixed rules_in_order formulas (recursion_from_All IsSimple formulas h),
)
