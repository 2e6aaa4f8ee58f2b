-- Passes over formulas and lists of formulas, and simple formulas, which they leave as they are.
use Rattle.std.proofs.Common.{◌≡◌, ℕ, Option, Some, None, List, [], ◌∷◌, refl, ap, ◌∙◌, subst}
use Rattle.std.specs.Prelude.{unwrap_or, All}
use Rattle.std.specs.List.{AllByRecursion, AllZip, Contains}
use Rattle.std.proofs.lemmas.List.Elements.{recursion_from_All, All-from_recursion, All-contains_itself}
use Rattle.qv_words.specs.declared.sort.Sort.{Sort}
use Rattle.qv_words.specs.declared.op.Op.{Op}
use Rattle.qv_words.specs.Tree.{Tree, Trees, Constant, Variable, Literal, Apply, ForAll, Exists, Nil, Cons, IsQuantifierFree, AreQuantifierFree}
use Rattle.qv_words.specs.Sorted.{no_levels, IsSorted, AreSortedBelow, HasValues, constants_of, free_levels}
use Rattle.qv_words.specs.Meaning.{Means}
use Rattle.qv_words.specs.declared.rule.Rule.{Rule}
use Rattle.qv_words.specs.Passes.{rewritten, passed, passed_each, pass, passes_by, IsSimple, AreSimple}
use Rattle.qv_words.specs.PassLaws.{IsPlain, StandsFor}
use Rattle.qv_words.proofs.Leaves.{HasValue}
use Rattle.qv_words.proofs.Unique.{one_meaning}
use Rattle.qv_words.proofs.Existing.{HasConstant, some_meaning, has_sort}
use Rattle.qv_words.proofs.Passing.{Valued, Keeps, KeepsAll, keeps-itself, keeps-trans, keeps-apply, keeps-cons}
use Rattle.qv_words.proofs.PassRules.{RulesKeep}
use Rattle.qv_words.proofs.PassLeaves.{HasLeavesIn, among-trans, passed-leaves}

-- an application whose arguments are kept, rewritten where the rule fits
finish : RulesKeep → (r : Rule) (o : Op) (ts us : Trees) → IsSorted (Apply o ts) → KeepsAll ts us → Keeps (Apply o ts) (unwrap_or (rewritten r o us) (Apply o us))
finish rules r o ts us h k = go (rewritten r o us) refl
  where
    go : (q : Option Tree) → rewritten r o us ≡ q → Keeps (Apply o ts) (unwrap_or q (Apply o us))
    go None is = keeps-apply o ts us h.1 k
    go (Some u) is =
        let inner = keeps-apply o ts us h.1 k in
        keeps-trans (Apply o ts) (Apply o us) u inner (rules r o us u inner.sorted inner.free is)

mutual
  passed-keeps : RulesKeep → (r : Rule) (t : Tree) → IsSorted t → IsQuantifierFree t → Keeps t (passed r t)
  passed-keeps rules r (Constant i s) h p = keeps-itself (Constant i s) h p
  passed-keeps rules r (Variable l s) h p = keeps-itself (Variable l s) h p
  passed-keeps rules r (Literal s n) h p = keeps-itself (Literal s n) h p
  passed-keeps rules r (Apply o ts) h p = finish rules r o ts (passed_each r ts) h (each-keeps rules r ts h.0 p)
  passed-keeps rules r (ForAll l s t) h p = absurd p
  passed-keeps rules r (Exists l s t) h p = absurd p

  each-keeps : RulesKeep → (r : Rule) (ts : Trees) → AreSortedBelow no_levels ts → AreQuantifierFree ts → KeepsAll ts (passed_each r ts)
  each-keeps rules r Nil h p = record { sorts = refl; sorted = tt; free = tt; values = λ c e g. g; meaning = λ c e vs g m. m }
  each-keeps rules r (Cons t ts) h p =
      keeps-cons t (passed r t) ts (passed_each r ts) (passed-keeps rules r t h.0 p.0) (each-keeps rules r ts h.1 p.1)

-- values for the leaves, as the definition has them
valued : (c : List ℕ) (e : ℕ → Option ℕ) (t : Tree) → HasValues c e t → Valued c e t
valued c e t h = (recursion_from_All (HasConstant c) (constants_of t) h.constants, recursion_from_All (HasValue e) (free_levels t) h.levels)

has-values : (c : List ℕ) (e : ℕ → Option ℕ) (t : Tree) → Valued c e t → HasValues c e t
has-values c e t h = record {
  constants = All-from_recursion (HasConstant c) (constants_of t) h.0;
  levels = All-from_recursion (HasValue e) (free_levels t) h.1;
}

-- what is kept means nothing else, since the formula means something
pub stands-for : (t u : Tree) → IsPlain t → Keeps t u → HasLeavesIn u (constants_of t) (free_levels t) → StandsFor u t
stands-for t u h k leaves = record {
  plain = record { sorted = k.sorted; free = k.free };
  sort = k.sort;
  constants = All-from_recursion (Contains (constants_of t)) (constants_of u) leaves.constants_in;
  variables = All-from_recursion (Contains (free_levels t)) (free_levels u) leaves.variables_in;
  values = λ c e g. has-values c e u (k.values c e (valued c e t g));
  keeps = λ c e v g m. k.meaning c e v (valued c e t g) m;
  gains = λ c e v g m.
      let values = valued c e t g in
      let at = has_sort t no_levels h.sorted in
      let some = some_meaning t no_levels c e at.0 h.sorted values.0 values.1 at.1 in
      subst (Means c e t) (one_meaning u c e some.0 v (k.meaning c e some.0 values some.2) m) some.2;
}

passed-stands : RulesKeep → (r : Rule) (t : Tree) → IsPlain t → StandsFor (passed r t) t
passed-stands rules r t h = stands-for t (passed r t) h (passed-keeps rules r t h.sorted h.free) (passed-leaves r t)

all-among : (xs ys zs : List (ℕ × Sort)) → All (Contains ys) xs → All (Contains zs) ys → All (Contains zs) xs
all-among xs ys zs f g = All-from_recursion (Contains zs) xs (among-trans xs ys zs (recursion_from_All (Contains ys) xs f) (recursion_from_All (Contains zs) ys g))

pub stands-trans : (t u x : Tree) → StandsFor u t → StandsFor x u → StandsFor x t
stands-trans t u x f g = record {
  plain = g.plain;
  sort = g.sort ∙ f.sort;
  constants = all-among (constants_of x) (constants_of u) (constants_of t) g.constants f.constants;
  variables = all-among (free_levels x) (free_levels u) (free_levels t) g.variables f.variables;
  values = λ c e h. g.values c e (f.values c e h);
  keeps = λ c e v h m. g.keeps c e v (f.values c e h) (f.keeps c e v h m);
  gains = λ c e v h m. f.gains c e v h (g.gains c e v (f.values c e h) m);
}

stands-itself : (t : Tree) → IsPlain t → StandsFor t t
stands-itself t h = record {
  plain = h;
  sort = refl;
  constants = All-contains_itself (constants_of t);
  variables = All-contains_itself (free_levels t);
  values = λ c e g. g;
  keeps = λ c e v g m. m;
  gains = λ c e v g m. m;
}

-- over lists
pub pass-stands : RulesKeep → (r : Rule) (ts : List Tree) → AllByRecursion IsPlain ts → AllZip StandsFor (pass r ts) ts
pass-stands rules r [] h = tt
pass-stands rules r (t ∷ ts) h = (passed-stands rules r t h.0, pass-stands rules r ts h.1)

all-plain : (us ts : List Tree) → AllZip StandsFor us ts → AllByRecursion IsPlain us
all-plain [] [] h = tt
all-plain (u ∷ us) (t ∷ ts) h = (h.0.plain, all-plain us ts h.1)
all-plain [] (t ∷ ts) h = tt
all-plain (u ∷ us) [] h = absurd h

all-trans : (xs us ts : List Tree) → AllZip StandsFor us ts → AllZip StandsFor xs us → AllZip StandsFor xs ts
all-trans [] [] [] f g = tt
all-trans (x ∷ xs) (u ∷ us) (t ∷ ts) f g = (stands-trans t u x f.0 g.0, all-trans xs us ts f.1 g.1)
all-trans _ [] (t ∷ ts) f g = absurd f
all-trans _ (u ∷ us) [] f g = absurd f
all-trans [] (u ∷ us) _ f g = absurd g
all-trans (x ∷ xs) [] _ f g = absurd g

all-itself : (ts : List Tree) → AllByRecursion IsPlain ts → AllZip StandsFor ts ts
all-itself [] h = tt
all-itself (t ∷ ts) h = (stands-itself t h.0, all-itself ts h.1)

pub passes-stand : RulesKeep → (rs : List Rule) (ts : List Tree) → AllByRecursion IsPlain ts → AllZip StandsFor (passes_by rs ts) ts
passes-stand rules [] ts h = all-itself ts h
passes-stand rules (r ∷ rs) ts h =
    let first = pass-stands rules r ts h in
    all-trans (passes_by rs (pass r ts)) (pass r ts) ts first (passes-stand rules rs (pass r ts) (all-plain (pass r ts) ts first))

-- a simple formula stays
mutual
  pub simple-stays : (r : Rule) (t : Tree) → IsSimple t → passed r t ≡ t
  simple-stays r (Constant i s) h = refl
  simple-stays r (Variable l s) h = refl
  simple-stays r (Literal s n) h = refl
  simple-stays r (Apply o ts) h =
      ap (λ us. unwrap_or (rewritten r o us) (Apply o us)) (each-stays r ts h.1) ∙ ap (λ (q : Option Tree). unwrap_or q (Apply o ts)) (h.0 r)
  simple-stays r (ForAll l s t) h = refl
  simple-stays r (Exists l s t) h = refl

  each-stays : (r : Rule) (ts : Trees) → AreSimple ts → passed_each r ts ≡ ts
  each-stays r Nil h = refl
  each-stays r (Cons t ts) h = ap (λ u. Cons u (passed_each r ts)) (simple-stays r t h.0) ∙ ap (Cons t) (each-stays r ts h.1)
