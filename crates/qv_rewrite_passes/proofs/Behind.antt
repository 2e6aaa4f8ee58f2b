-- Passes over lists of formulas, one after the other.
use Rattle.std.proofs.Common.{ℕ, List, [], ◌∷◌, refl, ◌∙◌}
use Rattle.std.specs.Prelude.{All}
use Rattle.std.specs.List.{AllByRecursion, AllZip, Contains}
use Rattle.std.proofs.lemmas.List.Elements.{recursion_from_All, All-from_recursion, All-contains_itself}
use Rattle.qv_words.specs.declared.sort.Sort.{Sort}
use Rattle.qv_words.specs.Tree.{Tree}
use Rattle.qv_words.specs.Sorted.{constants_of, free_levels}
use Rattle.qv_words.specs.PassLaws.{IsPlain, StandsFor}
use Rattle.qv_words.proofs.PassLeaves.{among-trans}
use Rattle.qv_words.proofs.PassRules.{rules-keep}
use Rattle.qv_words.proofs.Passed.{pass-stands as rule-stands}
use Rattle.qv_rewrite_passes.specs.declared.pass.Pass.{Pass}
use Rattle.qv_rewrite_passes.specs.declared.pass.Pass.TheVariants.{By, Sum, Xor, Simp}
use Rattle.qv_rewrite_passes.specs.Passes.{behind, behind_all}
use Rattle.qv_rewrite_passes.proofs.SumPass.{pass-stands as sum-stands}
use Rattle.qv_rewrite_passes.proofs.XorPass.{pass-stands as xor-stands}
use Rattle.qv_rewrite_passes.proofs.Simping.{pass-stands as simp-stands}

among : (xs ys zs : List (ℕ × Sort)) → All (Contains ys) xs → All (Contains zs) ys → All (Contains zs) xs
among xs ys zs f g = All-from_recursion (Contains zs) xs (among-trans xs ys zs (recursion_from_All (Contains ys) xs f) (recursion_from_All (Contains zs) ys g))

-- what stands for a formula that stands for another
pub stands-trans : (t u x : Tree) → StandsFor u t → StandsFor x u → StandsFor x t
stands-trans t u x f g = record {
  plain = g.plain;
  sort = g.sort ∙ f.sort;
  constants = among (constants_of x) (constants_of u) (constants_of t) g.constants f.constants;
  variables = among (free_levels x) (free_levels u) (free_levels t) g.variables f.variables;
  values = λ c e h. g.values c e (f.values c e h);
  keeps = λ c e v h m. g.keeps c e v (f.values c e h) (f.keeps c e v h m);
  gains = λ c e v h m. f.gains c e v h (g.gains c e v (f.values c e h) m);
}

stands-itself : (t : Tree) → IsPlain t → StandsFor t t
stands-itself t h = record {
  plain = h;
  sort = refl;
  constants = All-contains_itself (constants_of t);
  variables = All-contains_itself (free_levels t);
  values = λ c e g. g;
  keeps = λ c e v g m. m;
  gains = λ c e v g m. m;
}

-- over lists
pub all-itself : (ts : List Tree) → AllByRecursion IsPlain ts → AllZip StandsFor ts ts
all-itself [] h = tt
all-itself (t ∷ ts) h = (stands-itself t h.0, all-itself ts h.1)

pub all-plain : (us ts : List Tree) → AllZip StandsFor us ts → AllByRecursion IsPlain us
all-plain [] [] h = tt
all-plain (u ∷ us) (t ∷ ts) h = (h.0.plain, all-plain us ts h.1)
all-plain [] (t ∷ ts) h = tt
all-plain (u ∷ us) [] h = absurd h

pub all-trans : (xs us ts : List Tree) → AllZip StandsFor us ts → AllZip StandsFor xs us → AllZip StandsFor xs ts
all-trans [] [] [] f g = tt
all-trans (x ∷ xs) (u ∷ us) (t ∷ ts) f g = (stands-trans t u x f.0 g.0, all-trans xs us ts f.1 g.1)
all-trans _ [] (t ∷ ts) f g = absurd f
all-trans _ (u ∷ us) [] f g = absurd f
all-trans [] (u ∷ us) _ f g = absurd g
all-trans (x ∷ xs) [] _ f g = absurd g

pub behind-stands : (p : Pass) (ts : List Tree) → AllByRecursion IsPlain ts → AllZip StandsFor (behind p ts) ts
behind-stands (By rule) ts h = rule-stands (rules-keep (λ a b. refl) (λ a b. refl)) rule ts h
behind-stands Sum ts h = sum-stands ts h
behind-stands Xor ts h = xor-stands ts h
behind-stands Simp ts h = simp-stands ts h

pub all-stand : (ps : List Pass) (ts : List Tree) → AllByRecursion IsPlain ts → AllZip StandsFor (behind_all ps ts) ts
all-stand [] ts h = all-itself ts h
all-stand (p ∷ ps) ts h =
    let first = behind-stands p ts h in
    all-trans (behind_all ps (behind p ts)) (behind p ts) ts first (all-stand ps (behind p ts) (all-plain (behind p ts) ts first))
