-- The pass of sums over formulas.
use Rattle.std.proofs.Common.{ℕ, Option, List, [], ◌∷◌, sym, ◌∙◌, subst}
use Rattle.std.specs.List.{AllByRecursion, AllZip, Contains}
use Rattle.std.proofs.lemmas.List.Elements.{recursion_from_All, All-from_recursion}
use Rattle.qv_words.specs.Tree.{Tree}
use Rattle.qv_words.specs.Sorted.{no_levels, HasValues, constants_of, free_levels}
use Rattle.qv_words.specs.Meaning.{Means}
use Rattle.qv_words.specs.PassLaws.{IsPlain, StandsFor}
use Rattle.qv_words.proofs.Leaves.{HasValue}
use Rattle.qv_words.proofs.Existing.{HasConstant, has_sort}
use Rattle.qv_words.proofs.Passing.{Valued}
use Rattle.qv_words.specs.Sums.{summed, sum_pass}
use Rattle.qv_rewrite_passes.proofs.Meanings.{means-meaning, leaves-valued, over-meaning, Same, over-same, same-itself}
use Rattle.qv_rewrite_passes.proofs.Representing.{summed-same}

valued : (c : List ℕ) (e : ℕ → Option ℕ) (t : Tree) → HasValues c e t → Valued c e t
valued c e t h = (recursion_from_All (HasConstant c) (constants_of t) h.constants, recursion_from_All (HasValue e) (free_levels t) h.levels)

pub stands : (t u : Tree) → IsPlain t → Same t u → StandsFor u t
stands t u h k = record {
  plain = record { sorted = k.sorted; free = k.free };
  sort = k.sort;
  constants = All-from_recursion (Contains (constants_of t)) (constants_of u) k.leaves.constants_in;
  variables = All-from_recursion (Contains (free_levels t)) (free_levels u) k.leaves.variables_in;
  values = λ c e g.
      let inner = leaves-valued c e u (constants_of t) (free_levels t) k.leaves (valued c e t g) in
      record {
        constants = All-from_recursion (HasConstant c) (constants_of u) inner.0;
        levels = All-from_recursion (HasValue e) (free_levels u) inner.1;
      };
  keeps = λ c e v g m.
      let at = has_sort t no_levels h.sorted in
      let over = over-meaning c e (constants_of t) (free_levels t) at.0 u (over-same t u at.0 at.1 k) (valued c e t g) in
      subst (Means c e u) (k.value c e (valued c e t g) ∙ sym (means-meaning c e t v h.free m)) over.1;
  gains = λ c e v g m.
      let at = has_sort t no_levels h.sorted in
      let over = over-meaning c e (constants_of t) (free_levels t) at.0 t (over-same t t at.0 at.1 (same-itself t h.sorted h.free)) (valued c e t g) in
      subst (Means c e t) (sym (k.value c e (valued c e t g)) ∙ sym (means-meaning c e u v k.free m)) over.1;
}

pub pass-stands : (ts : List Tree) → AllByRecursion IsPlain ts → AllZip StandsFor (sum_pass ts) ts
pass-stands [] h = tt
pass-stands (t ∷ ts) h = (stands t (summed t) h.0 (summed-same t h.0.sorted h.0.free), pass-stands ts h.1)
