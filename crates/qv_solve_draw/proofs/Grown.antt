-- Terms in a greater store.
use Rattle.std.proofs.Common.{◌≡◌, ◌<◌, List, [], ◌∷◌, length, refl, ap, ◌∙◌}
use Rattle.std.specs.Prelude.{All}
use Rattle.std.specs.List.{AllByRecursion}
use Rattle.std.proofs.lemmas.List.Elements.{All-from_recursion, recursion_from_All}
use Rattle.qv_words.specs.Tree.{Tree}
use Rattle.qv_words.specs.Skolem.{SkolemTerm}
use Rattle.qv_words.proofs.Elements.{all-weaker}
use Rattle.qv_store.specs.Stores.{Grows}
use Rattle.qv_store.proofs.Replacement.{grown-tree, grown-within}
use Rattle.qv_skolem.specs.declared.skolem.Skolem.{Skolem}
use Rattle.qv_skolem.specs.Skolems.{skolem_in, skolems_in}

module _ (old new : List Tree) (grows : Grows old new) where
  each-grown : (terms : List Skolem) → AllByRecursion (λ s. s.term < length old) terms → skolems_in new terms ≡ skolems_in old terms
  each-grown [] h = refl
  each-grown (s ∷ terms) h =
      ap (λ (t : Tree). record { place = s.place; term = t } ∷ skolems_in new terms) (grown-tree old new grows s.term h.0)
      ∙ ap (λ (ts : List SkolemTerm). skolem_in old s ∷ ts) (each-grown terms h.1)

  pub skolems-grown : (terms : List Skolem) → All (λ s. s.term < length old) terms → skolems_in new terms ≡ skolems_in old terms
  skolems-grown terms h = each-grown terms (recursion_from_All (λ s. s.term < length old) terms h)

  pub skolems-within : (terms : List Skolem) → All (λ s. s.term < length old) terms → All (λ s. s.term < length new) terms
  skolems-within terms h =
      All-from_recursion (λ s. s.term < length new) terms
      (all-weaker (λ s. s.term < length old) (λ s. s.term < length new) terms (λ s low. grown-within old new grows s.term low) (recursion_from_All (λ s. s.term < length old) terms h))
