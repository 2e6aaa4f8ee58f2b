-- What is known of a region stays known in longer stores.
use Rattle.std.proofs.Common.{◌≡◌, ℕ, ◌<◌, List, [], ◌∷◌, length, sym, ap, ◌∙◌}
use Rattle.std.proofs.lemmas.List.Elements.{recursion_from_All}
use Rattle.qv_words.specs.Tree.{Tree}
use Rattle.qv_words.specs.Clauses.{nodes}
use Rattle.qv_store.specs.Nodes.{tree_at}
use Rattle.qv_store.specs.Stores.{AreShared, Grows}
use Rattle.qv_store.specs.Walks.{with_subtrees}
use Rattle.qv_choose_paths.specs.declared.seeing.Sight.{Sight}
use Rattle.qv_choose_paths.specs.Sights.{IsSight}
use Rattle.qv_choose_paths.proofs.RowTerms.{stays-at}
use Rattle.qv_choose_paths.proofs.SceneLaws.{earlier-below, named-grows, scene-grows}

pub sight-grows : (old new : List Tree) (id : ℕ) (s : Sight) → Grows old new → AreShared new → IsSight old id s → IsSight new id s
sight-grows old new id s g shared h =
    let walk = named-grows old new s.walk g (recursion_from_All (λ n. n < length old) s.walk h.scene.walk.within) in
    let same : tree_at old id ≡ tree_at new id = sym (stays-at old new id g (earlier-below old s.walk id h.scene.walk h.has)) in
    record {
      scene = scene-grows old new s g shared h.scene;
      subtrees = walk ∙ h.subtrees ∙ ap (with_subtrees []) same;
      order = walk ∙ h.order ∙ ap (λ t. nodes (t ∷ [])) same;
      has = h.has;
    }
