-- Literals are regions that may be asked at the point of level 1.
use Rattle.std.proofs.Common.{◌≡◌, ℕ, ◌<◌, List, [], length, Some, refl, ap, subst}
use Rattle.std.proofs.lemmas.List.Elements.{All-nil}
use Rattle.qv_words.specs.declared.sort.Sort.{Sort}
use Rattle.qv_words.specs.declared.sort.Sort.TheVariants.{Bool as BoolSort}
use Rattle.qv_words.specs.Tree.{Tree, Literal, tree_sort, IsQuantifierFree}
use Rattle.qv_words.specs.Sorted.{constants_of}
use Rattle.qv_words.specs.Values.{HasWords}
use Rattle.qv_store.specs.Nodes.{tree_at}
use Rattle.qv_store.specs.Stores.{AreShared}
use Rattle.qv_entries.specs.Holding.{IsAskable}

pub literal-askable : (trees : List Tree) (n : ℕ) (s : Sort) (v : ℕ) → AreShared trees → n < length trees → Literal s v ≡ tree_at trees n → s ≡ BoolSort → IsAskable trees [] n
literal-askable trees n s v shared low is bool = record {
  below = low;
  formula = record {
    sorted = shared.sorted n low;
    sort = subst (λ (t : Tree). tree_sort t ≡ Some BoolSort) is (ap Some bool);
    quantifier_free = subst IsQuantifierFree is tt;
    constant_free = subst (λ (t : Tree). constants_of t ≡ []) is refl;
  };
  words = subst (HasWords [] []) is (record { constants = All-nil _; levels = All-nil _ });
}
