-- One step on the way down.
use Rattle.std.proofs.Common.{◌≡◌, ℕ, ◌<◌, Option, Some, None, List, [], length, refl, sym, ap, ◌∙◌, subst}
use Rattle.std.specs.Prelude.{IfSome, unwrap_or}
use Rattle.qv_words.specs.declared.sort.Sort.{Sort}
use Rattle.qv_words.specs.declared.sort.Sort.TheVariants.{Bool as BoolSort}
use Rattle.qv_words.specs.declared.word.Word.{Word}
use Rattle.qv_words.specs.Word.{word_sort}
use Rattle.qv_words.specs.Tree.{Tree, tree_sort}
use Rattle.qv_words.specs.InverseLaws.{IsOver as IsRowOver}
use Rattle.qv_words.specs.Choice.{put_in_row, descend}
use Rattle.qv_terms.specs.View.{tree}
use Rattle.qv_store.specs.Nodes.{tree_at}
use Rattle.qv_store.specs.Stores.{StandsAt, Grows}
use Rattle.qv_store.specs.Walks.{IsEarlier}
use Rattle.qv_store.specs.Evaluating.{IsWordOf, AreWords}
use Rattle.qv_choose_paths.specs.declared.ways.Step.{Step}
use Rattle.qv_choose_paths.specs.declared.ways.Way.TheVariants.{Open}
use Rattle.qv_choose_paths.specs.declared.seeing.Sight.{Sight}
use Rattle.qv_choose_paths.specs.Rows.{sort_of, sort_at, IsRowWord}
use Rattle.qv_choose_paths.specs.Looks.{way_of}
use Rattle.qv_choose_paths.specs.Steps.{other_or, StepsDown, IsOtherWord, IsOnTheWay}
use Rattle.qv_choose_paths.specs.Sights.{IsScene, AreSorted}
use Rattle.qv_choose_paths.proofs.RowTerms.{stays-at, row-sort, sort-is}
use Rattle.qv_choose_paths.proofs.SceneLaws.{earlier-below}
use Rattle.qv_choose_paths.proofs.StepLaws.{sort-as}

-- a row's leaves have the sorts of the words
pub word-over : (trees : List Tree) (s : Sight) (words : List Word) (at : ℕ) (step : Step) (target other : Word) → AreSorted trees s.walk words → StepsDown s.place trees s.walk at step → tree_sort (tree_at trees at) ≡ Some (word_sort target)
    → IsOtherWord s.walk words step.other target other → IsRowOver (word_sort other) (word_sort target) (tree step.row)
word-over trees s words at step target other sorted down sort h =
    subst (λ (r : Sort). IsRowOver (word_sort other) r (tree step.row)) (sort-as (tree_at trees at) (word_sort target) sort)
    (subst (λ (q : Sort). IsRowOver q (sort_of (tree_at trees at)) (tree step.row)) (own step.other h) down.over)
  where
    own : (q : Option ℕ) → IsOtherWord s.walk words q target other → sort_of (other_or trees q (tree_at trees at)) ≡ word_sort other
    own None e = sort-as (tree_at trees at) (word_sort target) sort ∙ ap word_sort (sym e)
    own (Some n) e = sort-as (tree_at trees n) (word_sort other) (sorted.sorts e.place n other e.at e.found)

-- at each point the next word is that of the next term
pub word-goes : (trees : List Tree) (s : Sight) (words : List Word) (from at : ℕ) (step : Step) (target other next : Word) (point : List Word) (t : Tree) → StepsDown s.place trees s.walk at step → IsOtherWord s.walk words step.other target other
    → IsRowWord (tree step.row) other target next → AreWords [] point trees s.walk words → IsOnTheWay s.place trees from at point t target → IsOnTheWay s.place trees from step.next point t next
word-goes trees s words from at step target other next point t down h row right way = record {
  term = put_in_row (other_or trees step.other way.term) way.term (tree step.row);
  goes = way.goes ∙ down.descends way.term;
  word = row point (other_or trees step.other way.term) way.term (own step.other h) way.word;
}
  where
    own : (q : Option ℕ) → IsOtherWord s.walk words q target other → IsWordOf [] point (other_or trees q way.term) other
    own None e = subst (λ (w : Word). IsWordOf [] point way.term w) (sym e) way.word
    own (Some n) e = right e.place n other e.at e.found

-- the same as terms
pub other-below : (trees : List Tree) (s : Sight) (at : ℕ) (step : Step) (made : ℕ) → IsScene trees s → StepsDown s.place trees s.walk at step → made < length trees → unwrap_or step.other made < length trees
other-below trees s at step made scene down low = own step.other down.other
  where
    own : (q : Option ℕ) → IfSome q (IsEarlier s.walk (length s.walk)) → unwrap_or q made < length trees
    own None e = low
    own (Some n) e = earlier-below trees s.walk n scene.walk e

pub put-over : (trees : List Tree) (s : Sight) (at : ℕ) (step : Step) (made : ℕ) → StepsDown s.place trees s.walk at step → tree_sort (tree_at trees made) ≡ tree_sort (tree_at trees at)
    → IsRowOver (sort_at trees (unwrap_or step.other made)) (sort_at trees made) (tree step.row)
put-over trees s at step made down sort =
    subst (λ (r : Sort). IsRowOver (sort_at trees (unwrap_or step.other made)) r (tree step.row)) same
    (subst (λ (q : Sort). IsRowOver q (sort_of (tree_at trees at)) (tree step.row)) (own step.other) down.over)
  where
    same : sort_of (tree_at trees at) ≡ sort_of (tree_at trees made)
    same = ap (λ o. unwrap_or o BoolSort) (sym sort)

    own : (q : Option ℕ) → sort_of (other_or trees q (tree_at trees at)) ≡ sort_at trees (unwrap_or q made)
    own None = same
    own (Some n) = refl

other-is : (trees : List Tree) (q : Option ℕ) (made : ℕ) → other_or trees q (tree_at trees made) ≡ tree_at trees (unwrap_or q made)
other-is trees None made = refl
other-is trees (Some n) made = refl

module _ (s : Sight) (store new : List Tree) (at made more : ℕ) (step : Step) (scene : IsScene store s) (down : StepsDown s.place store s.walk at step) (grows : Grows store new) (sort : tree_sort (tree_at store made) ≡ tree_sort (tree_at store at)) (low : made < length store)
    (stands : StandsAt new more (put_in_row (tree_at store (unwrap_or step.other made)) (tree_at store made) (tree step.row))) where
  next-stays : tree_at new step.next ≡ tree_at store step.next
  next-stays = stays-at store new step.next grows (earlier-below store s.walk step.next scene.walk down.next)

  pub put-way : way_of s.place (tree_at new step.next) ≡ Open
  put-way = ap (way_of s.place) next-stays ∙ down.way

  pub put-sort : tree_sort (tree_at new more) ≡ tree_sort (tree_at new step.next)
  put-sort =
      ap tree_sort stands.tree
      ∙ row-sort (sort_at store (unwrap_or step.other made)) (sort_at store made) (tree_at store (unwrap_or step.other made)) (tree_at store made) (tree step.row) down.sorted (put-over store s at step made down sort)
      (sort-is (tree_at store (unwrap_or step.other made)) (scene.shared.sorted (unwrap_or step.other made) (other-below store s at step made scene down low)))
      (sort-is (tree_at store made) (scene.shared.sorted made low))
      ∙ down.sort ∙ ap tree_sort (sym next-stays)

  pub put-goes : descend s.place.level (tree_at store at) (tree_at store made) ≡ descend s.place.level (tree_at new step.next) (tree_at new more)
  put-goes =
      down.descends (tree_at store made)
      ∙ ap (λ u. descend s.place.level (tree_at store step.next) (put_in_row u (tree_at store made) (tree step.row))) (other-is store step.other made)
      ∙ ap (λ u. descend s.place.level (tree_at store step.next) u) (sym stands.tree)
      ∙ ap (λ u. descend s.place.level u (tree_at new more)) (sym next-stays)
