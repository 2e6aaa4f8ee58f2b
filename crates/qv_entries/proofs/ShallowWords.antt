-- Words of applications to few terms whose words are known.
use Rattle.std.proofs.Common.{◌≡◌, ℕ, Some, List, [], ◌∷◌, IsSome, is_some, refl, sym, ap, subst, ◌∙◌}
use Rattle.std.specs.Prelude.{option_and_then, option_map}
use Rattle.std.specs.List.{AllZip, slice_get}
use Rattle.qv_words.specs.declared.sort.Sort.{Sort}
use Rattle.qv_words.specs.declared.op.Op.{Op}
use Rattle.qv_words.specs.declared.word.Word.{Word}
use Rattle.qv_words.specs.Word.{sorts_of, values_of, word_sort, word_value}
use Rattle.qv_words.specs.Op.{op_value}
use Rattle.qv_words.specs.Rank.{result_sort}
use Rattle.qv_words.specs.Tree.{Tree, Apply, tree_sorts}
use Rattle.qv_words.specs.Sorted.{IsSorted, no_levels}
use Rattle.qv_words.specs.Meaning.{MeanAll}
use Rattle.qv_store.specs.Evaluating.{HasValue, IsWordOf}
use Rattle.qv_store.specs.Nodes.{tree_at, trees_at}
use Rattle.qv_store.proofs.Evaluation.{inherit-value}
use Rattle.qv_words.proofs.Existing.{has_sort}

module _ (point : List Word) (trees : List Tree) where
  abbrev pub AreWordsOf : List ℕ → List Word → Type 0
  AreWordsOf kids args = AllZip (λ k w. IsWordOf [] point (tree_at trees k) w) kids args

  args-sorts : (kids : List ℕ) (args : List Word) → AreWordsOf kids args → tree_sorts (trees_at trees kids) ≡ Some (sorts_of args)
  args-sorts [] [] h = refl
  args-sorts [] (w ∷ ws) h = absurd h
  args-sorts (k ∷ ks) [] h = absurd h
  args-sorts (k ∷ ks) (w ∷ ws) h =
      ap (λ o. option_and_then (λ s. option_map (λ sorts. s ∷ sorts) (tree_sorts (trees_at trees ks))) o) h.0.sort
      ∙ ap (λ o. option_map (λ (sorts : List Sort). word_sort w ∷ sorts) o) (args-sorts ks ws h.1)

  args-mean : (kids : List ℕ) (args : List Word) → AreWordsOf kids args → MeanAll [] (slice_get (values_of point)) (trees_at trees kids) (values_of args)
  args-mean [] [] h = refl
  args-mean [] (w ∷ ws) h = absurd h
  args-mean (k ∷ ks) [] h = absurd h
  args-mean (k ∷ ks) (w ∷ ws) h = (word_value w, values_of ws, h.0.value, args-mean ks ws h.1, refl)

  -- they have a rank where the application is sorted
  pub args-rank : (op : Op) (kids : List ℕ) (args : List Word) → IsSorted (Apply op (trees_at trees kids)) → AreWordsOf kids args → IsSome (result_sort op (sorts_of args))
  args-rank op kids args sorted h =
      let at = has_sort (Apply op (trees_at trees kids)) no_levels sorted in
      ap is_some (sym (ap (option_and_then (result_sort op)) (args-sorts kids args h)) ∙ at.1)

  -- and what the operator gives is the application's word
  pub applied-word : (op : Op) (kids : List ℕ) (args : List Word) (w : Word) → AreWordsOf kids args → result_sort op (sorts_of args) ≡ Some (word_sort w) → word_value w ≡ op_value op (sorts_of args) (values_of args) → IsWordOf [] point (Apply op (trees_at trees kids)) w
  applied-word op kids args w h sort value = record {
    sort = ap (option_and_then (result_sort op)) (args-sorts kids args h) ∙ sort;
    value = (sorts_of args, values_of args, args-sorts kids args h, args-mean kids args h, value);
  }

  -- the arguments have values
  pub one-value : (op : Op) (kids : List ℕ) (a : ℕ) → kids ≡ a ∷ [] → HasValue [] point (Apply op (trees_at trees kids)) → HasValue [] point (tree_at trees a)
  one-value op kids a is h = (inherit-value [] point (Apply op (trees_at trees (a ∷ []))) (subst (λ (ks : List ℕ). HasValue [] point (Apply op (trees_at trees ks))) is h)).0

  pub two-values : (op : Op) (kids : List ℕ) (a b : ℕ) → kids ≡ a ∷ b ∷ [] → HasValue [] point (Apply op (trees_at trees kids)) → HasValue [] point (tree_at trees a) × HasValue [] point (tree_at trees b)
  two-values op kids a b is h =
      let each = inherit-value [] point (Apply op (trees_at trees (a ∷ b ∷ []))) (subst (λ (ks : List ℕ). HasValue [] point (Apply op (trees_at trees ks))) is h) in
      (each.0, each.1.0)
