-- Steps of a split.
use Rattle.std.proofs.Common.{◌≡◌, ℕ, ◌<◌, List, [], ◌∷◌, ◌++◌, length, sym, ap, ◌∙◌, subst, arith, append-nil, append_assoc}
use Rattle.std.specs.Prelude.{All}
use Rattle.std.proofs.lemmas.List.{map-append}
use Rattle.std.proofs.lemmas.List.Elements.{recursion_from_All}
use Rattle.qv_words.specs.declared.op.Op.{Op}
use Rattle.qv_words.specs.declared.op.Op.TheVariants.{And}
use Rattle.qv_words.specs.Tree.{Tree, Apply}
use Rattle.qv_words.specs.Prenex.{binary}
use Rattle.qv_words.proofs.Leaves.{both}
use Rattle.qv_store.specs.Nodes.{tree_at, trees_at}
use Rattle.qv_store.specs.Walks.{named}
use Rattle.qv_choose.specs.Conjuncts.{AreConjuncts, alone, of_both}
use Rattle.qv_choose.specs.Splitting.{AreOfEach, of_none, one_more, IsSplit, IsAnd}

pub first-split : (trees : List Tree) (id : ℕ) → id < length trees → IsSplit trees (tree_at trees id) (id ∷ []) []
first-split trees id low = record {
  waiting_below = (low, tt);
  parts_below = tt;
  leads = λ more h. only (tree_at trees id) more h;
}
  where
    only : (t : Tree) (more : List Tree) → AreOfEach (t ∷ []) more → AreConjuncts t more
    only t more (one_more u us ks ls h of_none) = subst (AreConjuncts t) (sym (append-nil ks)) h

joined-sides : (a b : Tree) (ts more : List Tree) → AreOfEach (a ∷ b ∷ ts) more → AreOfEach (binary And a b ∷ ts) more
joined-sides a b ts more (one_more t us ks ls h (one_more u vs ms ns k g)) =
    subst (AreOfEach (binary And a b ∷ ts)) (append_assoc ks ms ns) (one_more (binary And a b) ts (ks ++ ms) ns (of_both a b ks ms h k) g)

pub split-and : (trees : List Tree) (whole : Tree) (id a b : ℕ) (waiting parts : List ℕ) → IsAnd trees id a b → IsSplit trees whole (id ∷ waiting) parts → IsSplit trees whole (a ∷ b ∷ waiting) parts
split-and trees whole id a b waiting parts h s =
    let low : id < length trees = s.waiting_below.0 in
    let first = h.a_below in
    let second = h.b_below in
    record {
      waiting_below = (omega (arith, low, first), (omega (arith, low, second), s.waiting_below.1));
      parts_below = s.parts_below;
      leads = λ more k. s.leads more (subst (λ (t : Tree). AreOfEach (t ∷ named trees waiting) more) (sym h.tree) (joined-sides (tree_at trees a) (tree_at trees b) (named trees waiting) more k));
    }

pub split-part : (trees : List Tree) (whole : Tree) (id : ℕ) (waiting parts : List ℕ) → IsSplit trees whole (id ∷ waiting) parts → IsSplit trees whole waiting (parts ++ id ∷ [])
split-part trees whole id waiting parts s = record {
  waiting_below = s.waiting_below.1;
  parts_below = both (λ n. n < length trees) parts (id ∷ []) s.parts_below (s.waiting_below.0, tt);
  leads = λ more k.
      let pushed : named trees (parts ++ id ∷ []) ++ more ≡ named trees parts ++ tree_at trees id ∷ more =
      ap (λ ts. ts ++ more) (map-append (tree_at trees) parts (id ∷ [])) ∙ append_assoc (named trees parts) (tree_at trees id ∷ []) more in
      subst (AreConjuncts whole) (sym pushed)
      (s.leads (tree_at trees id ∷ more) (one_more (tree_at trees id) (named trees waiting) (tree_at trees id ∷ []) more (alone (tree_at trees id)) k));
}

pub whole-split : (trees : List Tree) (whole : Tree) (parts : List ℕ) → IsSplit trees whole [] parts → AreConjuncts whole (named trees parts)
whole-split trees whole parts s = subst (AreConjuncts whole) (append-nil (named trees parts)) (s.leads [] of_none)

pub and-of : (trees : List Tree) (id a b : ℕ) (op : Op) (kids : List ℕ) → Apply op (trees_at trees kids) ≡ tree_at trees id → All (λ child. child < id) kids → op ≡ And → kids ≡ a ∷ b ∷ [] → IsAnd trees id a b
and-of trees id a b op kids e below is two =
    let each = recursion_from_All (λ (child : ℕ). child < id) (a ∷ b ∷ []) (subst (λ (ks : List ℕ). All (λ child. child < id) ks) two below) in
    record {
      tree = sym e ∙ ap (λ (o : Op). Apply o (trees_at trees kids)) is ∙ ap (λ (ks : List ℕ). Apply And (trees_at trees ks)) two;
      a_below = each.0;
      b_below = each.1.0;
    }
