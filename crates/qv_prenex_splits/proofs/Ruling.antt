-- The rule of a term over ids.
use Rattle.std.proofs.Common.{◌≡◌, ℕ, ◌<◌, Bool, Some, List, [], ◌∷◌, length, refl, sym, ap, ◌∙◌, subst, arith}
use Rattle.qv_words.specs.declared.op.Op.{Op}
use Rattle.qv_words.specs.declared.op.Op.TheVariants.{Not, And, Or, Xor, Implies, Equal, Ite}
use Rattle.qv_words.specs.Tree.{Tree, Apply, tree_sort}
use Rattle.qv_words.specs.Sorted.{IsSorted, no_levels}
use Rattle.qv_words.specs.Prenex.{first_choice, is_quantified, ite, put_for, negation}
use Rattle.qv_store.specs.Nodes.{tree_at, trees_at}
use Rattle.qv_store.specs.Stores.{StandsAt, AreShared, Grows}
use Rattle.qv_store.proofs.Replacement.{grown-tree, grown-within, grows-more}
use Rattle.qv_prenex_laws.specs.RuleLaws.{split_rule, application_rule, chosen_rule, rule_at}
use Rattle.qv_prenex_splits.specs.declared.splitting.BitIte.{BitIte}
use Rattle.qv_prenex_splits.specs.Rebuilt.{rebuilt}
use Rattle.qv_prenex_splits.specs.Rebuilding.{term_top}
use Rattle.qv_prenex_splits.specs.Splitting.{ite_in, IsIteIn}
use Rattle.qv_prenex_splits.proofs.PutFor.{rebuilt-put_for, ChoiceSorts, choice-sorts}
use Rattle.qv_prenex_splits.proofs.Fitting.{AreSortedParts, parts-sorted}

-- no rule of their own have applications to no argument, or to more than three
none-split : (trees : List Tree) (plus : Bool) (o : Op) → split_rule plus (Apply o (trees_at trees [])) (first_choice (Apply o (trees_at trees []))) ≡ application_rule plus o (trees_at trees [])
none-split trees plus Not = refl
none-split trees plus And = refl
none-split trees plus Or = refl
none-split trees plus Xor = refl
none-split trees plus Implies = refl
none-split trees plus Equal = refl
none-split trees plus Ite = refl
none-split trees plus o = refl

pub few-split : (trees : List Tree) (plus : Bool) (o : Op) (kids : List ℕ) → length kids < 1 →
    split_rule plus (Apply o (trees_at trees kids)) (first_choice (Apply o (trees_at trees kids))) ≡ application_rule plus o (trees_at trees kids)
few-split trees plus o [] h = none-split trees plus o
few-split trees plus o (k ∷ ks) h = absurd (omega (arith, h))

long-split : (trees : List Tree) (plus : Bool) (o : Op) (a b c d : ℕ) (ks : List ℕ) →
    split_rule plus (Apply o (trees_at trees (a ∷ b ∷ c ∷ d ∷ ks))) (first_choice (Apply o (trees_at trees (a ∷ b ∷ c ∷ d ∷ ks)))) ≡ application_rule plus o (trees_at trees (a ∷ b ∷ c ∷ d ∷ ks))
long-split trees plus Not a b c d ks = refl
long-split trees plus And a b c d ks = refl
long-split trees plus Or a b c d ks = refl
long-split trees plus Xor a b c d ks = refl
long-split trees plus Implies a b c d ks = refl
long-split trees plus Equal a b c d ks = refl
long-split trees plus Ite a b c d ks = refl
long-split trees plus o a b c d ks = refl

pub many-split : (trees : List Tree) (plus : Bool) (o : Op) (kids : List ℕ) → 3 < length kids →
    split_rule plus (Apply o (trees_at trees kids)) (first_choice (Apply o (trees_at trees kids))) ≡ application_rule plus o (trees_at trees kids)
many-split trees plus o [] h = absurd (omega (arith, h))
many-split trees plus o (a ∷ []) h = absurd (omega (arith, h))
many-split trees plus o (a ∷ b ∷ []) h = absurd (omega (arith, h))
many-split trees plus o (a ∷ b ∷ c ∷ []) h = absurd (omega (arith, h))
many-split trees plus o (a ∷ b ∷ c ∷ d ∷ ks) h = long-split trees plus o a b c d ks

-- the change at a choice of the store
pub put-is : (trees : List Tree) (choice : BitIte) (put t : Tree) → IsIteIn trees choice → rebuilt (term_top (tree_at trees choice.whole) put) t ≡ put_for (tree_at trees choice.whole) put t
put-is trees choice put t h =
    subst (λ (w : Tree). rebuilt (term_top w put) t ≡ put_for w put t) (sym h.whole.tree)
    (rebuilt-put_for (tree_at trees choice.condition) (tree_at trees choice.yes) (tree_at trees choice.no) put h.quantified t)

-- its sides have its sort
pub whole-sorts : (trees : List Tree) (choice : BitIte) → AreShared trees → IsIteIn trees choice → ChoiceSorts (tree_at trees choice.condition) (tree_at trees choice.yes) (tree_at trees choice.no)
whole-sorts trees choice shared h =
    let sorted : IsSorted (ite (tree_at trees choice.condition) (tree_at trees choice.yes) (tree_at trees choice.no)) = subst IsSorted h.whole.tree (shared.sorted choice.whole h.whole.below) in
    choice-sorts (tree_at trees choice.condition) (tree_at trees choice.yes) (tree_at trees choice.no) sorted.1

pub yes-sort : (trees : List Tree) (choice : BitIte) → AreShared trees → IsIteIn trees choice → tree_sort (tree_at trees choice.yes) ≡ tree_sort (tree_at trees choice.whole)
yes-sort trees choice shared h = (whole-sorts trees choice shared h).yes ∙ sym (ap tree_sort h.whole.tree)

pub no-sort : (trees : List Tree) (choice : BitIte) → AreShared trees → IsIteIn trees choice → tree_sort (tree_at trees choice.no) ≡ tree_sort (tree_at trees choice.whole)
no-sort trees choice shared h = (whole-sorts trees choice shared h).no ∙ sym (ap tree_sort h.whole.tree)

-- a choice stays where the store grows
pub choice-grows : (old new : List Tree) (choice : BitIte) → Grows old new → IsIteIn old choice → IsIteIn new choice
choice-grows old new choice g h =
    let c = grown-tree old new g choice.condition h.condition in
    let y = grown-tree old new g choice.yes h.yes in
    let n = grown-tree old new g choice.no h.no in
    let w = grown-tree old new g choice.whole h.whole.below in
    record {
      whole = record {
        below = grown-within old new g choice.whole h.whole.below;
        tree = w ∙ h.whole.tree ∙ ap (λ t. ite t (tree_at old choice.yes) (tree_at old choice.no)) (sym c) ∙ ap (λ t. ite (tree_at new choice.condition) t (tree_at old choice.no)) (sym y) ∙ ap (ite (tree_at new choice.condition) (tree_at new choice.yes)) (sym n);
      };
      condition = grown-within old new g choice.condition h.condition;
      quantified = ap is_quantified c ∙ h.quantified;
      yes = grown-within old new g choice.yes h.yes;
      no = grown-within old new g choice.no h.no;
    }

-- the two trees that are put at a split
pub split-is : (old mid new : List Tree) (choice : BitIte) (plus : Bool) (term y n : ℕ) → Grows old mid → Grows mid new → term < length old → IsIteIn old choice →
    StandsAt mid y (put_for (tree_at old choice.whole) (tree_at old choice.yes) (tree_at old term)) → StandsAt new n (put_for (tree_at mid choice.whole) (tree_at mid choice.no) (tree_at mid term)) →
    chosen_rule plus (tree_at new choice.condition) (tree_at new y) (tree_at new n) ≡ split_rule plus (tree_at old term) (Some (ite_in old choice))
split-is old mid new choice plus term y n f g low h at-y at-n =
    let both = grows-more old mid new f g in
    let condition = grown-tree old new both choice.condition h.condition in
    let target = ite (tree_at old choice.condition) (tree_at old choice.yes) (tree_at old choice.no) in
    let first : tree_at new y ≡ put_for target (tree_at old choice.yes) (tree_at old term) =
    grown-tree mid new g y at-y.below ∙ at-y.tree ∙ ap (λ w. put_for w (tree_at old choice.yes) (tree_at old term)) h.whole.tree in
    let second : tree_at new n ≡ put_for target (tree_at old choice.no) (tree_at old term) =
    at-n.tree
    ∙ ap (λ w. put_for w (tree_at mid choice.no) (tree_at mid term)) (grown-tree old mid f choice.whole h.whole.below ∙ h.whole.tree)
    ∙ ap (λ p. put_for target p (tree_at mid term)) (grown-tree old mid f choice.no h.no)
    ∙ ap (put_for target (tree_at old choice.no)) (grown-tree old mid f term low) in
    ap (λ c. chosen_rule plus c (tree_at new y) (tree_at new n)) condition
    ∙ ap (λ t. chosen_rule plus (tree_at old choice.condition) t (tree_at new n)) first
    ∙ ap (chosen_rule plus (tree_at old choice.condition) (put_for target (tree_at old choice.yes) (tree_at old term))) second
