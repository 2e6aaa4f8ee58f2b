-- What is kept of terms.
use Rattle.std.proofs.Common.{◌≡◌, ℕ, ◌+◌, ◌<◌, ◌≤◌, Bool, true, false, if◌then◌else◌, nat_lt, Option, Some, None, List, [], ◌∷◌, ◌++◌, length, take, get_or, nat_eq, refl, sym, ap, ◌∙◌, subst, arith}
use Rattle.std.specs.HashMap.{get}
use Rattle.std.proofs.lemmas.Bool.{ltb-true, ltb-false}
use Rattle.std.proofs.lemmas.List.{take_more, get_or_past}
use Rattle.qv_words.specs.Tree.{Tree, Trees, Constant, Variable, Literal, Apply, ForAll, Exists, Nil, Cons}
use Rattle.qv_words.proofs.Equals.{eq-from_test}
use Rattle.qv_store.specs.Nodes.{tree_at, trees_at}
use Rattle.qv_store.specs.Stores.{Grows}
use Rattle.qv_store.proofs.Replacement.{grown-tree, grown-within}
use Rattle.qv_prenex_splits.specs.declared.memo.Changes.{Changes}
use Rattle.qv_prenex_splits.specs.declared.memo.Entry.{Entry}
use Rattle.qv_prenex_splits.specs.declared.memo.Memo.{Memo}
use Rattle.qv_prenex_splits.specs.Memos.{rank_of, IsWithin, AreWithin, last_change, reach_by, reach_in, AreKept, IsKeptNext, IsNew}

-- in a greater store
pub kept-grows : (old new : List Tree) (memo : Memo) → Grows old new → AreKept old memo → AreKept new memo
kept-grows old new memo g h = record {
  below = λ k e at. grown-within old new g k (h.below k e at);
  within = λ k e at. subst (IsWithin e.reach) (sym (grown-tree old new g k (h.below k e at))) (h.within k e at);
  before = h.before;
  past = h.past;
}

pub none-kept : (trees : List Tree) (memo : Memo) → IsNew memo → AreKept trees memo
none-kept trees memo n = record {
  below = λ k e at. absurd (let none = n.nothing k in let bad : None ≡ Some e = sym none ∙ at in cc);
  within = λ k e at. absurd (let none = n.nothing k in let bad : None ≡ Some e = sym none ∙ at in cc);
  before = λ k e at. absurd (let none = n.nothing k in let bad : None ≡ Some e = sym none ∙ at in cc);
  past = n.past;
}

-- one more entry
pub kept-more : (trees : List Tree) (old new : Memo) (id made reach : ℕ) → AreKept trees old → id < length trees → IsWithin reach (tree_at trees id) → IsKeptNext old new id made reach → AreKept trees new
kept-more trees old new id made reach h low within n = record {
  below = λ k e at. below-by k e at (nat_eq id k) refl;
  within = λ k e at. within-by k e at (nat_eq id k) refl;
  before = λ k e at. subst (λ (c : Changes). e.time ≤ c.count) (sym n.changes) (before-by k e at (nat_eq id k) refl);
  past = λ r. subst (λ (c : Changes). last_change c r ≤ c.count) (sym n.changes) (h.past r);
}
  where
    own : Entry
    own = record { made = made; reach = reach; time = old.changes.count }

    is-own : (k : ℕ) (e : Entry) → get nat_eq new.entries k ≡ Some e → nat_eq id k ≡ true → (id ≡ k) × (own ≡ e)
    is-own k e at q =
        let same : id ≡ k = eq-from_test id k q in
        let both : Some own ≡ Some e = sym n.here ∙ ap (get nat_eq new.entries) same ∙ at in
        (same, cc)

    below-by : (k : ℕ) (e : Entry) → get nat_eq new.entries k ≡ Some e → (b : Bool) → nat_eq id k ≡ b → k < length trees
    below-by k e at true q = subst (λ (x : ℕ). x < length trees) (is-own k e at q).0 low
    below-by k e at false q = h.below k e (sym (n.others k q) ∙ at)

    within-by : (k : ℕ) (e : Entry) → get nat_eq new.entries k ≡ Some e → (b : Bool) → nat_eq id k ≡ b → IsWithin e.reach (tree_at trees k)
    within-by k e at true q =
        let o = is-own k e at q in
        subst (λ (x : Entry). IsWithin x.reach (tree_at trees k)) o.1 (subst (λ (x : ℕ). IsWithin reach (tree_at trees x)) o.0 within)
    within-by k e at false q = h.within k e (sym (n.others k q) ∙ at)

    before-by : (k : ℕ) (e : Entry) → get nat_eq new.entries k ≡ Some e → (b : Bool) → nat_eq id k ≡ b → e.time ≤ old.changes.count
    before-by k e at true q = subst (λ (x : Entry). x.time ≤ old.changes.count) (is-own k e at q).1 (omega arith)
    before-by k e at false q = h.before k e (sym (n.others k q) ∙ at)

-- a greater reach
rank-few : (l : ℕ) → rank_of l < 4097
rank-few l = by (nat_lt l 4096) refl
  where
    by : (b : Bool) → nat_lt l 4096 ≡ b → (if b then l else 4096) < 4097
    by true e = let less = ltb-true l 4096 e in omega (arith, less)
    by false e = omega arith

mutual
  within-more : (m n : ℕ) → m ≤ n → (t : Tree) → IsWithin m t → IsWithin n t
  within-more m n le (Constant i s) h = tt
  within-more m n le (Variable l s) h = omega (arith, h, le)
  within-more m n le (Literal s v) h = tt
  within-more m n le (Apply o args) h = are-within-more m n le args h
  within-more m n le (ForAll l s body) h = tt
  within-more m n le (Exists l s body) h = tt

  pub are-within-more : (m n : ℕ) → m ≤ n → (ts : Trees) → AreWithin m ts → AreWithin n ts
  are-within-more m n le Nil h = tt
  are-within-more m n le (Cons t ts) h = (within-more m n le t h.0, are-within-more m n le ts h.1)

mutual
  within-all : (t : Tree) → IsWithin 4097 t
  within-all (Constant i s) = tt
  within-all (Variable l s) = rank-few l
  within-all (Literal s v) = tt
  within-all (Apply o args) = are-within-all args
  within-all (ForAll l s body) = tt
  within-all (Exists l s body) = tt

  are-within-all : (ts : Trees) → AreWithin 4097 ts
  are-within-all Nil = tt
  are-within-all (Cons t ts) = (within-all t, are-within-all ts)

-- that of one of some terms
pub within-reach : (trees : List Tree) (memo : Memo) (k : ℕ) → AreKept trees memo → IsWithin (reach_in memo k) (tree_at trees k)
within-reach trees memo k h = by (get nat_eq memo.entries k) refl
  where
    by : (o : Option Entry) → get nat_eq memo.entries k ≡ o → IsWithin (reach_by o) (tree_at trees k)
    by None e = within-all (tree_at trees k)
    by (Some x) e = h.within k x e

pub within-push : (trees : List Tree) (kids : List ℕ) (i kid reach next own : ℕ) → AreWithin reach (trees_at trees (take i kids)) → IsWithin own (tree_at trees kid) → reach ≤ next → own ≤ next → i < length kids → kid ≡ get_or kids i kid →
    AreWithin next (trees_at trees (take (i + 1) kids))
within-push trees kids i kid reach next own h k le more low at =
    let all : take (i + 1) kids ≡ take i kids ++ kid ∷ [] = take_more kids i kid low ∙ ap (λ n. take i kids ++ n ∷ []) (sym at) in
    subst (λ (ks : List ℕ). AreWithin next (trees_at trees ks)) (sym all) (go (take i kids) (are-within-more reach next le (trees_at trees (take i kids)) h))
  where
    go : (ks : List ℕ) → AreWithin next (trees_at trees ks) → AreWithin next (trees_at trees (ks ++ kid ∷ []))
    go [] h = (within-more own next more (tree_at trees kid) k, tt)
    go (x ∷ xs) h = (h.0, go xs h.1)

-- the list of changes after one
pub changed-at : (old new : List ℕ) (now later rank reach : ℕ) → length new ≡ rank + 1 → ((k d : ℕ) → k < rank + 1 → k < length old → get_or new k d ≡ get_or old k d) →
    ((k d : ℕ) → length old ≤ k → k < rank + 1 → get_or new k d ≡ now) → get_or new reach later ≡ (if nat_lt rank reach then later else get_or old reach now)
changed-at old new now later rank reach len same filled = by (nat_lt rank reach) refl
  where
    within : (b : Bool) → nat_lt reach (length old) ≡ b → reach < rank + 1 → get_or new reach later ≡ get_or old reach now
    within true e low = let less = ltb-true reach (length old) e in same reach later low less ∙ default less
      where
        default : reach < length old → get_or old reach later ≡ get_or old reach now
        default less = Rattle.std.proofs.lemmas.List.get_or_default old reach later now less
    within false e low = let le = ltb-false reach (length old) e in filled reach later le low ∙ sym (get_or_past old reach now le)

    by : (b : Bool) → nat_lt rank reach ≡ b → get_or new reach later ≡ (if b then later else get_or old reach now)
    by true e = let less = ltb-true rank reach e in get_or_past new reach later (omega (arith, less, len))
    by false e = let le = ltb-false rank reach e in within (nat_lt reach (length old)) refl (omega (arith, le))
