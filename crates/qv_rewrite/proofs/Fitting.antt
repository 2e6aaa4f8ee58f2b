-- Rules at terms of a store.
use Rattle.std.proofs.Common.{◌≡◌, ℕ, ◌<◌, ◌==◌, Bool, true, false, Option, Some, None, IsSome, List, [], ◌∷◌, length, get_or, cond, refl, sym, ap, ◌∙◌, subst, arith}
use Rattle.std.specs.Prelude.{option_map, option_and_then}
use Rattle.qv_words.specs.declared.sort.Sort.{Sort}
use Rattle.qv_words.specs.declared.op.Op.{Op}
use Rattle.qv_words.specs.declared.word.Word.{Word}
use Rattle.qv_words.specs.Word.{word_sort, word_value}
use Rattle.qv_words.specs.Rank.{result_sort}
use Rattle.qv_words.specs.Op.{op_value}
use Rattle.qv_words.specs.Tree.{Tree, Trees, Constant, Variable, Literal, Apply, ForAll, Exists, Nil, Cons, tree_sort, tree_sorts}
use Rattle.qv_words.specs.Equality.{op_eq, tree_eq}
use Rattle.qv_words.specs.Passes.{Literals, literals_of, fold_literals, under_both}
use Rattle.qv_words.proofs.Equals.{test-refl, eq-from_test, op_eq-is, tree_eq-refl, tree_eq-is}
use Rattle.qv_store.specs.Nodes.{tree_at, trees_at}
use Rattle.qv_store.specs.Stores.{AreShared}
use Rattle.qv_rewrite.specs.Made.{literal_of, as_literal}
use Rattle.std.proofs.lemmas.Bool.{and_parts}

-- two terms of a store are the same where their numbers are
pub same-number : (trees : List Tree) (a b : ℕ) → AreShared trees → a < length trees → b < length trees → tree_eq (tree_at trees a) (tree_at trees b) ≡ (a == b)
same-number trees a b h p q = go (tree_eq (tree_at trees a) (tree_at trees b)) refl (a == b) refl
  where
    go : (x : Bool) → tree_eq (tree_at trees a) (tree_at trees b) ≡ x → (y : Bool) → (a == b) ≡ y → x ≡ y
    go true e true f = refl
    go false e false f = refl
    go true e false f =
        let numbers : a ≡ b = h.once a b p q (tree_eq-is (tree_at trees a) (tree_at trees b) e) in
        sym (test-refl b) ∙ ap (λ n. n == b) (sym numbers) ∙ f
    go false e true f =
        let numbers : a ≡ b = eq-from_test a b f in
        sym e ∙ ap (λ n. tree_eq (tree_at trees n) (tree_at trees b)) numbers ∙ tree_eq-refl (tree_at trees b)

-- an operator is itself, and no other
pub op-test : (a b : Op) (x : Bool) → (x ≡ true → a ≡ b) → (a ≡ b → x ≡ true) → x ≡ op_eq a b
op-test a b x same other = go (op_eq a b) refl x refl
  where
    itself : op_eq b b ≡ true
    itself = (and_parts (op_eq b b) true (tree_eq-refl (Apply b Nil))).0

    go : (p : Bool) → op_eq a b ≡ p → (q : Bool) → x ≡ q → q ≡ p
    go true e true f = refl
    go false e false f = refl
    go true e false f = sym f ∙ other (op_eq-is a b e)
    go false e true f = absurd (let equal : a ≡ b = same f in let h : op_eq a b ≡ true = ap (λ o. op_eq o b) equal ∙ itself in cc)

-- what stands under two applications of one operator
pub under-none : (trees : List Tree) (o p : Op) (kids : List ℕ) → (length kids ≡ 1 → ⊥) → None ≡ under_both o (Apply p (trees_at trees kids))
under-none trees o p [] h = refl
under-none trees o p (a ∷ []) h = absurd (h refl)
under-none trees o p (a ∷ b ∷ kids) h = refl

pub under-only : (trees : List Tree) (o p : Op) (kids : List ℕ) (a : ℕ) → length kids ≡ 1 → a ≡ get_or kids 0 a → under_both o (Apply p (trees_at trees kids)) ≡ cond (op_eq o p) (Some (tree_at trees a)) None
under-only trees o p [] a h e = cc
under-only trees o p (k ∷ []) a h e = ap (λ n. cond (op_eq o p) (Some (tree_at trees n)) None) (sym e)
under-only trees o p (k ∷ l ∷ kids) a h e = absurd (omega (arith, h))

-- literals
literal-is : (t x : Tree) → Some x ≡ as_literal t → t ≡ x
literal-is (Literal s n) x e = cc
literal-is (Constant i s) x e = cc
literal-is (Variable l s) x e = cc
literal-is (Apply o ts) x e = cc
literal-is (ForAll l s t) x e = cc
literal-is (Exists l s t) x e = cc

literals-cons : (t : Tree) (ts : Trees) (a : Word) (l : Literals) → Some (literal_of a) ≡ as_literal t → literals_of ts ≡ Some l → literals_of (Cons t ts) ≡ Some (record { sorts = word_sort a ∷ l.sorts; values = word_value a ∷ l.values })
literals-cons t ts a l e f =
    ap (λ x. literals_of (Cons x ts)) (literal-is t (literal_of a) e) ∙ ap (option_map (λ (k : Literals). record { sorts = word_sort a ∷ k.sorts; values = word_value a ∷ k.values })) f

pub literals_one : (t : Tree) (a : Word) → Some (literal_of a) ≡ as_literal t → literals_of (Cons t Nil) ≡ Some (record { sorts = word_sort a ∷ []; values = word_value a ∷ [] })
literals_one t a e = literals-cons t Nil a (record { sorts = []; values = [] }) e refl

pub literals_two : (t u : Tree) (a b : Word) → Some (literal_of a) ≡ as_literal t → Some (literal_of b) ≡ as_literal u → literals_of (Cons t (Cons u Nil)) ≡ Some (record { sorts = word_sort a ∷ word_sort b ∷ []; values = word_value a ∷ word_value b ∷ [] })
literals_two t u a b e f =
    literals-cons t (Cons u Nil) a (record { sorts = word_sort b ∷ []; values = word_value b ∷ [] }) e (literals_one u b f)

pub literals_three : (t u v : Tree) (a b c : Word) → Some (literal_of a) ≡ as_literal t → Some (literal_of b) ≡ as_literal u → Some (literal_of c) ≡ as_literal v → literals_of (Cons t (Cons u (Cons v Nil))) ≡ Some (record { sorts = word_sort a ∷ word_sort b ∷ word_sort c ∷ []; values = word_value a ∷ word_value b ∷ word_value c ∷ [] })
literals_three t u v a b c e f g =
    literals-cons t (Cons u (Cons v Nil)) a (record { sorts = word_sort b ∷ word_sort c ∷ []; values = word_value b ∷ word_value c ∷ [] }) e (literals_two u v b c f g)

pub no-literals : (t : Tree) (ts : Trees) → None ≡ as_literal t → literals_of (Cons t ts) ≡ None
no-literals (Literal s n) ts e = cc
no-literals (Constant i s) ts e = refl
no-literals (Variable l s) ts e = refl
no-literals (Apply o us) ts e = refl
no-literals (ForAll l s t) ts e = refl
no-literals (Exists l s t) ts e = refl

pub no-others : (t : Tree) (ts : Trees) (a : Word) → Some (literal_of a) ≡ as_literal t → literals_of ts ≡ None → literals_of (Cons t ts) ≡ None
no-others t ts a e f =
    ap (λ x. literals_of (Cons x ts)) (literal-is t (literal_of a) e) ∙ ap (option_map (λ (k : Literals). record { sorts = word_sort a ∷ k.sorts; values = word_value a ∷ k.values })) f

-- the sorts of literals
sorts-of_some : (q : Option Literals) (l : Literals) → q ≡ Some l → option_map (λ (k : Literals). k.sorts) q ≡ Some l.sorts
sorts-of_some q l e = ap (option_map (λ (k : Literals). k.sorts)) e

literal-sorts : (ts : Trees) (l : Literals) → literals_of ts ≡ Some l → tree_sorts ts ≡ Some l.sorts
literal-sorts Nil l e = sorts-of_some (literals_of Nil) l e
literal-sorts (Cons (Literal s n) ts) l e = go (literals_of ts) refl (literal-sorts ts) e
  where
    go : (q : Option Literals) → literals_of ts ≡ q → ((k : Literals) → literals_of ts ≡ Some k → tree_sorts ts ≡ Some k.sorts) → option_map (λ (k : Literals). record { sorts = s ∷ k.sorts; values = n ∷ k.values }) q ≡ Some l → option_map (λ sorts. s ∷ sorts) (tree_sorts ts) ≡ Some l.sorts
    go None is others e = cc
    go (Some k) is others e = ap (option_map (λ sorts. s ∷ sorts)) (others k is) ∙ sorts-of_some (Some (record { sorts = s ∷ k.sorts; values = n ∷ k.values })) l e
literal-sorts (Cons (Constant i s) ts) l e = cc
literal-sorts (Cons (Variable i s) ts) l e = cc
literal-sorts (Cons (Apply o us) ts) l e = cc
literal-sorts (Cons (ForAll i s t) ts) l e = cc
literal-sorts (Cons (Exists i s t) ts) l e = cc

-- an application of literals has a rank where it has a sort, and is folded to the literal of its value
pub fold-rank : (o : Op) (ts : Trees) (l : Literals) → literals_of ts ≡ Some l → IsSome (tree_sort (Apply o ts)) → IsSome (result_sort o l.sorts)
fold-rank o ts l e h = subst (λ (q : Option (List Sort)). IsSome (option_and_then (result_sort o) q)) (literal-sorts ts l e) h

pub fold-made : (o : Op) (ts : Trees) (l : Literals) (r : Word) → literals_of ts ≡ Some l → result_sort o l.sorts ≡ Some (word_sort r) → word_value r ≡ op_value o l.sorts l.values → Some (literal_of r) ≡ fold_literals o (literals_of ts)
fold-made o ts l r e sort value =
    sym (ap (fold_literals o) e ∙ ap (option_map (λ s. Literal s (op_value o l.sorts l.values))) sort ∙ ap (λ n. Some (Literal (word_sort r) n)) (sym value))
