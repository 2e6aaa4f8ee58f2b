-- Trees in which constants stand for the places behind a path.
use Rattle.std.proofs.Common.{◌≡◌, ℕ, ◌==◌, ◌⊎◌, Bool, true, false, cond, Option, Some, None, List, [], ◌∷◌, ◌++◌, length, slice_get, refl, sym, ap, ◌∙◌, inl, inr, arith}
use Rattle.std.specs.Prelude.{unwrap_or}
use Rattle.std.specs.List.{AllByRecursion}
use Rattle.std.proofs.lemmas.Bool.{cases_eq}
use Rattle.std.proofs.lemmas.Bool.Decides.{nat_tests}
use Rattle.qv_words.specs.declared.sort.Sort.{Sort}
use Rattle.qv_words.specs.Tree.{Tree, Trees, Constant, Variable, Literal, Apply, ForAll, Exists, Nil, Cons, IsQuantifierFree, AreQuantifierFree}
use Rattle.qv_words.specs.Sorted.{with_level, constants_of, constants_of_all, free_levels, free_levels_of_all}
use Rattle.qv_words.specs.Replacement.{replaced, replaced_each}
use Rattle.qv_cert_section_laws.specs.ByLine.{PathByOneMore, opened, each_opened, constant_put, constant_put_each}
use Rattle.qv_words.proofs.Leaves.{front, back, at_level, past_level}
use Rattle.qv_cert_section_laws.proofs.PutTerms.{Nothing}
use Rattle.qv_words.proofs.Elements.{none-or_some, all-of, in-front, pushed-last, pushed-other}

pub path-by-one-more : PathByOneMore
path-by-one-more path t k = elim (cases_eq k (length path)) [ inl same ↦ last same | inr other ↦ earlier other ]
  where
    last : k ≡ length path → slice_get (path ++ t ∷ []) k ≡ with_level (slice_get path) (length path) t k
    last same = ap (slice_get (path ++ t ∷ [])) same ∙ pushed-last path t ∙ sym (at_level (slice_get path) (length path) t k (grind (arith, nat_tests)))

    earlier : (k ≡ length path → ⊥) → slice_get (path ++ t ∷ []) k ≡ with_level (slice_get path) (length path) t k
    earlier other = pushed-other path t k other ∙ sym (past_level (slice_get path) (length path) t k (grind (arith, nat_tests)))

-- nothing is put in where no constants are
mutual
  stays : (i : ℕ) (put t : Tree) → AllByRecursion Nothing (constants_of t) → constant_put i put t ≡ t
  stays i put (Constant k s) none = absurd none.0
  stays i put (Variable l s) none = refl
  stays i put (Literal s n) none = refl
  stays i put (Apply o args) none = ap (Apply o) (each-stays i put args none)
  stays i put (ForAll l s body) none = ap (ForAll l s) (stays i put body none)
  stays i put (Exists l s body) none = ap (Exists l s) (stays i put body none)

  each-stays : (i : ℕ) (put : Tree) (ts : Trees) → AllByRecursion Nothing (constants_of_all ts) → constant_put_each i put ts ≡ ts
  each-stays i put Nil none = refl
  each-stays i put (Cons t ts) none =
      ap (λ x. Cons x (constant_put_each i put ts)) (stays i put t (front Nothing (constants_of t) (constants_of_all ts) none))
      ∙ ap (Cons t) (each-stays i put ts (back Nothing (constants_of t) (constants_of_all ts) none))

-- at a leaf the tree put in for the constant i makes of what b puts in what d does
abbrev IsPutOnce : ℕ → Tree → (b d : ℕ → Option Tree) → ℕ × Sort → Type 0
IsPutOnce i put b d leaf = constant_put i put (unwrap_or (b leaf.0) (Constant leaf.0 leaf.1)) ≡ unwrap_or (d leaf.0) (Constant leaf.0 leaf.1)

mutual
  put-once : (i : ℕ) (put t : Tree) (b d : ℕ → Option Tree) → IsQuantifierFree t → AllByRecursion Nothing (constants_of t) → AllByRecursion (IsPutOnce i put b d) (free_levels t) → constant_put i put (opened b t) ≡ opened d t
  put-once i put (Constant k s) b d plain none h = absurd none.0
  put-once i put (Variable l s) b d plain none h = h.0
  put-once i put (Literal s n) b d plain none h = refl
  put-once i put (Apply o args) b d plain none h = ap (Apply o) (each-put-once i put args b d plain none h)
  put-once i put (ForAll l s body) b d plain none h = absurd plain
  put-once i put (Exists l s body) b d plain none h = absurd plain

  each-put-once : (i : ℕ) (put : Tree) (ts : Trees) (b d : ℕ → Option Tree) → AreQuantifierFree ts → AllByRecursion Nothing (constants_of_all ts) → AllByRecursion (IsPutOnce i put b d) (free_levels_of_all ts) → constant_put_each i put (each_opened b ts) ≡ each_opened d ts
  each-put-once i put Nil b d plain none h = refl
  each-put-once i put (Cons t ts) b d plain none h =
      let first = put-once i put t b d plain.0 (front Nothing (constants_of t) (constants_of_all ts) none) (front (IsPutOnce i put b d) (free_levels t) (free_levels_of_all ts) h) in
      let others = each-put-once i put ts b d plain.1 (back Nothing (constants_of t) (constants_of_all ts) none) (back (IsPutOnce i put b d) (free_levels t) (free_levels_of_all ts) h) in
      ap (λ x. Cons x (constant_put_each i put (each_opened b ts))) first ∙ ap (Cons (opened d t)) others

-- one more term of a path is put in for its place's constant
pub opened-more : (m : Tree) (path : List Tree) (t : Tree) → IsQuantifierFree m → AllByRecursion Nothing (constants_of m) → ((k : ℕ) (x : Tree) → slice_get path k ≡ Some x → AllByRecursion Nothing (constants_of x)) → constant_put (length path) t (opened (slice_get path) m) ≡ opened (slice_get (path ++ t ∷ [])) m
opened-more m path t plain none closed =
    put-once (length path) t m (slice_get path) (slice_get (path ++ t ∷ [])) plain none
    (all-of (IsPutOnce (length path) t (slice_get path) (slice_get (path ++ t ∷ []))) (free_levels m) (λ x. leaf x.0 x.1))
  where
    leaf : (l : ℕ) (s : Sort) → IsPutOnce (length path) t (slice_get path) (slice_get (path ++ t ∷ [])) (l, s)
    leaf l s = elim (none-or_some (slice_get path l)) [ inr some ↦ known some.0 some.1 | inl nothing ↦ free nothing (cases_eq l (length path)) ]
      where
        known : (x : Tree) → slice_get path l ≡ Some x → IsPutOnce (length path) t (slice_get path) (slice_get (path ++ t ∷ [])) (l, s)
        known x is =
            ap (λ o. constant_put (length path) t (unwrap_or o (Constant l s))) is
            ∙ stays (length path) t x (closed l x is)
            ∙ ap (λ o. unwrap_or o (Constant l s)) (sym (in-front path (t ∷ []) l x is))

        chosen : (b : Bool) → (l == length path) ≡ b → constant_put (length path) t (Constant l s) ≡ cond b t (Constant l s)
        chosen b is = ap (λ d. cond d t (Constant l s)) is

        free : slice_get path l ≡ None → (l ≡ length path) ⊎ ((l ≡ length path) → ⊥) → IsPutOnce (length path) t (slice_get path) (slice_get (path ++ t ∷ [])) (l, s)
        free nothing (inl same) =
            ap (λ o. constant_put (length path) t (unwrap_or o (Constant l s))) nothing
            ∙ chosen true (grind (arith, nat_tests))
            ∙ ap (λ o. unwrap_or o (Constant l s)) (sym (ap (slice_get (path ++ t ∷ [])) same ∙ pushed-last path t))
        free nothing (inr other) =
            ap (λ o. constant_put (length path) t (unwrap_or o (Constant l s))) nothing
            ∙ chosen false (grind (arith, nat_tests))
            ∙ ap (λ o. unwrap_or o (Constant l s)) (sym (pushed-other path t l other ∙ nothing))

-- where each variable has a tree, no constant comes in
abbrev pub IsPutThere : (ℕ → Option Tree) → ℕ × Sort → Type 0
IsPutThere b leaf = (x : Tree) × (b leaf.0 ≡ Some x)

mutual
  pub opened-all : (t : Tree) (b : ℕ → Option Tree) → IsQuantifierFree t → AllByRecursion (IsPutThere b) (free_levels t) → opened b t ≡ replaced b t
  opened-all (Constant i s) b plain h = refl
  opened-all (Variable l s) b plain h = ap (λ o. unwrap_or o (Constant l s)) h.0.1 ∙ ap (λ o. unwrap_or o (Variable l s)) (sym h.0.1)
  opened-all (Literal s n) b plain h = refl
  opened-all (Apply o args) b plain h = ap (Apply o) (each_opened-all args b plain h)
  opened-all (ForAll l s body) b plain h = absurd plain
  opened-all (Exists l s body) b plain h = absurd plain

  pub each_opened-all : (ts : Trees) (b : ℕ → Option Tree) → AreQuantifierFree ts → AllByRecursion (IsPutThere b) (free_levels_of_all ts) → each_opened b ts ≡ replaced_each b ts
  each_opened-all Nil b plain h = refl
  each_opened-all (Cons t ts) b plain h =
      ap (λ x. Cons x (each_opened b ts)) (opened-all t b plain.0 (front (IsPutThere b) (free_levels t) (free_levels_of_all ts) h))
      ∙ ap (Cons (replaced b t)) (each_opened-all ts b plain.1 (back (IsPutThere b) (free_levels t) (free_levels_of_all ts) h))
