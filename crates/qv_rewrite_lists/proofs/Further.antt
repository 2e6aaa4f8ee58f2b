-- Lists behind further passes.
use Rattle.std.proofs.Common.{◌≡◌, ◌≢◌, ℕ, suc, ◌<◌, List, [], ◌∷◌, ◌++◌, length, refl, sym, ap, subst, ◌∙◌, arith, append_assoc, append-nil}
use Rattle.std.specs.Prelude.{All, Err, Ok, OnOk, Result}
use Rattle.std.specs.List.{AllByRecursion}
use Rattle.std.proofs.lemmas.List.Elements.{All-from_recursion, recursion_from_All}
use Rattle.qv_words.specs.Tree.{Tree, IsQuantifierFree}
use Rattle.qv_words.proofs.Elements.{all-weaker}
use Rattle.qv_store.specs.Nodes.{tree_at}
use Rattle.qv_store.specs.Stores.{AreShared, Grows}
use Rattle.qv_store.specs.Walks.{named}
use Rattle.qv_store.proofs.Replacement.{grows-more}
use Rattle.qv_store.proofs.Standing.{tree_at-before}
use Rattle.qv_rewrite_passes.specs.declared.pass.Pass.{Pass}
use Rattle.qv_rewrite_passes.specs.Passes.{behind, behind_all, EachChanges}
use Rattle.qv_rewrite_lists.specs.declared.rewriting.Rewritten.{Rewritten}
use Rattle.qv_rewrite_lists.specs.Rewriting.{AreFormulas, IsFurther}

-- ---- passes behind passes

behind-both : (ps qs : List Pass) (formulas : List Tree) → behind_all (ps ++ qs) formulas ≡ behind_all qs (behind_all ps formulas)
behind-both [] qs formulas = refl
behind-both (p ∷ ps) qs formulas = behind-both ps qs (behind p formulas)

changes-both : (ps qs : List Pass) (formulas : List Tree) → EachChanges ps formulas → EachChanges qs (behind_all ps formulas) → EachChanges (ps ++ qs) formulas
changes-both [] qs formulas h k = k
changes-both (p ∷ ps) qs formulas h k = (h.0, changes-both ps qs (behind p formulas) h.1 k)

-- ---- in a store that has grown

same-named : (old more : List Tree) (ids : List ℕ) → AllByRecursion (λ id. id < length old) ids → named (old ++ more) ids ≡ named old ids
same-named old more [] h = refl
same-named old more (id ∷ ids) h = ap (λ (t : Tree). t ∷ named (old ++ more) ids) (tree_at-before old more id h.0) ∙ ap (λ (ts : List Tree). tree_at old id ∷ ts) (same-named old more ids h.1)

pub named-stays : (old new : List Tree) (ids : List ℕ) → Grows old new → All (λ id. id < length old) ids → named new ids ≡ named old ids
named-stays old new ids g h = ap (λ (ts : List Tree). named ts ids) g.behind ∙ same-named old g.more ids (recursion_from_All (λ id. id < length old) ids h)

longer : (xs ys : List Tree) → length xs < suc (length (xs ++ ys))
longer [] ys = omega arith
longer (x ∷ xs) ys = omega (arith, longer xs ys)

pub below-stays : (old new : List Tree) (ids : List ℕ) → Grows old new → All (λ id. id < length old) ids → All (λ id. id < length new) ids
below-stays old new ids g h =
    let long = longer old g.more in
    let count = ap length g.behind in
    All-from_recursion (λ id. id < length new) ids (all-weaker (λ id. id < length old) (λ id. id < length new) ids (λ id k. omega (arith, k, long, count)) (recursion_from_All (λ id. id < length old) ids h))

free-there : (trees : List Tree) (ids : List ℕ) → AllByRecursion (λ id. IsQuantifierFree (tree_at trees id)) ids → AllByRecursion IsQuantifierFree (named trees ids)
free-there trees [] h = tt
free-there trees (id ∷ ids) h = (h.0, free-there trees ids h.1)

free-each : (trees : List Tree) (ids : List ℕ) → AllByRecursion IsQuantifierFree (named trees ids) → AllByRecursion (λ id. IsQuantifierFree (tree_at trees id)) ids
free-each trees [] h = tt
free-each trees (id ∷ ids) h = (h.0, free-each trees ids h.1)

pub formulas-stay : (old new : List Tree) (ids : List ℕ) → Grows old new → AreFormulas old ids → AreFormulas new ids
formulas-stay old new ids g h = record {
  below = below-stays old new ids g h.below;
  free = All-from_recursion (λ id. IsQuantifierFree (tree_at new id)) ids (free-each new ids
      (subst (AllByRecursion IsQuantifierFree) (sym (named-stays old new ids g h.below)) (free-there old ids (recursion_from_All (λ id. IsQuantifierFree (tree_at old id)) ids h.free))));
}

-- equal trees have equal numbers
ids-same : (trees : List Tree) (xs ys : List ℕ) → AreShared trees → AllByRecursion (λ id. id < length trees) xs → AllByRecursion (λ id. id < length trees) ys → named trees xs ≡ named trees ys → xs ≡ ys
ids-same trees [] [] shared h k e = refl
ids-same trees [] (y ∷ ys) shared h k e = absurd cc
ids-same trees (x ∷ xs) [] shared h k e = absurd cc
ids-same trees (x ∷ xs) (y ∷ ys) shared h k e =
    let first : tree_at trees x ≡ tree_at trees y = cc in
    let rest : named trees xs ≡ named trees ys = cc in
    ap (λ n. n ∷ xs) (shared.once x y h.0 k.0 first) ∙ ap (λ ns. y ∷ ns) (ids-same trees xs ys shared h.1 k.1 rest)

-- ---- lists that stay

pub further-still : (old new : List Tree) (made : Rewritten) → AreFormulas old made.list.items → Grows old new → IsFurther old new made made
further-still old new made h g = record {
  grows = g;
  formulas = formulas-stay old new made.list.items g h;
  more = [];
  passes = sym (append-nil made.passes.items);
  list = named-stays old new made.list.items g h.below;
  changes = tt;
}

pub further-here : (trees : List Tree) (made : Rewritten) → AreFormulas trees made.list.items → IsFurther trees trees made made
further-here trees made h = further-still trees trees made h (record { more = []; behind = sym (append-nil trees) })

-- ---- a pass that changed the list

changed : (p : Pass) (old new : List Tree) (ids made : List ℕ) → AreShared new → AreFormulas old ids → Grows old new → All (λ id. id < length new) made → (made ≡ ids → ⊥) → named new made ≡ behind p (named old ids) →
    behind p (named old ids) ≢ named old ids
changed p old new ids made shared h g below other e same =
    other (ids-same new made ids shared (recursion_from_All (λ id. id < length new) made below) (recursion_from_All (λ id. id < length new) ids (below-stays old new ids g h.below))
    (e ∙ same ∙ sym (named-stays old new ids g h.below)))

pub further-by : (p : Pass) (old new : List Tree) (before after : Rewritten) → AreShared new → AreFormulas old before.list.items → Grows old new → AreFormulas new after.list.items →
    (after.list.items ≡ before.list.items → ⊥) → named new after.list.items ≡ behind p (named old before.list.items) → after.passes.items ≡ before.passes.items ++ p ∷ [] → IsFurther old new before after
further-by p old new before after shared h g k other e noted = record {
  grows = g;
  formulas = k;
  more = p ∷ [];
  passes = noted;
  list = e;
  changes = (changed p old new before.list.items after.list.items shared h g k.below other e, tt);
}

-- ---- one after the other

pub further-on : (old now new : List Tree) (a b c : Rewritten) → IsFurther old now a b → IsFurther now new b c → IsFurther old new a c
further-on old now new a b c f k = record {
  grows = grows-more old now new f.grows k.grows;
  formulas = k.formulas;
  more = f.more ++ k.more;
  passes = k.passes ∙ ap (λ (ps : List Pass). ps ++ k.more) f.passes ∙ append_assoc a.passes.items f.more k.more;
  list = k.list ∙ ap (behind_all k.more) f.list ∙ sym (behind-both f.more k.more (named old a.list.items));
  changes = changes-both f.more k.more (named old a.list.items) f.changes (subst (EachChanges k.more) f.list k.changes);
}

pub on-further : {E : Type 0} (r : Result (Unit {0}) E) (old now new : List Tree) (a b c : Rewritten) → IsFurther old now a b → OnOk r (IsFurther now new b c) → OnOk r (IsFurther old new a c)
on-further (Err f) old now new a b c f-ab h = tt
on-further (Ok x) old now new a b c f-ab h = further-on old now new a b c f-ab h

-- from a copy
pub further-from : (old new : List Tree) (made copied after : Rewritten) → copied.passes.items ≡ made.passes.items → copied.list.items ≡ made.list.items → IsFurther old new copied after → IsFurther old new made after
further-from old new made copied after ps is f = record {
  grows = f.grows;
  formulas = f.formulas;
  more = f.more;
  passes = f.passes ∙ ap (λ (qs : List Pass). qs ++ f.more) ps;
  list = f.list ∙ ap (λ (ids : List ℕ). behind_all f.more (named old ids)) is;
  changes = subst (λ (ids : List ℕ). EachChanges f.more (named old ids)) is f.changes;
}

-- from none
pub none-further : (old new : List Tree) (before after : Rewritten) → before.passes.items ≡ [] → IsFurther old new before after →
    (named new after.list.items ≡ behind_all after.passes.items (named old before.list.items)) × EachChanges after.passes.items (named old before.list.items)
none-further old new before after none f =
    let all : after.passes.items ≡ f.more = f.passes ∙ ap (λ (ps : List Pass). ps ++ f.more) none in (
      f.list ∙ ap (λ (ps : List Pass). behind_all ps (named old before.list.items)) (sym all),
      subst (λ (ps : List Pass). EachChanges ps (named old before.list.items)) (sym all) f.changes,
    )
