-- What a change makes forgotten, and what stays right.
use Rattle.std.proofs.Common.{◌≡◌, ℕ, ◌<◌, ◌≤◌, Bool, true, false, if◌then◌else◌, cond, nat_lt, Option, Some, None, List, nat_eq, refl, sym, ap, ◌∙◌, subst, arith}
use Rattle.std.specs.Prelude.{option_map, unwrap_or}
use Rattle.std.specs.HashMap.{get}
use Rattle.std.proofs.lemmas.Bool.{ltb-false}
use Rattle.qv_words.specs.Tree.{Tree, Trees, Constant, Variable, Literal, Apply, ForAll, Exists, Nil, Cons}
use Rattle.qv_words.proofs.Equals.{eq-from_test}
use Rattle.qv_store.specs.Nodes.{tree_at}
use Rattle.qv_store.specs.Stores.{StandsAt}
use Rattle.qv_prenex_splits.specs.declared.memo.Entry.{Entry}
use Rattle.qv_prenex_splits.specs.declared.memo.Memo.{Memo}
use Rattle.qv_prenex_splits.specs.declared.naming.Names.{Names}
use Rattle.qv_prenex_splits.specs.Rebuilt.{rebuilt, rebuilt_each}
use Rattle.qv_prenex_splits.specs.Naming.{place_of, outer_of, leaf_top, renaming}
use Rattle.qv_prenex_splits.specs.Memos.{rank_of, IsWithin, AreWithin, last_change, made_by, made_in, AreKept, IsForgotten}
use Rattle.qv_prenex_splits.specs.Rebuilding.{AreRebuilt}

module _ (place : ℕ → ℕ) (outer outer' : ℕ → Option Tree) (level : ℕ) (elsewhere : (l : ℕ) → nat_eq level l ≡ false → outer' l ≡ outer l) where
  -- a variable of a smaller rank is another one
  other-level : (reach l : ℕ) → rank_of l < reach → reach ≤ rank_of level → outer' l ≡ outer l
  other-level reach l less le = by (nat_eq level l) refl
    where
      by : (b : Bool) → nat_eq level l ≡ b → outer' l ≡ outer l
      by true e = let same = ap rank_of (eq-from_test level l e) in absurd (omega (arith, less, le, same))
      by false e = elsewhere l e

  mutual
    stays : (reach : ℕ) → reach ≤ rank_of level → (t : Tree) → IsWithin reach t → rebuilt (leaf_top place outer') t ≡ rebuilt (leaf_top place outer) t
    stays reach le (Constant i s) h = refl
    stays reach le (Variable l s) h = ap (λ o. unwrap_or o (Variable l s)) (other-level reach l h le)
    stays reach le (Literal s v) h = refl
    stays reach le (Apply o args) h = ap (Apply o) (stay reach le args h)
    stays reach le (ForAll l s body) h = refl
    stays reach le (Exists l s body) h = refl

    stay : (reach : ℕ) → reach ≤ rank_of level → (ts : Trees) → AreWithin reach ts → rebuilt_each (leaf_top place outer') ts ≡ rebuilt_each (leaf_top place outer) ts
    stay reach le Nil h = refl
    stay reach le (Cons t ts) h =
        ap (λ u. Cons u (rebuilt_each (leaf_top place outer') ts)) (stays reach le t h.0) ∙ ap (Cons (rebuilt (leaf_top place outer) t)) (stay reach le ts h.1)

-- what is found behind a change was found before it, and depends on smaller ranks
record IsStill (old : Memo) (level k m : ℕ) : Type 0 where
  pub reach : ℕ
  pub entry : Entry
  pub there : get nat_eq old.entries k ≡ Some entry
  pub is : reach ≡ entry.reach
  pub before : made_in old k ≡ Some m
  pub low : reach ≤ rank_of level

not-yet : (b : Bool) (x m : ℕ) → (if b then None else Some x) ≡ Some m → b ≡ false
not-yet true x m e = absurd (cc)
not-yet false x m e = refl

still : (trees : List Tree) (old new : Memo) (level k m : ℕ) → AreKept trees old → IsForgotten old new level → made_in new k ≡ Some m → IsStill old level k m
still trees old new level k m h f e = by (get nat_eq old.entries k) refl (ap (made_by new.changes) (sym (ap (λ (es : Rattle.std.specs.HashMap.HashMap ℕ Entry _). get nat_eq es k) f.entries)) ∙ e)
  where
    at : (x : Entry) → get nat_eq old.entries k ≡ Some x → made_by new.changes (Some x) ≡ Some m → (b : Bool) → nat_lt (rank_of level) x.reach ≡ b → IsStill old level k m
    at x is made true q =
        let found = ltb-false x.time (last_change new.changes x.reach) (not-yet (nat_lt x.time (last_change new.changes x.reach)) x.made m made) in
        let now : last_change new.changes x.reach ≡ new.changes.count = f.changed.last x.reach ∙ ap (λ (b : Bool). if b then new.changes.count else last_change old.changes x.reach) q in
        let before = h.before k x is in
        let later = f.changed.later in
        absurd (omega (arith, found, now, before, later))
    at x is made false q =
        let same : last_change new.changes x.reach ≡ last_change old.changes x.reach = f.changed.last x.reach ∙ ap (λ (b : Bool). if b then new.changes.count else last_change old.changes x.reach) q in
        record {
          reach = x.reach;
          entry = x;
          there = is;
          is = refl;
          before = ap (made_by old.changes) is ∙ ap (λ (n : ℕ). if nat_lt x.time n then None else Some x.made) (sym same) ∙ made;
          low = ltb-false (rank_of level) x.reach q;
        }

    by : (o : Option Entry) → get nat_eq old.entries k ≡ o → made_by new.changes o ≡ Some m → IsStill old level k m
    by None is made = absurd (cc)
    by (Some x) is made = at x is made (nat_lt (rank_of level) x.reach) refl

kept-behind : (trees : List Tree) (old new : Memo) (level : ℕ) → IsForgotten old new level → AreKept trees old → AreKept trees new
kept-behind trees old new level f h =
    let later = f.changed.later in
    record {
      below = λ k e at. h.below k e (there k e at);
      within = λ k e at. h.within k e (there k e at);
      before = λ k e at. let b = h.before k e (there k e at) in omega (arith, b, later);
      past = λ r. past r (nat_lt (rank_of level) r) refl;
    }
  where
    there : (k : ℕ) (e : Entry) → get nat_eq new.entries k ≡ Some e → get nat_eq old.entries k ≡ Some e
    there k e at = rw (sym f.entries) at

    past : (r : ℕ) (b : Bool) → nat_lt (rank_of level) r ≡ b → last_change new.changes r ≤ new.changes.count
    past r true q =
        let now : last_change new.changes r ≡ new.changes.count = f.changed.last r ∙ ap (λ (b : Bool). if b then new.changes.count else last_change old.changes r) q in
        omega (arith, now)
    past r false q =
        let same : last_change new.changes r ≡ last_change old.changes r = f.changed.last r ∙ ap (λ (b : Bool). if b then new.changes.count else last_change old.changes r) q in
        let b = h.past r in
        let later = f.changed.later in
        omega (arith, same, b, later)

-- what was made stays right under names that differ at the level
pub renamed-behind : (trees : List Tree) (names names' : Names) (old new : Memo) (level : ℕ) (put : Option ℕ) → names'.constants.keys ≡ names.constants.keys →
    ((l : ℕ) → get nat_eq names'.outer l ≡ cond (nat_eq level l) put (get nat_eq names.outer l)) → IsForgotten old new level → AreRebuilt (renaming trees names) trees old → AreRebuilt (renaming trees names') trees new
renamed-behind trees names names' old new level put constants outer f h =
    record {
      below = λ k m e. h.below k m (still trees old new level k m h.kept f e).before;
      stands = λ k m e. stands k m (still trees old new level k m h.kept f e);
      kept = kept-behind trees old new level f h.kept;
    }
  where
    elsewhere : (l : ℕ) → nat_eq level l ≡ false → outer_of trees names'.outer l ≡ outer_of trees names.outer l
    elsewhere l e = ap (option_map (tree_at trees)) (outer l ∙ ap (λ (b : Bool). cond b put (get nat_eq names.outer l)) e)

    stands : (k m : ℕ) → IsStill old level k m → StandsAt trees m (rebuilt (renaming trees names') (tree_at trees k))
    stands k m s =
        let within : IsWithin s.reach (tree_at trees k) = subst (λ (r : ℕ). IsWithin r (tree_at trees k)) (sym s.is) (h.kept.within k s.entry s.there) in
        let same : rebuilt (renaming trees names') (tree_at trees k) ≡ rebuilt (renaming trees names) (tree_at trees k) =
        ap (λ (ks : List ℕ). rebuilt (leaf_top (place_of ks) (outer_of trees names'.outer)) (tree_at trees k)) constants
        ∙ stays (place_of names.constants.keys) (outer_of trees names.outer) (outer_of trees names'.outer) level elsewhere s.reach s.low (tree_at trees k) within in
        subst (StandsAt trees m) (sym same) (h.stands k m s.before)
