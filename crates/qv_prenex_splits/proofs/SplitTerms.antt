-- Terms that were split, in a store that grows.
use Rattle.std.proofs.Common.{◌≡◌, ℕ, ◌<◌, Bool, true, false, cond, Option, Some, None, List, length, nat_eq, refl, sym, ap, ◌∙◌, subst}
use Rattle.std.specs.Prelude.{IfSome}
use Rattle.std.specs.HashMap.{get}
use Rattle.std.specs.Map.{lookup}
use Rattle.qv_words.specs.Tree.{Tree}
use Rattle.qv_words.specs.Prenex.{Choice, first_choice, put_for}
use Rattle.qv_words.proofs.Equals.{eq-from_test}
use Rattle.qv_store.specs.Nodes.{tree_at}
use Rattle.qv_store.specs.Stores.{StandsAt, Grows}
use Rattle.qv_store.proofs.Replacement.{grown-tree, grown-within, grows-more}
use Rattle.qv_prenex_laws.specs.RuleLaws.{chosen_rule, split_rule}
use Rattle.qv_prenex_splits.specs.declared.split_store.Sides.{Sides}
use Rattle.qv_prenex_splits.specs.declared.splitting.BitIte.{BitIte}
use Rattle.qv_prenex_splits.specs.declared.split_store.SideMemos.{SideMemos}
use Rattle.qv_prenex_splits.specs.declared.memo.Memo.{Memo}
use Rattle.qv_prenex_splits.specs.Sides.{Kept, IsSplitInto, IsFirstIte, yes_of, no_of, AreMadeFor, IsSplitStore}
use Rattle.qv_prenex_splits.specs.Memos.{IsNew}
use Rattle.qv_prenex_splits.specs.Splitting.{ite_in, IsIteIn}
use Rattle.qv_prenex_splits.specs.Rebuilding.{term_top, AreRebuilt}
use Rattle.qv_prenex_splits.proofs.Ruling.{split-is, choice-grows}
use Rattle.qv_prenex_splits.proofs.Changing.{rebuilt-grows, none-rebuilt}

pub split-grows : (old new : List Tree) (id : ℕ) (sides : Sides) → Grows old new → IsSplitInto old id sides → IsSplitInto new id sides
split-grows old new id sides g h =
    let c = grown-tree old new g sides.condition h.condition in
    let y = grown-tree old new g sides.yes h.yes in
    let n = grown-tree old new g sides.no h.no in
    let t = grown-tree old new g id h.below in
    record {
      below = grown-within old new g id h.below;
      condition = grown-within old new g sides.condition h.condition;
      yes = grown-within old new g sides.yes h.yes;
      no = grown-within old new g sides.no h.no;
      rule = λ plus.
          ap (λ x. chosen_rule plus x (tree_at new sides.yes) (tree_at new sides.no)) c
          ∙ ap (λ x. chosen_rule plus (tree_at old sides.condition) x (tree_at new sides.no)) y
          ∙ ap (chosen_rule plus (tree_at old sides.condition) (tree_at old sides.yes)) n
          ∙ h.rule plus ∙ sym (ap (λ (x : Tree). split_rule plus x (first_choice x)) t);
    }

first-grows : (old new : List Tree) (id : ℕ) (c : BitIte) → Grows old new → IsFirstIte old id c → IsFirstIte new id c
first-grows old new id c g h =
    let k = grown-tree old new g c.condition h.there.condition in
    let y = grown-tree old new g c.yes h.there.yes in
    let n = grown-tree old new g c.no h.there.no in
    record {
      below = grown-within old new g id h.below;
      there = choice-grows old new c g h.there;
      first = ap first_choice (grown-tree old new g id h.below) ∙ h.first
          ∙ ap (λ (t : Tree). Some (choice-of t (tree_at old c.yes) (tree_at old c.no))) (sym k)
          ∙ ap (λ (t : Tree). Some (choice-of (tree_at new c.condition) t (tree_at old c.no))) (sym y)
          ∙ ap (λ (t : Tree). Some (choice-of (tree_at new c.condition) (tree_at new c.yes) t)) (sym n);
    }
  where
    choice-of : Tree → Tree → Tree → Choice
    choice-of c a b = record { condition = c; yes = a; no = b }

pub made-grows : (old new : List Tree) (whole : ℕ) (memos : SideMemos) → Grows old new → AreMadeFor old whole memos → AreMadeFor new whole memos
made-grows old new whole memos g h =
    let t = grown-tree old new g whole h.below in
    record {
      below = grown-within old new g whole h.below;
      yes = subst (λ (x : Tree). AreRebuilt (term_top x (yes_of x)) new memos.yes) (sym t) (rebuilt-grows (term_top (tree_at old whole) (yes_of (tree_at old whole))) old new memos.yes g h.yes);
      no = subst (λ (x : Tree). AreRebuilt (term_top x (no_of x)) new memos.no) (sym t) (rebuilt-grows (term_top (tree_at old whole) (no_of (tree_at old whole))) old new memos.no g h.no);
    }

pub store-grows : (old new : List Tree) (split : Kept Sides) (found : Kept BitIte) (made : Kept SideMemos) → Grows old new → IsSplitStore old split found made → IsSplitStore new split found made
store-grows old new split found made g h = record {
  sides = λ k x e. split-grows old new k x g (h.sides k x e);
  firsts = λ k x e. first-grows old new k x g (h.firsts k x e);
  memos = λ k x e. made-grows old new k x g (h.memos k x e);
}

-- one more is kept, or one less
module _ {X : Type 0} (P : ℕ → X → Type 0) (old new : Kept X) (id : ℕ) (all : (k : ℕ) (x : X) → get nat_eq old k ≡ Some x → P k x) where
  more-kept : (own : X) → get nat_eq new id ≡ Some own → ((q : ℕ) → nat_eq id q ≡ false → get nat_eq new q ≡ get nat_eq old q) → P id own → (k : ℕ) (x : X) → get nat_eq new k ≡ Some x → P k x
  more-kept own here others is k x e = by (nat_eq id k) refl
    where
      by : (b : Bool) → nat_eq id k ≡ b → P k x
      by true q =
          let same : id ≡ k = eq-from_test id k q in
          let both : Some own ≡ Some x = sym here ∙ ap (get nat_eq new) same ∙ e in
          let one : own ≡ x = cc in
          subst (λ (n : ℕ). P n x) same (subst (P id) one is)
      by false q = all k x (sym (others k q) ∙ e)

  less-kept : ((q : ℕ) → get nat_eq new q ≡ cond (nat_eq id q) None (get nat_eq old q)) → (k : ℕ) (x : X) → get nat_eq new k ≡ Some x → P k x
  less-kept others k x e = by (nat_eq id k) (sym (others k) ∙ e)
    where
      by : (b : Bool) → cond b None (get nat_eq old k) ≡ Some x → P k x
      by true q = absurd (cc)
      by false q = all k x q

  same-kept : new.entries ≡ old.entries → (k : ℕ) (x : X) → get nat_eq new k ≡ Some x → P k x
  same-kept same k x e = all k x (sym (ap (lookup (nat_eq k)) same) ∙ e)

module _ (trees : List Tree) (split : Kept Sides) (found : Kept BitIte) (made : Kept SideMemos) (h : IsSplitStore trees split found made) where
  pub sides-more : (new : Kept Sides) (id : ℕ) (own : Sides) → get nat_eq new id ≡ Some own → ((q : ℕ) → nat_eq id q ≡ false → get nat_eq new q ≡ get nat_eq split q) → IsSplitInto trees id own → IsSplitStore trees new found made
  sides-more new id own here others is = record { sides = more-kept (IsSplitInto trees) split new id h.sides own here others is; firsts = h.firsts; memos = h.memos }

  pub firsts-more : (new : Kept BitIte) (id : ℕ) (own : BitIte) → get nat_eq new id ≡ Some own → ((q : ℕ) → nat_eq id q ≡ false → get nat_eq new q ≡ get nat_eq found q) → IsFirstIte trees id own → IsSplitStore trees split new made
  firsts-more new id own here others is = record { sides = h.sides; firsts = more-kept (IsFirstIte trees) found new id h.firsts own here others is; memos = h.memos }

  pub memos-more : (new : Kept SideMemos) (id : ℕ) (own : SideMemos) → get nat_eq new id ≡ Some own → ((q : ℕ) → nat_eq id q ≡ false → get nat_eq new q ≡ get nat_eq made q) → AreMadeFor trees id own → IsSplitStore trees split found new
  memos-more new id own here others is = record { sides = h.sides; firsts = h.firsts; memos = more-kept (AreMadeFor trees) made new id h.memos own here others is }

  pub firsts-same : (new : Kept BitIte) → new.entries ≡ found.entries → IsSplitStore trees split new made
  firsts-same new same = record { sides = h.sides; firsts = same-kept (IsFirstIte trees) found new 0 h.firsts same; memos = h.memos }

  pub memos-same : (new : Kept SideMemos) → new.entries ≡ made.entries → IsSplitStore trees split found new
  memos-same new same = record { sides = h.sides; firsts = h.firsts; memos = same-kept (AreMadeFor trees) made new 0 h.memos same }

  pub memos-less : (new : Kept SideMemos) (id : ℕ) → ((q : ℕ) → get nat_eq new q ≡ cond (nat_eq id q) None (get nat_eq made q)) → IsSplitStore trees split found new
  memos-less new id others = record { sides = h.sides; firsts = h.firsts; memos = less-kept (AreMadeFor trees) made new id h.memos others }

-- what was made with either side of a choice of the store
top-yes : (trees : List Tree) (ite : BitIte) → IsIteIn trees ite → term_top (tree_at trees ite.whole) (yes_of (tree_at trees ite.whole)) ≡ term_top (tree_at trees ite.whole) (tree_at trees ite.yes)
top-yes trees ite h = ap (λ (t : Tree). term_top (tree_at trees ite.whole) (yes_of t)) h.whole.tree

top-no : (trees : List Tree) (ite : BitIte) → IsIteIn trees ite → term_top (tree_at trees ite.whole) (no_of (tree_at trees ite.whole)) ≡ term_top (tree_at trees ite.whole) (tree_at trees ite.no)
top-no trees ite h = ap (λ (t : Tree). term_top (tree_at trees ite.whole) (no_of t)) h.whole.tree

pub made-yes : (trees : List Tree) (ite : BitIte) (memos : SideMemos) → IsIteIn trees ite → AreMadeFor trees ite.whole memos → AreRebuilt (term_top (tree_at trees ite.whole) (tree_at trees ite.yes)) trees memos.yes
made-yes trees ite memos h m = subst (λ (top : Tree → Option Tree). AreRebuilt top trees memos.yes) (top-yes trees ite h) m.yes

pub made-no : (trees : List Tree) (ite : BitIte) (memos : SideMemos) → IsIteIn trees ite → AreMadeFor trees ite.whole memos → AreRebuilt (term_top (tree_at trees ite.whole) (tree_at trees ite.no)) trees memos.no
made-no trees ite memos h m = subst (λ (top : Tree → Option Tree). AreRebuilt top trees memos.no) (top-no trees ite h) m.no

-- and with both
tops-grow : (old new : List Tree) (whole put : ℕ) → Grows old new → whole < length old → put < length old → term_top (tree_at new whole) (tree_at new put) ≡ term_top (tree_at old whole) (tree_at old put)
tops-grow old new whole put g low there = ap (λ (t : Tree). term_top t (tree_at new put)) (grown-tree old new g whole low) ∙ ap (term_top (tree_at old whole)) (grown-tree old new g put there)

pub made-both : (old mid new : List Tree) (ite : BitIte) (memos : SideMemos) → Grows old mid → Grows mid new → IsIteIn old ite → AreRebuilt (term_top (tree_at old ite.whole) (tree_at old ite.yes)) mid memos.yes →
    AreRebuilt (term_top (tree_at mid ite.whole) (tree_at mid ite.no)) new memos.no → AreMadeFor new ite.whole memos
made-both old mid new ite memos f g h y n =
    let both = grows-more old mid new f g in
    let there = choice-grows old mid ite f h in
    let end = choice-grows old new ite both h in
    record {
      below = end.whole.below;
      yes = subst (λ (top : Tree → Option Tree). AreRebuilt top new memos.yes) (sym (top-yes new ite end ∙ tops-grow old new ite.whole ite.yes both h.whole.below h.yes))
          (rebuilt-grows (term_top (tree_at old ite.whole) (tree_at old ite.yes)) mid new memos.yes g y);
      no = subst (λ (top : Tree → Option Tree). AreRebuilt top new memos.no) (sym (top-no new ite end ∙ tops-grow mid new ite.whole ite.no g there.whole.below there.no)) n;
    }

-- nothing was made yet
pub none-made : (trees : List Tree) (whole : ℕ) (first second : Memo) → whole < length trees → IsNew first → IsNew second → AreMadeFor trees whole (record { yes = first; no = second })
none-made trees whole first second low f s = record {
  below = low;
  yes = none-rebuilt (term_top (tree_at trees whole) (yes_of (tree_at trees whole))) trees first f;
  no = none-rebuilt (term_top (tree_at trees whole) (no_of (tree_at trees whole))) trees second s;
}

-- what was kept, if anything
pub some-made : (trees : List Tree) (made : Kept SideMemos) (whole : ℕ) (o : Option SideMemos) → o ≡ get nat_eq made whole → ((k : ℕ) (x : SideMemos) → get nat_eq made k ≡ Some x → AreMadeFor trees k x) → IfSome o (AreMadeFor trees whole)
some-made trees made whole None e all = tt
some-made trees made whole (Some x) e all = all whole x (sym e)

-- a term is split
pub split-into : (old mid new : List Tree) (ite : BitIte) (term y n : ℕ) (sides : Sides) → sides ≡ record { condition = ite.condition; yes = y; no = n } → Grows old mid → Grows mid new → term < length old → IsIteIn old ite →
    first_choice (tree_at old term) ≡ Some (ite_in old ite) →
    StandsAt mid y (put_for (tree_at old ite.whole) (tree_at old ite.yes) (tree_at old term)) → StandsAt new n (put_for (tree_at mid ite.whole) (tree_at mid ite.no) (tree_at mid term)) → IsSplitInto new term sides
split-into old mid new ite term y n sides is f g low h first at-y at-n =
    let all = grows-more old mid new f g in
    let same = grown-tree old new all term low in
    subst (IsSplitInto new term) (sym is) (record {
      below = grown-within old new all term low;
      condition = grown-within old new all ite.condition h.condition;
      yes = grown-within mid new g y at-y.below;
      no = at-n.below;
      rule = λ plus.
          split-is old mid new ite plus term y n f g low h at-y at-n ∙ ap (split_rule plus (tree_at old term)) (sym first) ∙ sym (ap (λ (x : Tree). split_rule plus x (first_choice x)) same);
    })
