-- What sweeps keep.
use Rattle.std.proofs.Common.{◌≡◌, ℕ, ◌≤◌, ◌⊎◌, inl, inr, true, Option, Some, None, List, [], ◌∷◌, length, refl, sym, ap, ◌∙◌, subst}
use Rattle.std.specs.Prelude.{unwrap_or}
use Rattle.std.specs.Option.{option_or}
use Rattle.qv_words.specs.declared.sort.Sort.{Sort}
use Rattle.qv_words.specs.declared.op.Op.{Op}
use Rattle.qv_words.specs.declared.op.Op.TheVariants.{Equal}
use Rattle.qv_words.specs.declared.rule.Rule.{Rule}
use Rattle.qv_words.specs.declared.rule.Rule.TheVariants.{Fold, Same, NotNot, Unit as UnitRule, Absorb, IteKnown, IteSame, AddZero, MulOne, MulZero}
use Rattle.qv_words.specs.Tree.{Tree, Trees, Constant, Variable, Literal, Apply, ForAll, Exists, Nil, Cons, IsQuantifierFree, AreQuantifierFree}
use Rattle.qv_words.specs.Sorted.{no_levels, IsSorted, AreSortedBelow, constants_of, constants_of_all, free_levels, free_levels_of_all}
use Rattle.qv_words.specs.Clauses.{nodes}
use Rattle.qv_words.specs.Passes.{truth_literal, rules_in_order, rewritten, passed, passed_each, FitsNone, IsSimple, AreSimple}
use Rattle.qv_words.specs.PassLaws.{IsPlain, StandsFor}
use Rattle.qv_words.proofs.Leaves.{both}
use Rattle.qv_words.proofs.Equals.{test-refl, sort_eq-refl, tree_eq-refl}
use Rattle.std.specs.List.{Contains}
use Rattle.qv_words.proofs.Passing.{Keeps, KeepsAll, keeps-itself, keeps-trans, keeps-apply, keeps-cons}
use Rattle.qv_words.proofs.PassRules.{RulesKeep, rules-keep}
use Rattle.qv_words.proofs.RuleParts.{IsWithin, IsWithinEach, IsPart, rewritten-part}
use Rattle.qv_words.proofs.PassLeaves.{HasLeavesIn, HaveLeavesIn, leaves-itself, leaves-trans, among-right, in-first, part-leaves}
use Rattle.qv_words.proofs.Passed.{stands-for}
use Rattle.qv_circuits_laws.proofs.PassNodes.{HasImages, images-add_no_nodes, within-within_each}
use Rattle.qv_rewrite.specs.declared.rewriting.Rewriting.{Rewriting}
use Rattle.qv_rewrite.specs.declared.rewriting.Rewriting.TheVariants.{Pass, Simplify}
use Rattle.qv_rewrite.specs.FurtherRules.{further}
use Rattle.qv_rewrite.specs.Sweep.{first_rewritten, remade, swept, swept_each}
use Rattle.qv_rewrite.proofs.FurtherParts.{either-of, further-part}
use Rattle.qv_rewrite.proofs.FurtherLaws.{further-kept}

-- what holds of each rule's right form holds of the first one's that fits
each-first : (P : Tree → Type 0) (rs : List Rule) (o : Op) (ts : Trees) → ((r : Rule) (u : Tree) → rewritten r o ts ≡ Some u → P u) → (u : Tree) → first_rewritten rs o ts ≡ Some u → P u
each-first P [] o ts h u e = cc
each-first P (r ∷ rs) o ts h u e = either-of P (rewritten r o ts) (first_rewritten rs o ts) (h r) (each-first P rs o ts h) u e

-- and of what it is remade as
remade-as : (P : Tree → Type 0) (w : Rewriting) (o : Op) (ts : Trees) → ((r : Rule) (u : Tree) → rewritten r o ts ≡ Some u → P u) → ((u : Tree) → further o ts ≡ Some u → P u) → (u : Tree) → remade w o ts ≡ Some u → P u
remade-as P (Pass r) o ts h g u e = h r u e
remade-as P Simplify o ts h g u e = either-of P (first_rewritten rules_in_order o ts) (further o ts) (each-first P rules_in_order o ts h) g u e

remade-part : (w : Rewriting) (o : Op) (ts : Trees) (u : Tree) → remade w o ts ≡ Some u → IsPart u ts
remade-part w o ts u e = remade-as (λ x. IsPart x ts) w o ts (λ r x. rewritten-part r o ts x) (further-part o ts) u e

-- a sweep by one rule is a pass
mutual
  pub swept-one : (r : Rule) (t : Tree) → swept (Pass r) t ≡ passed r t
  swept-one r (Constant i s) = refl
  swept-one r (Variable l s) = refl
  swept-one r (Literal s n) = refl
  swept-one r (Apply o ts) = ap (λ us. unwrap_or (rewritten r o us) (Apply o us)) (swept_each-one r ts)
  swept-one r (ForAll l s t) = refl
  swept-one r (Exists l s t) = refl

  swept_each-one : (r : Rule) (ts : Trees) → swept_each (Pass r) ts ≡ passed_each r ts
  swept_each-one r Nil = refl
  swept_each-one r (Cons t ts) = ap (λ u. Cons u (swept_each (Pass r) ts)) (swept-one r t) ∙ ap (Cons (passed r t)) (swept_each-one r ts)

-- values
the_rules : RulesKeep
the_rules = rules-keep (λ a b. refl) (λ a b. refl)

finish : (rs : Rewriting) (o : Op) (ts us : Trees) → IsSorted (Apply o ts) → KeepsAll ts us → Keeps (Apply o ts) (unwrap_or (remade rs o us) (Apply o us))
finish rs o ts us h k = go (remade rs o us) refl
  where
    inner : Keeps (Apply o ts) (Apply o us)
    inner = keeps-apply o ts us h.1 k

    go : (q : Option Tree) → remade rs o us ≡ q → Keeps (Apply o ts) (unwrap_or q (Apply o us))
    go None is = inner
    go (Some u) is =
        keeps-trans (Apply o ts) (Apply o us) u inner
        (remade-as (Keeps (Apply o us)) rs o us (λ r x e. the_rules r o us x inner.sorted inner.free e) (further-kept o us inner.sorted inner.free) u is)

mutual
  pub swept-keeps : (rs : Rewriting) (t : Tree) → IsSorted t → IsQuantifierFree t → Keeps t (swept rs t)
  swept-keeps rs (Constant i s) h p = keeps-itself (Constant i s) h p
  swept-keeps rs (Variable l s) h p = keeps-itself (Variable l s) h p
  swept-keeps rs (Literal s n) h p = keeps-itself (Literal s n) h p
  swept-keeps rs (Apply o ts) h p = finish rs o ts (swept_each rs ts) h (swept_each-keeps rs ts h.0 p)
  swept-keeps rs (ForAll l s t) h p = absurd p
  swept-keeps rs (Exists l s t) h p = absurd p

  pub swept_each-keeps : (rs : Rewriting) (ts : Trees) → AreSortedBelow no_levels ts → AreQuantifierFree ts → KeepsAll ts (swept_each rs ts)
  swept_each-keeps rs Nil h p = record { sorts = refl; sorted = tt; free = tt; values = λ c e g. g; meaning = λ c e vs g m. m }
  swept_each-keeps rs (Cons t ts) h p =
      keeps-cons t (swept rs t) ts (swept_each rs ts) (swept-keeps rs t h.0 p.0) (swept_each-keeps rs ts h.1 p.1)

-- leaves
finish-leaves : (rs : Rewriting) (o : Op) (us : Trees) (c v : List (ℕ × Sort)) → HaveLeavesIn us c v → HasLeavesIn (unwrap_or (remade rs o us) (Apply o us)) c v
finish-leaves rs o us c v h = go (remade rs o us) (remade-part rs o us)
  where
    go : (q : Option Tree) → ((u : Tree) → q ≡ Some u → IsPart u us) → HasLeavesIn (unwrap_or q (Apply o us)) c v
    go None part = record { constants_in = h.constants_in; variables_in = h.variables_in }
    go (Some u) part = leaves-trans u (constants_of_all us) (free_levels_of_all us) c v (part-leaves u us (part u refl)) h.constants_in h.variables_in

mutual
  swept-leaves : (rs : Rewriting) (t : Tree) → HasLeavesIn (swept rs t) (constants_of t) (free_levels t)
  swept-leaves rs (Constant i s) = leaves-itself (Constant i s)
  swept-leaves rs (Variable l s) = leaves-itself (Variable l s)
  swept-leaves rs (Literal s n) = leaves-itself (Literal s n)
  swept-leaves rs (Apply o ts) = finish-leaves rs o (swept_each rs ts) (constants_of_all ts) (free_levels_of_all ts) (swept_each-leaves rs ts)
  swept-leaves rs (ForAll l s t) = leaves-itself (ForAll l s t)
  swept-leaves rs (Exists l s t) = leaves-itself (Exists l s t)

  swept_each-leaves : (rs : Rewriting) (ts : Trees) → HaveLeavesIn (swept_each rs ts) (constants_of_all ts) (free_levels_of_all ts)
  swept_each-leaves rs Nil = record { constants_in = tt; variables_in = tt }
  swept_each-leaves rs (Cons t ts) =
      let first = in-first (swept rs t) t ts (swept-leaves rs t) in
      let others = swept_each-leaves rs ts in
      let us = swept_each rs ts in
      record {
        constants_in = both (Contains (constants_of_all (Cons t ts))) (constants_of (swept rs t)) (constants_of_all us) first.constants_in
            (among-right (constants_of_all us) (constants_of t) (constants_of_all ts) others.constants_in);
        variables_in = both (Contains (free_levels_of_all (Cons t ts))) (free_levels (swept rs t)) (free_levels_of_all us) first.variables_in
            (among-right (free_levels_of_all us) (free_levels t) (free_levels_of_all ts) others.variables_in);
      }

pub swept-stands : (rs : Rewriting) (t : Tree) → IsPlain t → StandsFor (swept rs t) t
swept-stands rs t h = stands-for t (swept rs t) h (swept-keeps rs t h.sorted h.free) (swept-leaves rs t)

-- distinct nodes
abbrev IsImage : Rewriting → Tree → Tree → Type 0
IsImage rs t x = (y : Tree) × IsWithin y t × (x ≡ swept rs y)

abbrev IsImageOfEach : Rewriting → Trees → Tree → Type 0
IsImageOfEach rs ts x = (y : Tree) × IsWithinEach y ts × (x ≡ swept rs y)

application : (rs : Rewriting) (o : Op) (ts us : Trees) (w : Tree) → w ≡ swept rs (Apply o ts) → w ≡ unwrap_or (remade rs o us) (Apply o us) → ((x : Tree) → IsWithinEach x us → IsImageOfEach rs ts x) → (x : Tree) → IsWithin x w → IsImage rs (Apply o ts) x
application rs o ts us w whole is each x h = go (remade rs o us) (remade-part rs o us) is
  where
    self : x ≡ w → IsImage rs (Apply o ts) x
    self e = (Apply o ts, inr refl, e ∙ whole)

    inside : IsWithinEach x us → IsImage rs (Apply o ts) x
    inside k = let image = each x k in (image.0, inl image.1, image.2)

    kept : w ≡ Apply o us → IsWithinEach x us ⊎ (x ≡ Apply o us) → IsImage rs (Apply o ts) x
    kept e (inl a) = inside a
    kept e (inr b) = self (b ∙ sym e)

    literal : (s : Sort) (n : ℕ) → w ≡ Literal s n → IsImage rs (Apply o ts) x
    literal s n e = let is : x ≡ Literal s n = subst (IsWithin x) e h in self (is ∙ sym e)

    changed : (u : Tree) → w ≡ u → IsPart u us → IsImage rs (Apply o ts) x
    changed u e (inl l) = literal l.0 l.1 (e ∙ l.2)
    changed u e (inr b) = inside (within-within_each x u us b (subst (IsWithin x) e h))

    go : (q : Option Tree) → ((u : Tree) → q ≡ Some u → IsPart u us) → w ≡ unwrap_or q (Apply o us) → IsImage rs (Apply o ts) x
    go None part e = kept e (subst (IsWithin x) e h)
    go (Some u) part e = changed u e (part u refl)

mutual
  images : (rs : Rewriting) → HasImages (swept rs)
  images rs (Constant i s) x h = (Constant i s, refl, h)
  images rs (Variable l s) x h = (Variable l s, refl, h)
  images rs (Literal s n) x h = (Literal s n, refl, h)
  images rs (Apply o ts) x h = application rs o ts (swept_each rs ts) (swept rs (Apply o ts)) refl refl (images_each rs ts) x h
  images rs (ForAll l s t) x h = (ForAll l s t, refl, h)
  images rs (Exists l s t) x h = (Exists l s t, refl, h)

  images_each : (rs : Rewriting) (ts : Trees) (x : Tree) → IsWithinEach x (swept_each rs ts) → IsImageOfEach rs ts x
  images_each rs Nil x h = absurd h
  images_each rs (Cons t ts) x (inl h) = let image = images rs t x h in (image.0, inl image.1, image.2)
  images_each rs (Cons t ts) x (inr h) = let image = images_each rs ts x h in (image.0, inr image.1, image.2)

pub swept-adds_no_nodes : (rs : Rewriting) (t : Tree) → length (nodes (swept rs t ∷ [])) ≤ length (nodes (t ∷ []))
swept-adds_no_nodes rs t = images-add_no_nodes (swept rs) (images rs) (t ∷ [])

-- simple trees: each subtree of one is simple
mutual
  within-simple : (u t : Tree) → IsSimple t → IsWithin u t → IsSimple u
  within-simple u (Constant i s) h e = subst IsSimple (sym e) tt
  within-simple u (Variable l s) h e = subst IsSimple (sym e) tt
  within-simple u (Literal s n) h e = subst IsSimple (sym e) tt
  within-simple u (Apply o ts) h (inl k) = within-simple_each u ts h.1 k
  within-simple u (Apply o ts) h (inr e) = subst IsSimple (sym e) h
  within-simple u (ForAll l s t) h e = subst IsSimple (sym e) tt
  within-simple u (Exists l s t) h e = subst IsSimple (sym e) tt

  within-simple_each : (u : Tree) (ts : Trees) → AreSimple ts → IsWithinEach u ts → IsSimple u
  within-simple_each u Nil h k = absurd k
  within-simple_each u (Cons t ts) h (inl k) = within-simple u t h.0 k
  within-simple_each u (Cons t ts) h (inr k) = within-simple_each u ts h.1 k

-- where the first rule that fits is none, none of them fits
second-none : (p q : Option Tree) → option_or p q ≡ None → (p ≡ None) × (q ≡ None)
second-none None q e = (refl, e)
second-none (Some t) q e = cc

abbrev NoneFit : List Rule → Op → Trees → Type 0
NoneFit [] o ts = Unit {0}
NoneFit (r ∷ rs) o ts = (rewritten r o ts ≡ None) × NoneFit rs o ts

none-fit : (rs : List Rule) (o : Op) (ts : Trees) → first_rewritten rs o ts ≡ None → NoneFit rs o ts
none-fit [] o ts e = tt
none-fit (r ∷ rs) o ts e = let parts = second-none (rewritten r o ts) (first_rewritten rs o ts) e in (parts.0, none-fit rs o ts parts.1)

fits-none : (o : Op) (ts : Trees) → NoneFit rules_in_order o ts → FitsNone o ts
fits-none o ts h Fold = h.0
fits-none o ts h Same = h.1.0
fits-none o ts h NotNot = h.1.1.0
fits-none o ts h UnitRule = h.1.1.1.0
fits-none o ts h Absorb = h.1.1.1.1.0
fits-none o ts h IteKnown = h.1.1.1.1.1.0
fits-none o ts h IteSame = h.1.1.1.1.1.1.0
fits-none o ts h AddZero = h.1.1.1.1.1.1.1.0
fits-none o ts h MulOne = h.1.1.1.1.1.1.1.1.0
fits-none o ts h MulZero = h.1.1.1.1.1.1.1.1.1.0

finish-simple : (o : Op) (us : Trees) → AreSimple us → IsSimple (unwrap_or (remade Simplify o us) (Apply o us))
finish-simple o us h = go (remade Simplify o us) refl
  where
    part : (u : Tree) → IsPart u us → IsSimple u
    part u (inl l) = subst IsSimple (sym l.2) tt
    part u (inr k) = within-simple_each u us h k

    go : (q : Option Tree) → remade Simplify o us ≡ q → IsSimple (unwrap_or q (Apply o us))
    go None is = (fits-none o us (none-fit rules_in_order o us (second-none (first_rewritten rules_in_order o us) (further o us) is).0), h)
    go (Some u) is = part u (remade-part Simplify o us u is)

-- a sweep by all rules makes a simple tree
mutual
  pub swept-simple : (t : Tree) → IsSimple (swept Simplify t)
  swept-simple (Constant i s) = tt
  swept-simple (Variable l s) = tt
  swept-simple (Literal s n) = tt
  swept-simple (Apply o ts) = finish-simple o (swept_each Simplify ts) (swept_each-simple ts)
  swept-simple (ForAll l s t) = tt
  swept-simple (Exists l s t) = tt

  swept_each-simple : (ts : Trees) → AreSimple (swept_each Simplify ts)
  swept_each-simple Nil = tt
  swept_each-simple (Cons t ts) = (swept-simple t, swept_each-simple ts)

-- an equation of a tree with itself becomes true
itself : (u : Tree) → first_rewritten rules_in_order Equal (Cons u (Cons u Nil)) ≡ Some (truth_literal true)
itself (Literal s n) = rw (test-refl n, sort_eq-refl s) refl
itself (Constant i s) = rw (tree_eq-refl (Constant i s)) refl
itself (Variable l s) = rw (tree_eq-refl (Variable l s)) refl
itself (Apply o ts) = rw (tree_eq-refl (Apply o ts)) refl
itself (ForAll l s t) = rw (tree_eq-refl (ForAll l s t)) refl
itself (Exists l s t) = rw (tree_eq-refl (Exists l s t)) refl

pub swept-itself : (t : Tree) → swept Simplify (Apply Equal (Cons t (Cons t Nil))) ≡ truth_literal true
swept-itself t =
    let u = swept Simplify t in
    ap (λ (q : Option Tree). unwrap_or (option_or q (further Equal (Cons u (Cons u Nil)))) (Apply Equal (Cons u (Cons u Nil)))) (itself u)

-- what simplifies a term
pub record Simplifies (u t : Tree) : Type 0 where
  pub stands_for : StandsFor u t
  pub simple : IsSimple u
  pub no_more : length (nodes (u ∷ [])) ≤ length (nodes (t ∷ []))
  pub itself : (s : Tree) → t ≡ Apply Equal (Cons s (Cons s Nil)) → u ≡ truth_literal true

pub swept-simplifies : (t u : Tree) → IsPlain t → u ≡ swept Simplify t → Simplifies u t
swept-simplifies t u h e = subst (λ x. Simplifies x t) (sym e) (record {
  stands_for = swept-stands Simplify t h;
  simple = swept-simple t;
  no_more = swept-adds_no_nodes Simplify t;
  itself = λ s is. ap (swept Simplify) is ∙ swept-itself s;
})
