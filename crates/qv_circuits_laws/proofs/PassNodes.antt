-- A pass adds no distinct nodes: those after it are images of those before.
use Rattle.std.proofs.Common.{◌≡◌, ℕ, suc, ◌≤◌, ◌⊎◌, inl, inr, Bool, true, false, cond, Option, Some, None, List, [], ◌∷◌, ◌++◌, map, length, refl, sym, ap, ◌∙◌, subst, arith}
use Rattle.std.specs.Prelude.{unwrap_or}
use Rattle.std.specs.List.{flat_map}
use Rattle.std.proofs.lemmas.List.{length-map}
use Rattle.qv_words.specs.declared.sort.Sort.{Sort}
use Rattle.qv_words.specs.declared.op.Op.{Op}
use Rattle.qv_words.specs.Tree.{Tree, Trees, Constant, Variable, Literal, Apply, ForAll, Exists, Nil, Cons}
use Rattle.qv_words.specs.Clauses.{is_among, nodes}
use Rattle.qv_circuits_laws.specs.ClauseLaws.{post_order, post_order_each, first_appearances}
use Rattle.qv_words.specs.declared.rule.Rule.{Rule}
use Rattle.qv_words.specs.Passes.{rewritten, passed, passed_each, pass, rules_in_order}
use Rattle.qv_circuits_laws.specs.PassNodeLaws.{PassAddsNoNodes, PassesAddNoNodes, AllPassesAddNoNodes}
use Rattle.qv_circuits_laws.proofs.Nodes.{In, one_more, in-left, in-right, in-either, test-from_in, firsts-from, firsts-gain, of-formulas}
use Rattle.qv_words.proofs.RuleParts.{IsWithin, IsWithinEach, IsPart, rewritten-part}

-- the subtrees of a subtree
same-within : (x u t : Tree) → u ≡ t → IsWithin x u → IsWithin x t
same-within x u t e h = subst (IsWithin x) e h

mutual
  within-within : (x u t : Tree) → IsWithin u t → IsWithin x u → IsWithin x t
  within-within x u (Constant i s) e h = same-within x u (Constant i s) e h
  within-within x u (Variable l s) e h = same-within x u (Variable l s) e h
  within-within x u (Literal s n) e h = same-within x u (Literal s n) e h
  within-within x u (Apply o ts) (inl k) h = inl (within-within_each x u ts k h)
  within-within x u (Apply o ts) (inr e) h = same-within x u (Apply o ts) e h
  within-within x u (ForAll l s t) e h = same-within x u (ForAll l s t) e h
  within-within x u (Exists l s t) e h = same-within x u (Exists l s t) e h

  pub within-within_each : (x u : Tree) (ts : Trees) → IsWithinEach u ts → IsWithin x u → IsWithinEach x ts
  within-within_each x u Nil k h = absurd k
  within-within_each x u (Cons t ts) (inl k) h = inl (within-within x u t k h)
  within-within_each x u (Cons t ts) (inr k) h = inr (within-within_each x u ts k h)

-- what a pass makes of a subtree
abbrev IsImage : Rule → Tree → Tree → Type 0
IsImage r t x = (y : Tree) × IsWithin y t × (x ≡ passed r y)

abbrev IsImageOfEach : Rule → Trees → Tree → Type 0
IsImageOfEach r ts x = (y : Tree) × IsWithinEach y ts × (x ≡ passed r y)

-- the subtrees of an application after a pass, where those of its arguments are images
application : (r : Rule) (o : Op) (ts us : Trees) (w : Tree) → w ≡ passed r (Apply o ts) → w ≡ unwrap_or (rewritten r o us) (Apply o us) → ((x : Tree) → IsWithinEach x us → IsImageOfEach r ts x) → (x : Tree) → IsWithin x w → IsImage r (Apply o ts) x
application r o ts us w whole is each x h = go (rewritten r o us) (rewritten-part r o us) is
  where
    self : x ≡ w → IsImage r (Apply o ts) x
    self e = (Apply o ts, inr refl, e ∙ whole)

    inside : IsWithinEach x us → IsImage r (Apply o ts) x
    inside k = let image = each x k in (image.0, inl image.1, image.2)

    kept : w ≡ Apply o us → IsWithinEach x us ⊎ (x ≡ Apply o us) → IsImage r (Apply o ts) x
    kept e (inl a) = inside a
    kept e (inr b) = self (b ∙ sym e)

    literal : (s : Sort) (n : ℕ) → w ≡ Literal s n → IsImage r (Apply o ts) x
    literal s n e = let is : x ≡ Literal s n = subst (IsWithin x) e h in self (is ∙ sym e)

    changed : (u : Tree) → w ≡ u → IsPart u us → IsImage r (Apply o ts) x
    changed u e (inl l) = literal l.0 l.1 (e ∙ l.2)
    changed u e (inr b) = inside (within-within_each x u us b (subst (IsWithin x) e h))

    go : (q : Option Tree) → ((u : Tree) → q ≡ Some u → IsPart u us) → w ≡ unwrap_or q (Apply o us) → IsImage r (Apply o ts) x
    go None part e = kept e (subst (IsWithin x) e h)
    go (Some u) part e = changed u e (part u refl)

mutual
  images : (r : Rule) (t x : Tree) → IsWithin x (passed r t) → IsImage r t x
  images r (Constant i s) x h = (Constant i s, refl, h)
  images r (Variable l s) x h = (Variable l s, refl, h)
  images r (Literal s n) x h = (Literal s n, refl, h)
  images r (Apply o ts) x h = application r o ts (passed_each r ts) (passed r (Apply o ts)) refl refl (images_each r ts) x h
  images r (ForAll l s t) x h = (ForAll l s t, refl, h)
  images r (Exists l s t) x h = (Exists l s t, refl, h)

  images_each : (r : Rule) (ts : Trees) (x : Tree) → IsWithinEach x (passed_each r ts) → IsImageOfEach r ts x
  images_each r Nil x h = absurd h
  images_each r (Cons t ts) x (inl h) = let image = images r t x h in (image.0, inl image.1, image.2)
  images_each r (Cons t ts) x (inr h) = let image = images_each r ts x h in (image.0, inr image.1, image.2)

-- subtrees in post-order
only-one : (x t : Tree) → In x (t ∷ []) → x ≡ t
only-one x t (inl e) = e
only-one x t (inr none) = absurd none

mutual
  listed-within : (x t : Tree) → In x (post_order t) → IsWithin x t
  listed-within x (Constant i s) h = only-one x (Constant i s) h
  listed-within x (Variable l s) h = only-one x (Variable l s) h
  listed-within x (Literal s n) h = only-one x (Literal s n) h
  listed-within x (Apply o ts) h =
      elim (in-either x (post_order_each ts) (Apply o ts ∷ []) h) [ inl a ↦ inl (listed-within_each x ts a) | inr b ↦ inr (only-one x (Apply o ts) b) ]
  listed-within x (ForAll l s t) h = only-one x (ForAll l s t) h
  listed-within x (Exists l s t) h = only-one x (Exists l s t) h

  listed-within_each : (x : Tree) (ts : Trees) → In x (post_order_each ts) → IsWithinEach x ts
  listed-within_each x Nil h = absurd h
  listed-within_each x (Cons t ts) h =
      elim (in-either x (post_order t) (post_order_each ts) h) [ inl a ↦ inl (listed-within x t a) | inr b ↦ inr (listed-within_each x ts b) ]

mutual
  within-listed : (x t : Tree) → IsWithin x t → In x (post_order t)
  within-listed x (Constant i s) e = inl e
  within-listed x (Variable l s) e = inl e
  within-listed x (Literal s n) e = inl e
  within-listed x (Apply o ts) (inl h) = in-left x (post_order_each ts) (Apply o ts ∷ []) (within-listed_each x ts h)
  within-listed x (Apply o ts) (inr e) = in-right x (post_order_each ts) (Apply o ts ∷ []) (inl e)
  within-listed x (ForAll l s t) e = inl e
  within-listed x (Exists l s t) e = inl e

  within-listed_each : (x : Tree) (ts : Trees) → IsWithinEach x ts → In x (post_order_each ts)
  within-listed_each x Nil h = absurd h
  within-listed_each x (Cons t ts) (inl h) = in-left x (post_order t) (post_order_each ts) (within-listed x t h)
  within-listed_each x (Cons t ts) (inr h) = in-right x (post_order t) (post_order_each ts) (within-listed_each x ts h)

-- every subtree of what f makes of a tree is what it makes of a subtree
abbrev pub HasImages : (Tree → Tree) → Type 0
HasImages f = (t x : Tree) → IsWithin x (f t) → (y : Tree) × IsWithin y t × (x ≡ f y)

images-of_all : (f : Tree → Tree) → HasImages f → (ts : List Tree) (x : Tree) → In x (flat_map post_order (map f ts)) → (y : Tree) × In y (flat_map post_order ts) × (x ≡ f y)
images-of_all f images [] x h = absurd h
images-of_all f images (t ∷ ts) x h =
    elim (in-either x (post_order (f t)) (flat_map post_order (map f ts)) h) [
      | inl a ↦ let image = images t x (listed-within x (f t) a) in (image.0, in-left image.0 (post_order t) (flat_map post_order ts) (within-listed image.0 t image.1), image.2)
      | inr b ↦ let image = images-of_all f images ts x b in (image.0, in-right image.0 (post_order t) (flat_map post_order ts) image.1, image.2)
    ]

-- trees of which no two are the same are at most as many as the trees that they are among
abbrev Distinct : List Tree → Type 0
Distinct [] = Unit {0}
Distinct (t ∷ ts) = (In t ts → ⊥) × Distinct ts

without : (x : Tree) (ys : List Tree) → In x ys → (rest : List Tree) × (length ys ≡ suc (length rest)) × ((z : Tree) → In z ys → (z ≡ x) ⊎ In z rest)
without x [] h = absurd h
without x (y ∷ ys) (inl e) = (ys, refl, λ z k. elim k [ inl f ↦ inl (f ∙ sym e) | inr b ↦ inr b ])
without x (y ∷ ys) (inr h) =
    let rest = without x ys h in
    let longer : length (y ∷ ys) ≡ suc (length (y ∷ rest.0)) = let k = rest.1 in omega (arith, k) in
    (y ∷ rest.0, longer, λ z k. go rest.0 (rest.2 z) k)
  where
    go : {z : Tree} (r : List Tree) → (In z ys → (z ≡ x) ⊎ In z r) → (z ≡ y) ⊎ In z ys → (z ≡ x) ⊎ In z (y ∷ r)
    go r f (inl e) = inr (inl e)
    go r f (inr b) = elim (f b) [ inl e ↦ inl e | inr c ↦ inr (inr c) ]

at-most : (xs ys : List Tree) → Distinct xs → ((x : Tree) → In x xs → In x ys) → length xs ≤ length ys
at-most [] ys h k = omega arith
at-most (x ∷ xs) ys h k =
    let rest = without x ys (k x (inl refl)) in
    let fewer = at-most xs rest.0 h.1 (λ z a. elim (rest.2 z (k z (inr a))) [ inl e ↦ absurd (h.0 (subst (λ (y : Tree). In y xs) e a)) | inr b ↦ b ]) in
    let one = rest.1 in
    omega (arith, fewer, one)

push : (ts : List Tree) (t : Tree) → Distinct ts → (In t ts → ⊥) → Distinct (ts ++ t ∷ [])
push [] t h new = (λ none. none, tt)
push (u ∷ ts) t h new =
    (λ k. elim (in-either u ts (t ∷ []) k) [ inl a ↦ h.0 a | inr (inl e) ↦ new (inl (sym e)) | inr (inr none) ↦ none ], push ts t h.1 (λ k. new (inr k)))

test-from : (ts : List Tree) (t : Tree) → is_among ts t ≡ false → In t ts → ⊥
test-from ts t h k = let both : true ≡ false = sym (test-from_in ts t k) ∙ h in cc

firsts-distinct : (seen ts : List Tree) → Distinct seen → Distinct (first_appearances seen ts)
firsts-distinct seen [] h = h
firsts-distinct seen (t ∷ ts) h = firsts-distinct (one_more seen t) ts (go (is_among seen t) refl)
  where
    go : (b : Bool) → is_among seen t ≡ b → Distinct (cond b seen (seen ++ t ∷ []))
    go true is = h
    go false is = push seen t h (test-from seen t is)

in-map : (f : Tree → Tree) (ts : List Tree) (x y : Tree) → In y ts → x ≡ f y → In x (map f ts)
in-map f [] x y h e = absurd h
in-map f (t ∷ ts) x y (inl k) e = inl (e ∙ ap f k)
in-map f (t ∷ ts) x y (inr h) e = inr (in-map f ts x y h e)

-- such an f adds no distinct nodes
pub images-add_no_nodes : (f : Tree → Tree) → HasImages f → (ts : List Tree) → length (nodes (map f ts)) ≤ length (nodes ts)
images-add_no_nodes f images ts =
    let after = first_appearances [] (flat_map post_order (map f ts)) in
    let old = first_appearances [] (flat_map post_order ts) in
    let within : (x : Tree) → In x after → In x (map f old) = λ x h.
    elim (firsts-from [] (flat_map post_order (map f ts)) x h) [
      | inl none ↦ absurd none
      | inr b ↦ let image = images-of_all f images ts x b in in-map f old x image.0 (firsts-gain [] (flat_map post_order ts) image.0 image.1) image.2
    ] in
    let fewer = at-most after (map f old) (firsts-distinct [] (flat_map post_order (map f ts)) tt) within in
    let same : length (map f old) ≡ length old = length-map old f in
    let left : length (nodes (map f ts)) ≡ length after = ap length (of-formulas [] (map f ts) (λ u x h k. h)) in
    let right : length (nodes ts) ≡ length old = ap length (of-formulas [] ts (λ u x h k. h)) in
    omega (arith, fewer, same, left, right)

pass-nodes : (r : Rule) (ts : List Tree) → length (nodes (pass r ts)) ≤ length (nodes ts)
pass-nodes r ts = images-add_no_nodes (passed r) (images r) ts

pub pass-adds_no_nodes : PassAddsNoNodes
pass-adds_no_nodes r t = pass-nodes r (t ∷ [])

pub passes-add_no_nodes : PassesAddNoNodes
passes-add_no_nodes [] formulas = omega arith
passes-add_no_nodes (r ∷ rs) formulas =
    let first = pass-nodes r formulas in
    let others = passes-add_no_nodes rs (pass r formulas) in
    omega (arith, first, others)

pub all-passes_add_no_nodes : AllPassesAddNoNodes
all-passes_add_no_nodes formulas = passes-add_no_nodes rules_in_order formulas
