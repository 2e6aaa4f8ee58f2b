-- The search for the first choice whose condition is quantified.
use Rattle.std.proofs.Common.{◌≡◌, ℕ, ◌+◌, ◌<◌, Bool, true, false, not, ◌&&◌, if◌then◌else◌, Option, Some, None, List, [], ◌∷◌, ◌++◌, length, drop, get_or, nat_eq, refl, sym, ap, ◌∙◌, subst, arith, All}
use Rattle.std.specs.HashSet.{contains}
use Rattle.std.specs.List.{AllByRecursion}
use Rattle.std.proofs.lemmas.List.{drop_more}
use Rattle.std.proofs.lemmas.List.Elements.{All-from_recursion}
use Rattle.qv_words.specs.declared.op.Op.TheVariants.{Ite}
use Rattle.qv_words.specs.Tree.{Tree, Trees, Constant, Variable, Literal, Apply, ForAll, Exists, Nil, Cons, tree_sort}
use Rattle.qv_words.specs.declared.op.Op.{Op}
use Rattle.qv_words.specs.Prenex.{Choice, is_bool, is_quantified, is_some_quantified, own_choice, or_else, first_choice, first_choice_of}
use Rattle.qv_words.proofs.Equals.{eq-from_test}
use Rattle.qv_store.specs.Nodes.{tree_at, trees_at}
use Rattle.qv_prenex_splits.specs.declared.splitting.BitIte.{BitIte}
use Rattle.qv_prenex_splits.specs.Splitting.{ite_in, IsIteIn, BareSet, AreBare, Leads}
use Rattle.qv_prenex_splits.specs.Sides.{IsFirstIte}
use Rattle.qv_prenex_splits.proofs.Waiting.{IsDoneNext, AreOpen, first_of, IsDown}
use Rattle.std.proofs.lemmas.Bool.{or_parts}

-- fewer than three arguments, or more
pub few-no_choice : (trees : List Tree) (kids : List ℕ) → length kids < 3 → None ≡ own_choice Ite (trees_at trees kids)
few-no_choice trees [] h = refl
few-no_choice trees (a ∷ []) h = refl
few-no_choice trees (a ∷ b ∷ []) h = refl
few-no_choice trees (a ∷ b ∷ c ∷ ks) h = absurd (omega (arith, h))

pub many-no_choice : (trees : List Tree) (kids : List ℕ) → 3 < length kids → None ≡ own_choice Ite (trees_at trees kids)
many-no_choice trees [] h = refl
many-no_choice trees (a ∷ []) h = refl
many-no_choice trees (a ∷ b ∷ []) h = refl
many-no_choice trees (a ∷ b ∷ c ∷ []) h = absurd (omega (arith, h))
many-no_choice trees (a ∷ b ∷ c ∷ d ∷ ks) h = refl

if-none : {A : Type 0} (q r : Bool) (x : A) → q ≡ false → (if q && r then Some x else None) ≡ None
if-none true r x h = absurd (cc)
if-none false r x h = refl

no-own : (o : Op) (args : Trees) → is_some_quantified args ≡ false → own_choice o args ≡ None
no-own Ite (Cons c (Cons a (Cons b Nil))) h =
    if-none (is_quantified c) (not (is_bool (tree_sort a))) (record { condition = c; yes = a; no = b }) (or_parts (is_quantified c) (is_some_quantified (Cons a (Cons b Nil))) h).0
no-own o args h = refl

both-none : {A : Type 0} (x y : Option A) → x ≡ None → y ≡ None → or_else x y ≡ None
both-none None y e f = f
both-none (Some a) y e f = absurd (cc)

mutual
  pub plain-bare : (t : Tree) → is_quantified t ≡ false → first_choice t ≡ None
  plain-bare (Constant i s) h = refl
  plain-bare (Variable l s) h = refl
  plain-bare (Literal s n) h = refl
  plain-bare (Apply o args) h = both-none (own_choice o args) (first_choice_of args) (no-own o args h) (plain-bare-all args h)
  plain-bare (ForAll l s body) h = refl
  plain-bare (Exists l s body) h = refl

  plain-bare-all : (ts : Trees) → is_some_quantified ts ≡ false → first_choice_of ts ≡ None
  plain-bare-all Nil h = refl
  plain-bare-all (Cons t ts) h =
      let k = or_parts (is_quantified t) (is_some_quantified ts) h in
      both-none (first_choice t) (first_choice_of ts) (plain-bare t k.0) (plain-bare-all ts k.1)

-- one more term without a choice
or-next : {A : Type 0} (x y : Option A) → x ≡ None → or_else x y ≡ y
or-next None y e = refl
or-next (Some a) y e = absurd (cc)

pub bare-next : (trees : List Tree) (kids : List ℕ) (i kid : ℕ) → i < length kids → kid ≡ get_or kids i kid → first_choice (tree_at trees kid) ≡ None →
    first_choice_of (trees_at trees (drop i kids)) ≡ first_choice_of (trees_at trees (drop (i + 1) kids))
bare-next trees kids i kid h is none =
    ap (λ ks. first_choice_of (trees_at trees ks)) (drop_more kids i kid h)
    ∙ or-next (first_choice (tree_at trees (get_or kids i kid))) (first_choice_of (trees_at trees (drop (i + 1) kids))) (ap (λ k. first_choice (tree_at trees k)) (sym is) ∙ none)

-- what is found in one of some terms behind others without choices is found in all
pub first-leads : (trees : List Tree) (kids : List ℕ) (i kid : ℕ) → i < length kids → kid ≡ get_or kids i kid → first_choice_of (trees_at trees kids) ≡ first_choice_of (trees_at trees (drop i kids)) →
    (c : Choice) → first_choice (tree_at trees kid) ≡ Some c → first_choice_of (trees_at trees kids) ≡ Some c
first-leads trees kids i kid h is so c e =
    so ∙ ap (λ ks. first_choice_of (trees_at trees ks)) (drop_more kids i kid h)
    ∙ ap (λ o. or_else o (first_choice_of (trees_at trees (drop (i + 1) kids)))) (ap (λ k. first_choice (tree_at trees k)) (sym is) ∙ e)

-- one more term is bare
abbrev pub IsAdded : BareSet → BareSet → ℕ → Type 0
IsAdded bare next id = (contains nat_eq next id ≡ true) × ((q : ℕ) → nat_eq id q ≡ false → contains nat_eq next q ≡ contains nat_eq bare q)

pub added-done : (bare next : BareSet) (id : ℕ) → IsAdded bare next id → IsDoneNext (contains nat_eq bare) (contains nat_eq next) id
added-done bare next id a = record { here = a.0; others = a.1 }

pub added-bare : (trees : List Tree) (bare next : BareSet) (id : ℕ) → IsAdded bare next id → first_choice (tree_at trees id) ≡ None → AreBare trees bare → AreBare trees next
added-bare trees bare next id a none h k e = by (nat_eq id k) refl
  where
    by : (b : Bool) → nat_eq id k ≡ b → first_choice (tree_at trees k) ≡ None
    by true q = let same : id ≡ k = eq-from_test id k q in ap (λ n. first_choice (tree_at trees n)) (sym same) ∙ none
    by false q = h k (sym (a.1 k q) ∙ e)

pub leads-more : (trees : List Tree) (root id kid : ℕ) → Leads trees root id → Leads trees id kid → Leads trees root kid
leads-more trees root id kid f g c e = f c (g c e)

-- each term on the way leads to the next one, and the last one to the term at hand
abbrev pub AreLeading : List Tree → List ℕ → ℕ → Type 0
AreLeading trees [] id = Unit {0}
AreLeading trees (x ∷ xs) id = Leads trees x (first_of xs id) × AreLeading trees xs id

pub leading-push : (trees : List Tree) (xs longer : List ℕ) (id kid : ℕ) → longer ≡ xs ++ id ∷ [] → AreLeading trees xs id → Leads trees id kid → AreLeading trees longer kid
leading-push trees xs longer id kid e h own = subst (λ (ys : List ℕ). AreLeading trees ys kid) (sym e) (go xs h)
  where
    go : (ys : List ℕ) → AreLeading trees ys id → AreLeading trees (ys ++ id ∷ []) kid
    go [] h = (own, tt)
    go (x ∷ []) h = (h.0, (own, tt))
    go (x ∷ y ∷ ys) h = (h.0, go (y ∷ ys) h.1)

pub leading-pop : (trees : List Tree) (xs rest : List ℕ) (id parent : ℕ) → xs ≡ rest ++ parent ∷ [] → AreLeading trees xs id → AreLeading trees rest parent
leading-pop trees xs rest id parent e h = go rest (subst (λ (ys : List ℕ). AreLeading trees ys id) e h)
  where
    go : (ys : List ℕ) → AreLeading trees (ys ++ parent ∷ []) id → AreLeading trees ys parent
    go [] h = tt
    go (x ∷ []) h = (h.0, tt)
    go (x ∷ y ∷ ys) h = (h.0, go (y ∷ ys) h.1)

-- so what is found in the term at hand is found in each of them
pub leading-all : (trees : List Tree) (P : ℕ → Type 0) (done : ℕ → Bool) (xs : List ℕ) (id root : ℕ) (c : BitIte) → AreLeading trees xs id → IsDown P done (length trees) xs id root → IsIteIn trees c → first_choice (tree_at trees id) ≡ Some (ite_in trees c) →
    All (λ k. IsFirstIte trees k c) xs
leading-all trees P done xs id root c h down there e = All-from_recursion (λ k. IsFirstIte trees k c) xs (go xs h down.open_ones).0
  where
    go : (ys : List ℕ) → AreLeading trees ys id → AreOpen P done (length trees) (ys ++ id ∷ []) → AllByRecursion (λ k. IsFirstIte trees k c) ys × (first_choice (tree_at trees (first_of ys id)) ≡ Some (ite_in trees c))
    go [] h way = (tt, e)
    go (x ∷ ys) h way =
        let rest = go ys h.1 way.2 in
        let own = h.0 (ite_in trees c) rest.1 in
        ((record { below = way.0.below; there = there; first = own }, rest.0), own)
