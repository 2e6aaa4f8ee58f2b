-- What formulas say, part by part.
use Rattle.std.proofs.Common.{◌≡◌, ◌⊎◌, ℕ, zero, suc, ◌+◌, ◌<◌, ◌≤◌, ◌==◌, Bool, true, false, not, List, [], ◌∷◌, ◌++◌, length, slice_get, refl, sym, ap, subst, ◌∙◌, inl, inr, arith, Some}
use Rattle.std.specs.Prelude.{Contains}
use Rattle.std.proofs.lemmas.Bool.{eq-eqb, eqb-true, ne_eqb}
use Rattle.std.proofs.lemmas.List.Elements.{Contains-append_left, Contains-append_right, Contains-append_cases}
use Rattle.qv_words.specs.declared.sort.Sort.{Sort}
use Rattle.qv_words.specs.declared.sort.Sort.TheVariants.{Bool as BoolSort}
use Rattle.qv_words.specs.declared.op.Op.TheVariants.{And, Equal}
use Rattle.qv_words.specs.Op.{op_value, truth}
use Rattle.qv_words.specs.Tree.{Tree, Literal, Nil, Cons, tree_sort}
use Rattle.qv_words.specs.Meaning.{Means, MeanAll}
use Rattle.qv_words.specs.Prenex.{binary}
use Rattle.qv_words.specs.Skolem.{IsTermOf}
use Rattle.qv_words.specs.Choice.{IsTrueAt, is_in, occurrences}
use Rattle.qv_words.proofs.Conjunctions.{both-true, parts-true}
use Rattle.qv_store.specs.Nodes.{tree_at}
use Rattle.qv_entries.proofs.Conjunctions.{both-terms}
use Rattle.qv_game_links.specs.declared.saying.Statement.{Statement}
use Rattle.qv_game_links.specs.Saying.{AreSaid, AreSo, IsConjunction, IsEquation, IsNamed, IsSaidBehind, IsSo}

-- no statement, and one
pub of-none : {X : Type 0} (x : X) → Contains [] x → ⊥
of-none x h = let low = h.1 in omega (arith, low)

pub of-one : {X : Type 0} (y x : X) → Contains (y ∷ []) x → y ≡ x
of-one y x h = elim (Contains-append_cases [] (y ∷ []) x h) [
  | inl none ↦ absurd (of-none x none)
  | inr one ↦ first one
]
  where
    first : Contains (y ∷ []) x → y ≡ x
    first (zero, low, is) = is
    first (suc k, low, is) = absurd (omega (arith, low))

pub the-one : {X : Type 0} (x : X) → Contains (x ∷ []) x
the-one x = (0, omega arith, refl)

-- a formula as such a list so far, and what is left of it
pub record IsPartlySaid (trees : List Tree) (formula left : ℕ) (said : List Statement) : Type 0 where
  pub below : left < length trees
  pub term : IsTermOf (tree_at trees left) BoolSort
  pub there : (point : List ℕ) → IsTrueAt point (tree_at trees formula) → IsTrueAt point (tree_at trees left) × AreSo trees point said
  pub back : (point : List ℕ) → IsTrueAt point (tree_at trees left) → AreSo trees point said → IsTrueAt point (tree_at trees formula)
  pub occurs : (x : ℕ) → is_in x (tree_at trees formula) ≡ true → (is_in x (tree_at trees left) ≡ true) ⊎ IsNamed trees said x
  pub within : (x : ℕ) → (is_in x (tree_at trees left) ≡ true) ⊎ IsNamed trees said x → is_in x (tree_at trees formula) ≡ true

pub partly-begun : (trees : List Tree) (formula : ℕ) → formula < length trees → IsTermOf (tree_at trees formula) BoolSort → IsPartlySaid trees formula formula []
partly-begun trees formula below term = record {
  below = below;
  term = term;
  there = λ point h. (h, λ s none. absurd (of-none s none));
  back = λ point h said. h;
  occurs = λ x h. inl h;
  within = λ x h. elim h [ inl here ↦ here | inr named ↦ absurd (of-none named.0 named.1) ];
}

so-both : (trees : List Tree) (point : List ℕ) (said more : List Statement) → AreSo trees point said → AreSo trees point more → AreSo trees point (said ++ more)
so-both trees point said more h k s there = elim (Contains-append_cases said more s there) [ inl a ↦ h s a | inr b ↦ k s b ]

so-front : (trees : List Tree) (point : List ℕ) (said more : List Statement) → AreSo trees point (said ++ more) → AreSo trees point said
so-front trees point said more h s there = h s (Contains-append_left said more s there)

so-behind : (trees : List Tree) (point : List ℕ) (said more : List Statement) → AreSo trees point (said ++ more) → AreSo trees point more
so-behind trees point said more h s there = h s (Contains-append_right said more s there)

named-front : (trees : List Tree) (said more : List Statement) (x : ℕ) → IsNamed trees said x → IsNamed trees (said ++ more) x
named-front trees said more x h = (h.0, Contains-append_left said more h.0 h.1, h.2)

named-behind : (trees : List Tree) (said more : List Statement) (x : ℕ) → IsNamed trees more x → IsNamed trees (said ++ more) x
named-behind trees said more x h = (h.0, Contains-append_right said more h.0 h.1, h.2)

named-cases : (trees : List Tree) (said more : List Statement) (x : ℕ) → IsNamed trees (said ++ more) x → IsNamed trees said x ⊎ IsNamed trees more x
named-cases trees said more x h = elim (Contains-append_cases said more h.0 h.1) [ inl a ↦ inl (h.0, a, h.2) | inr b ↦ inr (h.0, b, h.2) ]

-- a place occurs in a conjunction where it does in one of its parts
is-some : (n : ℕ) → not (n == 0) ≡ true → 1 ≤ n
is-some zero h = absurd (cc)
is-some (suc n) h = omega arith

some-is : (n : ℕ) → 1 ≤ n → not (n == 0) ≡ true
some-is n low =
    let other : (n == 0) ≡ false = ne_eqb n 0 (λ e. absurd (omega (arith, low, e))) in
    rw other refl

in-either : (a b : ℕ) → not (a + (b + 0) == 0) ≡ true → (not (a == 0) ≡ true) ⊎ (not (b == 0) ≡ true)
in-either zero b h = let l = is-some (zero + (b + 0)) h in inr (some-is b (omega (arith, l)))
in-either (suc a) b h = inl (some-is (suc a) (omega arith))

in-front : (a b : ℕ) → not (a == 0) ≡ true → not (a + (b + 0) == 0) ≡ true
in-front a b h = let l = is-some a h in some-is (a + (b + 0)) (omega (arith, l))

in-back : (a b : ℕ) → not (b == 0) ≡ true → not (a + (b + 0) == 0) ≡ true
in-back a b h = let l = is-some b h in some-is (a + (b + 0)) (omega (arith, l))

pub in-conjunction : (x : ℕ) (a b : Tree) → is_in x (binary And a b) ≡ true → (is_in x a ≡ true) ⊎ (is_in x b ≡ true)
in-conjunction x a b h = in-either (occurrences x a) (occurrences x b) h

pub front-in : (x : ℕ) (a b : Tree) → is_in x a ≡ true → is_in x (binary And a b) ≡ true
front-in x a b h = in-front (occurrences x a) (occurrences x b) h

pub part-in : (x : ℕ) (a b : Tree) → is_in x b ≡ true → is_in x (binary And a b) ≡ true
part-in x a b h = in-back (occurrences x a) (occurrences x b) h

-- one part is said
pub partly-more : (trees : List Tree) (formula left front part : ℕ) (said new : List Statement) → IsConjunction trees left front part → IsSaidBehind trees part said new → IsPartlySaid trees formula left said → IsPartlySaid trees formula front new
partly-more trees formula left front part said new both one h =
    let a = tree_at trees front in
    let b = tree_at trees part in
    let terms = both-terms a b (subst (λ (t : Tree). IsTermOf t BoolSort) both.tree h.term) in
    subst (IsPartlySaid trees formula front) (sym one.behind) (record {
      below = (let low = both.front_before in let high = h.below in omega (arith, low, high));
      term = terms.0;
      there = λ point holds.
          let here = h.there point holds in
          let parts = parts-true point a b (subst (IsTrueAt point) both.tree here.0) in
          (parts.0, so-both trees point said one.more here.1 (one.said.there point parts.1));
      back = λ point holds so.
          h.back point (subst (IsTrueAt point) (sym both.tree) (both-true point a b terms.0.sort terms.1.sort holds (one.said.back point (so-behind trees point said one.more so)))) (so-front trees point said one.more so);
      occurs = λ x there. elim (h.occurs x there) [
        | inl here ↦ elim (in-conjunction x a b (ap (is_in x) (sym both.tree) ∙ here)) [
          | inl f ↦ inl f
          | inr p ↦ inr (named-behind trees said one.more x (one.said.occurs x p))
        ]
        | inr named ↦ inr (named-front trees said one.more x named)
      ];
      within = λ x there. elim there [
        | inl f ↦ h.within x (inl (ap (is_in x) both.tree ∙ front-in x a b f))
        | inr named ↦ elim (named-cases trees said one.more x named) [
          | inl before ↦ h.within x (inr before)
          | inr behind ↦ h.within x (inl (ap (is_in x) both.tree ∙ part-in x a b (one.said.within x behind)))
        ]
      ];
    })

-- what is left is said
pub all-said : (trees : List Tree) (formula left : ℕ) (said new : List Statement) → IsSaidBehind trees left said new → IsPartlySaid trees formula left said → AreSaid trees formula new
all-said trees formula left said new one h = subst (AreSaid trees formula) (sym one.behind) (record {
  there = λ point holds. let here = h.there point holds in so-both trees point said one.more here.1 (one.said.there point here.0);
  back = λ point so. h.back point (one.said.back point (so-behind trees point said one.more so)) (so-front trees point said one.more so);
  occurs = λ x there. elim (h.occurs x there) [
    | inl here ↦ named-behind trees said one.more x (one.said.occurs x here)
    | inr named ↦ named-front trees said one.more x named
  ];
  within = λ x named. elim (named-cases trees said one.more x named) [
    | inl before ↦ h.within x (inr before)
    | inr behind ↦ h.within x (inl (one.said.within x behind))
  ];
})

-- the literal that is true says nothing
pub said-nothing : (trees : List Tree) (id : ℕ) (s : Sort) → tree_at trees id ≡ Literal s 1 → AreSaid trees id []
said-nothing trees id s is = record {
  there = λ point holds s none. absurd (of-none s none);
  back = λ point so. subst (λ (t : Tree). IsTrueAt point t) (sym is) refl;
  occurs = λ x there. absurd (let no : false ≡ true = ap (is_in x) (sym is) ∙ there in cc);
  within = λ x named. absurd (of-none named.0 named.1);
}

-- a formula says that it is true
pub said-itself : (trees : List Tree) (id : ℕ) → AreSaid trees id (record { id = id; value = 1 } ∷ [])
said-itself trees id =
    let s : Statement = record { id = id; value = 1 } in
    record {
      there = λ point holds t one. subst (IsSo trees point) (of-one s t one) holds;
      back = λ point so. so s (the-one s);
      occurs = λ x there. (s, the-one s, there);
      within = λ x named. ap (λ (t : Statement). is_in x (tree_at trees t.id)) (of-one s named.0 named.1) ∙ named.2;
    }

-- an equation says that its term has the literal's value
one-if : (b : Bool) → 1 ≡ truth b → b ≡ true
one-if true e = refl
one-if false e = absurd (cc)

equation-gives : (point : List ℕ) (t : Tree) (s : Sort) (n : ℕ) → IsTrueAt point (binary Equal t (Literal s n)) → Means [] (slice_get point) t n
equation-gives point t s n m = go m.1 m.3 m.4
  where
    go : (vs : List ℕ) → MeanAll [] (slice_get point) (Cons t (Cons (Literal s n) Nil)) vs → 1 ≡ op_value Equal m.0 vs → Means [] (slice_get point) t n
    go vs all e =
        let listed : vs ≡ all.0 ∷ all.3.0 ∷ [] = all.4 ∙ ap (λ (ws : List ℕ). all.0 ∷ ws) (all.3.4 ∙ ap (λ (ws : List ℕ). all.3.0 ∷ ws) all.3.3) in
        let same : all.0 ≡ all.3.0 = eqb-true all.0 all.3.0 (one-if (all.0 == all.3.0) (subst (λ (ws : List ℕ). 1 ≡ op_value Equal m.0 ws) listed e)) in
        subst (Means [] (slice_get point) t) (same ∙ all.3.2) all.2

equation-true : (point : List ℕ) (t : Tree) (s u : Sort) (n : ℕ) → tree_sort t ≡ Some u → Means [] (slice_get point) t n → IsTrueAt point (binary Equal t (Literal s n))
equation-true point t s u n sort m =
    let same : (n == n) ≡ true = eq-eqb n n refl in
    (u ∷ s ∷ [], n ∷ n ∷ [], rw sort refl, (n, n ∷ [], m, (n, [], refl, refl, refl), refl), rw same refl)

in-first : (a : ℕ) → not (a + (0 + 0) == 0) ≡ not (a == 0)
in-first a = let same : a + (0 + 0) ≡ a = omega arith in ap (λ (n : ℕ). not (n == 0)) same

pub said-equal : (trees : List Tree) (id term value : ℕ) → IsEquation trees id term value → AreSaid trees id (record { id = term; value = value } ∷ [])
said-equal trees id term value h =
    let s : Statement = record { id = term; value = value } in
    let t = tree_at trees term in
    let same : (x : ℕ) → is_in x (tree_at trees id) ≡ is_in x t = λ x. ap (is_in x) h.tree ∙ in-first (occurrences x t) in
    record {
      there = λ point holds u one. subst (IsSo trees point) (of-one s u one) (equation-gives point t h.literal_sort value (subst (IsTrueAt point) h.tree holds));
      back = λ point so. subst (IsTrueAt point) (sym h.tree) (equation-true point t h.literal_sort h.sort value h.sorted (so s (the-one s)));
      occurs = λ x there. (s, the-one s, sym (same x) ∙ there);
      within = λ x named. same x ∙ ap (λ (u : Statement). is_in x (tree_at trees u.id)) (of-one s named.0 named.1) ∙ named.2;
    }
