-- A choice is found in each quantified tree of bit-vectors.
use Rattle.std.proofs.Common.{◌≡◌, ℕ, ◌+◌, ◌⊎◌, inl, inr, Bool as Truth, true, false, Option, Some, None, List, [], ◌∷◌, length, refl, sym, ap, ◌∙◌, subst, arith}
use Rattle.std.specs.Prelude.{option_map}
use Rattle.qv_words.specs.declared.sort.Sort.{Sort}
use Rattle.qv_words.specs.declared.sort.Sort.TheVariants.{Bool, Bits}
use Rattle.qv_words.specs.declared.op.Op.{Op}
use Rattle.qv_words.specs.declared.op.Op.TheVariants.{Not, And, Or, Xor, Implies, Equal, Ite}
use Rattle.qv_words.specs.Rank.{one_bool, two_bools, two_alike, choice, result_sort}
use Rattle.qv_words.specs.Tree.{Tree, Trees, Constant, Variable, Literal, Apply, ForAll, Exists, Nil, Cons, tree_sort, tree_sorts, closed_sort}
use Rattle.qv_words.specs.Prenex.{Choice, is_quantified, is_some_quantified, own_choice, or_else, first_choice, first_choice_of, ite, put_for}
use Rattle.qv_words.proofs.Ranks.{rank_parts, sorts_parts, found}
use Rattle.qv_words.proofs.InSort.{choice-parts, one_bool-parts, two_bools-parts, two_alike-parts}
use Rattle.qv_prenex_laws.proofs.Splits.{AllBits, is_core, others-bits, FitIn, fit-args, fit-first, fit-rest, put-sort, put-fit, fit-choice}
use Rattle.qv_prenex_laws.proofs.Fuel.{target_of}
use Rattle.std.proofs.lemmas.Bool.{or_cases}

-- how many trees there are
abbrev count : Trees → ℕ
count Nil = 0
count (Cons t ts) = 1 + count ts

counts : (ts : Trees) (ss : List Sort) → tree_sorts ts ≡ Some ss → length ss ≡ count ts
counts Nil ss h = let e : ss ≡ [] = cc in ap length e
counts (Cons t ts) ss h =
    let p = sorts_parts t ts ss h in
    let k = counts ts p.1 p.3 in
    let e : length (p.0 ∷ p.1) ≡ 1 + count ts = omega (arith, k) in
    ap length p.4 ∙ e

bad-count : (o : Op) (args : Trees) (r : Sort) (n : ℕ) → ((ss : List Sort) (r : Sort) → result_sort o ss ≡ Some r → length ss ≡ n) → (count args ≡ n → ⊥) → tree_sort (Apply o args) ≡ Some r → ⊥
bad-count o args r n arity other h =
    let p = rank_parts o args r h in
    other (sym (counts args p.0 p.1) ∙ arity p.0 r p.2)

one_bool-count : (ss : List Sort) (r : Sort) → one_bool ss ≡ Some r → length ss ≡ 1
one_bool-count ss r h = ap length (one_bool-parts ss r h).0

two_bools-count : (ss : List Sort) (r : Sort) → two_bools ss ≡ Some r → length ss ≡ 2
two_bools-count ss r h = ap length (two_bools-parts ss r h).0

pub mapped : (o : Option Sort) (r : Sort) → option_map (λ s. Bool) o ≡ Some r → (s : Sort) × (o ≡ Some s) × (Bool ≡ r)
mapped None r h = cc
mapped (Some s) r h = (s, refl, cc)

alike-count : (ss : List Sort) (r : Sort) → option_map (λ s. Bool) (two_alike ss) ≡ Some r → length ss ≡ 2
alike-count ss r h = let m = mapped (two_alike ss) r h in ap length (two_alike-parts ss m.0 m.1)

choice-count : (ss : List Sort) (r : Sort) → choice ss ≡ Some r → length ss ≡ 3
choice-count ss r h = ap length (choice-parts ss r h)

abbrev pub is_shaped : Op → Trees → Truth
is_shaped Not (Cons a Nil) = true
is_shaped And (Cons a (Cons b Nil)) = true
is_shaped Or (Cons a (Cons b Nil)) = true
is_shaped Xor (Cons a (Cons b Nil)) = true
is_shaped Implies (Cons a (Cons b Nil)) = true
is_shaped Equal (Cons a (Cons b Nil)) = true
is_shaped Ite (Cons a (Cons b (Cons d Nil))) = true
is_shaped _ _ = false

pub unshaped : (o : Op) (args : Trees) (r : Sort) → is_core o ≡ true → is_shaped o args ≡ false → tree_sort (Apply o args) ≡ Some r → ⊥
unshaped Not Nil r i s h = bad-count Not Nil r 1 one_bool-count (λ e. omega (arith, e)) h
unshaped Not (Cons a Nil) r i s h = cc
unshaped Not (Cons a (Cons z ts)) r i s h = bad-count Not (Cons a (Cons z ts)) r 1 one_bool-count (λ e. omega (arith, e)) h
unshaped And Nil r i s h = bad-count And Nil r 2 two_bools-count (λ e. omega (arith, e)) h
unshaped And (Cons a Nil) r i s h = bad-count And (Cons a Nil) r 2 two_bools-count (λ e. omega (arith, e)) h
unshaped And (Cons a (Cons b Nil)) r i s h = cc
unshaped And (Cons a (Cons b (Cons z ts))) r i s h = bad-count And (Cons a (Cons b (Cons z ts))) r 2 two_bools-count (λ e. omega (arith, e)) h
unshaped Or Nil r i s h = bad-count Or Nil r 2 two_bools-count (λ e. omega (arith, e)) h
unshaped Or (Cons a Nil) r i s h = bad-count Or (Cons a Nil) r 2 two_bools-count (λ e. omega (arith, e)) h
unshaped Or (Cons a (Cons b Nil)) r i s h = cc
unshaped Or (Cons a (Cons b (Cons z ts))) r i s h = bad-count Or (Cons a (Cons b (Cons z ts))) r 2 two_bools-count (λ e. omega (arith, e)) h
unshaped Xor Nil r i s h = bad-count Xor Nil r 2 two_bools-count (λ e. omega (arith, e)) h
unshaped Xor (Cons a Nil) r i s h = bad-count Xor (Cons a Nil) r 2 two_bools-count (λ e. omega (arith, e)) h
unshaped Xor (Cons a (Cons b Nil)) r i s h = cc
unshaped Xor (Cons a (Cons b (Cons z ts))) r i s h = bad-count Xor (Cons a (Cons b (Cons z ts))) r 2 two_bools-count (λ e. omega (arith, e)) h
unshaped Implies Nil r i s h = bad-count Implies Nil r 2 two_bools-count (λ e. omega (arith, e)) h
unshaped Implies (Cons a Nil) r i s h = bad-count Implies (Cons a Nil) r 2 two_bools-count (λ e. omega (arith, e)) h
unshaped Implies (Cons a (Cons b Nil)) r i s h = cc
unshaped Implies (Cons a (Cons b (Cons z ts))) r i s h = bad-count Implies (Cons a (Cons b (Cons z ts))) r 2 two_bools-count (λ e. omega (arith, e)) h
unshaped Equal Nil r i s h = bad-count Equal Nil r 2 alike-count (λ e. omega (arith, e)) h
unshaped Equal (Cons a Nil) r i s h = bad-count Equal (Cons a Nil) r 2 alike-count (λ e. omega (arith, e)) h
unshaped Equal (Cons a (Cons b Nil)) r i s h = cc
unshaped Equal (Cons a (Cons b (Cons z ts))) r i s h = bad-count Equal (Cons a (Cons b (Cons z ts))) r 2 alike-count (λ e. omega (arith, e)) h
unshaped Ite Nil r i s h = bad-count Ite Nil r 3 choice-count (λ e. omega (arith, e)) h
unshaped Ite (Cons a Nil) r i s h = bad-count Ite (Cons a Nil) r 3 choice-count (λ e. omega (arith, e)) h
unshaped Ite (Cons a (Cons b Nil)) r i s h = bad-count Ite (Cons a (Cons b Nil)) r 3 choice-count (λ e. omega (arith, e)) h
unshaped Ite (Cons a (Cons b (Cons d Nil))) r i s h = cc
unshaped Ite (Cons a (Cons b (Cons d (Cons z ts)))) r i s h = bad-count Ite (Cons a (Cons b (Cons d (Cons z ts)))) r 3 choice-count (λ e. omega (arith, e)) h
unshaped o args r i s h = cc

pub one-sort : (a : Tree) (s : Sort) (ss : List Sort) → tree_sorts (Cons a Nil) ≡ Some ss → ss ≡ s ∷ [] → tree_sort a ≡ Some s
one-sort a s ss h e = let p = sorts_parts a Nil ss h in let same : p.0 ≡ s = cc in p.2 ∙ ap Some same

pub two-sorts : (a b : Tree) (s t : Sort) (ss : List Sort) → tree_sorts (Cons a (Cons b Nil)) ≡ Some ss → ss ≡ s ∷ t ∷ [] → (tree_sort a ≡ Some s) × (tree_sort b ≡ Some t)
two-sorts a b s t ss h e =
    let p = sorts_parts a (Cons b Nil) ss h in
    let same : p.0 ≡ s = cc in
    let rest : p.1 ≡ t ∷ [] = cc in
    (p.2 ∙ ap Some same, one-sort b t p.1 p.3 rest)

pub three-sorts : (a b d : Tree) (s t r : Sort) (ss : List Sort) → tree_sorts (Cons a (Cons b (Cons d Nil))) ≡ Some ss → ss ≡ s ∷ t ∷ r ∷ [] → (tree_sort a ≡ Some s) × (tree_sort b ≡ Some t) × (tree_sort d ≡ Some r)
three-sorts a b d s t r ss h e =
    let p = sorts_parts a (Cons b (Cons d Nil)) ss h in
    let same : p.0 ≡ s = cc in
    let rest : p.1 ≡ t ∷ r ∷ [] = cc in
    let q = two-sorts b d t r p.1 p.3 rest in
    (p.2 ∙ ap Some same, q.0, q.1)

-- a quantified tree of bit-vectors has a choice that is split
abbrev pub There : Tree → Type 0
There t = (d : Choice) × (first_choice t ≡ Some d)

abbrev pub ThereIn : Trees → Type 0
ThereIn ts = (d : Choice) × (first_choice_of ts ≡ Some d)

either-there : (x y : Option Choice) → ((d : Choice) × (x ≡ Some d)) ⊎ ((d : Choice) × (y ≡ Some d)) → (d : Choice) × (or_else x y ≡ Some d)
either-there (Some d) y h = (d, refl)
either-there None y (inl h) = cc
either-there None y (inr h) = h

in-list : (t : Tree) (ts : Trees) → (is_quantified t ≡ true → There t) → (is_some_quantified ts ≡ true → ThereIn ts) → (is_quantified t ≡ true) ⊎ (is_some_quantified ts ≡ true) → ThereIn (Cons t ts)
in-list t ts one rest (inl q) = either-there (first_choice t) (first_choice_of ts) (inl (one q))
in-list t ts one rest (inr q) = either-there (first_choice t) (first_choice_of ts) (inr (rest q))

own-choice : (c a b : Tree) (w : ℕ) → is_quantified c ≡ true → tree_sort a ≡ Some (Bits w) → (d : Choice) × (own_choice Ite (Cons c (Cons a (Cons b Nil))) ≡ Some d)
own-choice c a b w q s = (record { condition = c; yes = a; no = b }, rw (q, s) refl)

in-ite : (c a b : Tree) (w : ℕ) → tree_sort a ≡ Some (Bits w) → (is_quantified a ≡ true → There a) → (is_quantified b ≡ true → There b) → (is_quantified c ≡ true) ⊎ (is_some_quantified (Cons a (Cons b Nil)) ≡ true) → There (ite c a b)
in-ite c a b w s ha hb (inl q) = either-there (own_choice Ite (Cons c (Cons a (Cons b Nil)))) (first_choice_of (Cons c (Cons a (Cons b Nil)))) (inl (own-choice c a b w q s))
in-ite c a b w s ha hb (inr q) =
    either-there (own_choice Ite (Cons c (Cons a (Cons b Nil)))) (first_choice_of (Cons c (Cons a (Cons b Nil))))
    (inr (either-there (first_choice c) (first_choice_of (Cons a (Cons b Nil)))
    (inr (in-list a (Cons b Nil) ha (λ q'. in-list b Nil hb (λ k. cc) (or_cases (is_quantified b) false q')) (or_cases (is_quantified a) (is_some_quantified (Cons b Nil)) q)))))

args-there : (o : Op) (args : Trees) → ThereIn args → There (Apply o args)
args-there o args h = either-there (own_choice o args) (first_choice_of args) (inr h)

-- an operator on bit-vectors alone
pub by-core : (o : Op) (args : Trees) (r : Sort) (k : Truth) → is_core o ≡ k → is_shaped o args ≡ false → tree_sort (Apply o args) ≡ Some r → ((ss : List Sort) → tree_sorts args ≡ Some ss → AllBits ss → ThereIn args) → There (Apply o args)
by-core o args r true i s h go = absurd (unshaped o args r i s h)
by-core o args r false i s h go =
    let p = rank_parts o args r h in
    args-there o args (go p.0 p.1 (others-bits o p.0 r i p.2))

bool-is_no-bits : (s : Sort) (w : ℕ) → Bool ≡ s → s ≡ Bits w → ⊥
bool-is_no-bits s w e f = cc

not-closed : (o : Option Sort) (w : ℕ) → closed_sort o ≡ Some (Bits w) → ⊥
not-closed None w h = cc
not-closed (Some Bool) w h = cc
not-closed (Some (Bits v)) w h = cc

bits-first : (s : Sort) (rest ss : List Sort) → ss ≡ s ∷ rest → AllBits ss → (w : ℕ) × (s ≡ Bits w) × AllBits rest
bits-first Bool rest ss e h = absurd (subst AllBits e h)
bits-first (Bits w) rest ss e h = (w, refl, subst AllBits e h)

mutual
  there : (t : Tree) (w : ℕ) → tree_sort t ≡ Some (Bits w) → is_quantified t ≡ true → There t
  there (Apply Not (Cons a Nil)) w s q = let p = rank_parts Not (Cons a Nil) (Bits w) s in absurd (bool-is_no-bits (Bits w) w (one_bool-parts p.0 (Bits w) p.2).1 refl)
  there (Apply And (Cons a (Cons b Nil))) w s q = let p = rank_parts And (Cons a (Cons b Nil)) (Bits w) s in absurd (bool-is_no-bits (Bits w) w (two_bools-parts p.0 (Bits w) p.2).1 refl)
  there (Apply Or (Cons a (Cons b Nil))) w s q = let p = rank_parts Or (Cons a (Cons b Nil)) (Bits w) s in absurd (bool-is_no-bits (Bits w) w (two_bools-parts p.0 (Bits w) p.2).1 refl)
  there (Apply Xor (Cons a (Cons b Nil))) w s q = let p = rank_parts Xor (Cons a (Cons b Nil)) (Bits w) s in absurd (bool-is_no-bits (Bits w) w (two_bools-parts p.0 (Bits w) p.2).1 refl)
  there (Apply Implies (Cons a (Cons b Nil))) w s q = let p = rank_parts Implies (Cons a (Cons b Nil)) (Bits w) s in absurd (bool-is_no-bits (Bits w) w (two_bools-parts p.0 (Bits w) p.2).1 refl)
  there (Apply Equal (Cons a (Cons b Nil))) w s q = let p = rank_parts Equal (Cons a (Cons b Nil)) (Bits w) s in absurd (bool-is_no-bits (Bits w) w (mapped (two_alike p.0) (Bits w) p.2).2 refl)
  there (Apply Ite (Cons c (Cons a (Cons b Nil)))) w s q =
      let p = rank_parts Ite (Cons c (Cons a (Cons b Nil))) (Bits w) s in
      let k = three-sorts c a b Bool (Bits w) (Bits w) p.0 p.1 (choice-parts p.0 (Bits w) p.2) in
      in-ite c a b w k.1 (λ r. there a w k.1 r) (λ r. there b w k.2 r) (or_cases (is_quantified c) (is_some_quantified (Cons a (Cons b Nil))) q)
  there (Apply o args) w s q = by-core o args (Bits w) (is_core o) refl refl s (λ ss h bits. all-there args ss h bits q)
  there (ForAll l r body) w s q = absurd (not-closed (tree_sort body) w s)
  there (Exists l r body) w s q = absurd (not-closed (tree_sort body) w s)
  there (Constant i r) w s q = cc
  there (Variable l r) w s q = cc
  there (Literal r n) w s q = cc

  pub all-there : (ts : Trees) (ss : List Sort) → tree_sorts ts ≡ Some ss → AllBits ss → is_some_quantified ts ≡ true → ThereIn ts
  all-there Nil ss h bits q = cc
  all-there (Cons t ts) ss h bits q =
      let p = sorts_parts t ts ss h in
      let f = bits-first p.0 p.1 ss p.4 bits in
      in-list t ts (λ r. there t f.0 (p.2 ∙ ap Some f.1) r) (λ r. all-there ts p.1 p.3 f.2 r) (or_cases (is_quantified t) (is_some_quantified ts) q)

-- the condition of a choice that is found, and the tree with either side put in
pub record SplitFits (W : ℕ × Sort → Type 0) (levels : ℕ → Option Sort) (t : Tree) (d : Choice) : Type 0 where
  pub condition : FitIn W levels d.condition
  pub condition_sort : tree_sort d.condition ≡ Some Bool
  pub same_yes : tree_sort d.yes ≡ tree_sort (target_of d)
  pub yes : FitIn W levels (put_for (target_of d) d.yes t)
  pub yes_sort : tree_sort (put_for (target_of d) d.yes t) ≡ Some Bool
  pub same_no : tree_sort d.no ≡ tree_sort (target_of d)
  pub no : FitIn W levels (put_for (target_of d) d.no t)
  pub no_sort : tree_sort (put_for (target_of d) d.no t) ≡ Some Bool

pub split-fits : (W : ℕ × Sort → Type 0) (levels : ℕ → Option Sort) (t : Tree) (d : Choice) → first_choice t ≡ Some d →
    FitIn W levels t → tree_sort t ≡ Some Bool → SplitFits W levels t d
split-fits W levels t d e h s =
    let whole = fit-choice t d h e in
    let args = Cons d.condition (Cons d.yes (Cons d.no Nil)) in
    let rank = found (tree_sort (target_of d)) whole.sorted.1 in
    let parts = rank_parts Ite args rank.0 rank.1 in
    let sorts = three-sorts d.condition d.yes d.no Bool rank.0 rank.0 parts.0 parts.1 (choice-parts parts.0 rank.0 parts.2) in
    let fits = fit-args Ite args whole in
    let rest = fit-rest d.condition (Cons d.yes (Cons d.no Nil)) fits in
    let same1 = sorts.1 ∙ sym rank.1 in
    let same2 = sorts.2 ∙ sym rank.1 in
    record {
      condition = fit-first d.condition (Cons d.yes (Cons d.no Nil)) fits;
      condition_sort = sorts.0;
      same_yes = same1;
      yes = put-fit (target_of d) d.yes t same1 (fit-first d.yes (Cons d.no Nil) rest) h;
      yes_sort = put-sort (target_of d) d.yes t same1 ∙ s;
      same_no = same2;
      no = put-fit (target_of d) d.no t same2 (fit-first d.no Nil (fit-rest d.yes (Cons d.no Nil) rest)) h;
      no_sort = put-sort (target_of d) d.no t same2 ∙ s;
    }
