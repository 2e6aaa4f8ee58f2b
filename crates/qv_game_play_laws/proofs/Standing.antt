-- Formulas that stand for those of a query list.
use Rattle.std.proofs.Common.{◌≡◌, ℕ, zero, suc, ◌+◌, Bool, true, cond, not, Option, Some, List, [], ◌∷◌, ◌++◌, inl, inr, refl, sym, ap, ◌∙◌, subst, slice_get, arith}
use Rattle.std.specs.Prelude.{◌==◌, IsSomeAnd}
use Rattle.std.specs.List.{All, AllByRecursion, AllZip, Contains}
use Rattle.std.proofs.lemmas.Bool.{cases_Bool, eq-eqb, eqb-true, false≢true, ne_eqb}
use Rattle.std.proofs.lemmas.List.Elements.{All-contains, All-from_recursion, recursion_from_All}
use Rattle.qv_words.specs.declared.sort.Sort.{Sort}
use Rattle.qv_words.specs.declared.sort.Sort.TheVariants.{Bool as BoolSort}
use Rattle.qv_words.specs.Sort.{IsValueOf}
use Rattle.qv_words.specs.Tree.{Tree, Trees, Constant, Variable, Literal, Apply, ForAll, Exists, Nil, Cons, IsQuantifierFree, AreQuantifierFree}
use Rattle.qv_words.specs.Sorted.{free_levels, free_levels_of_all}
use Rattle.qv_words.specs.Meaning.{Means}
use Rattle.qv_words.specs.Choice.{IsTrueAt, is_in, occurrences, occurrences_in_each}
use Rattle.qv_words.specs.PassLaws.{IsPlain, StandsFor}
use Rattle.qv_words.specs.Problem.{Problem, Quantifier}
use Rattle.qv_words.specs.Linked.{AreLinks, AreValues, Block, Entry, IsLinked, block_numbered, blocks_of, linked_regions, places_below}
use Rattle.qv_words.specs.GameLaws.{IsPointOf, IsProblem}
use Rattle.qv_words.proofs.Elements.{all-weaker}
use Rattle.qv_words.proofs.Leaves.{back, both, front}
use Rattle.qv_game_laws.proofs.GameSteps.{level-of}
use Rattle.qv_game_laws.proofs.Points.{IsPoint, below-is}
use Rattle.qv_game_laws.proofs.Steps.{Before, before, has-values, longer, point-values}
use Rattle.qv_game_laws.proofs.Terms.{EachLeaf, IsOf, OfVariable, over-free, over-sorted}
use Rattle.qv_game_entry_laws.specs.BuildingLaws.{Deny}
use Rattle.qv_game_entry_laws.specs.QueryLaws.{OccursIn}
use Rattle.qv_game_entry_laws.proofs.Failed.{formulas-of}
use Rattle.qv_game_entry_laws.proofs.Forced.{regions-of}
use Rattle.qv_game_entry_laws.proofs.Taken.{stands-over}
use Rattle.qv_meter.specs.Queries.{StandsForQuery, query_list}
use Rattle.qv_rewrite_passes.proofs.Behind.{all-stand}

pub plain-of : (P : OfVariable) (ts : List Tree) → AllByRecursion (IsOf P BoolSort) ts → AllByRecursion IsPlain ts
plain-of P ts each = all-weaker (IsOf P BoolSort) IsPlain ts (λ t h. record { sorted = over-sorted P t h.0; free = over-free P t h.0 }) each

-- each stands for its formula of the list
pub stand-for : (p : Problem) (entries : List Entry) (winner : Quantifier) (level : ℕ) (formulas : List Tree) → AllByRecursion IsPlain (query_list p entries winner level) → StandsForQuery p entries winner level formulas → AllZip StandsFor formulas (query_list p entries winner level)
stand-for p entries winner level formulas plain h =
    let list = query_list p entries winner level in
    elim h [
      | inl last ↦ subst (λ (us : List Tree). AllZip StandsFor us list) (sym last.1.1) (all-stand last.1.0 list plain)
      | inr inner ↦ subst (λ (us : List Tree). AllZip StandsFor us list) (sym inner.1) (all-stand [] list plain)
    ]

-- so it is over the same places
pub each-over : (P : OfVariable) (us ts : List Tree) → AllZip StandsFor us ts → AllByRecursion (IsOf P BoolSort) ts → AllByRecursion (IsOf P BoolSort) us
each-over P [] ts h each = tt
each-over P (u ∷ us) [] h each = absurd h
each-over P (u ∷ us) (t ∷ ts) h each = (stands-over P u t h.0 each.0, each-over P us ts h.1 each.1)

-- and true where that is, and the other way round
pub true-behind : (P : OfVariable) (e : ℕ → Option ℕ) → ((l : ℕ) (s : Sort) → P l s → IsSomeAnd (e l) (λ v. IsValueOf v s)) → (us ts : List Tree) → AllZip StandsFor us ts → AllByRecursion (IsOf P BoolSort) ts → AllByRecursion (λ t. Means [] e t 1) ts → AllByRecursion (λ t. Means [] e t 1) us
true-behind P e values [] ts h each m = tt
true-behind P e values (u ∷ us) [] h each m = absurd h
true-behind P e values (u ∷ us) (t ∷ ts) h each m = (h.0.keeps [] e 1 (has-values P t e each.0.0 values) m.0, true-behind P e values us ts h.1 each.1 m.1)

pub true-before : (P : OfVariable) (e : ℕ → Option ℕ) → ((l : ℕ) (s : Sort) → P l s → IsSomeAnd (e l) (λ v. IsValueOf v s)) → (us ts : List Tree) → AllZip StandsFor us ts → AllByRecursion (IsOf P BoolSort) ts → AllByRecursion (λ t. Means [] e t 1) us → AllByRecursion (λ t. Means [] e t 1) ts
true-before P e values us [] h each m = tt
true-before P e values [] (t ∷ ts) h each m = absurd h
true-before P e values (u ∷ us) (t ∷ ts) h each m = (h.0.gains [] e 1 (has-values P t e each.0.0 values) m.0, true-before P e values us ts h.1 each.1 m.1)

-- a variable is that of another place
abbrev Apart : ℕ → OfVariable
Apart x l s = l ≡ x → ⊥

-- a place doesn't occur exactly where each variable is that of another
mutual
  apart-leaves : (x : ℕ) (t : Tree) → IsQuantifierFree t → occurrences x t ≡ 0 → EachLeaf (Apart x) (free_levels t)
  apart-leaves x (Constant i s) free h = tt
  apart-leaves x (Variable l s) free h = (
    λ same. let once : occurrences x (Variable l s) ≡ 1 = ap (λ (b : Bool). cond b 1 0) (eq-eqb l x same) in omega (arith, once, h),
    tt,
  )
  apart-leaves x (Literal s n) free h = tt
  apart-leaves x (Apply o args) free h = apart-leaves_each x args free h
  apart-leaves x (ForAll l s body) free h = absurd free
  apart-leaves x (Exists l s body) free h = absurd free

  apart-leaves_each : (x : ℕ) (ts : Trees) → AreQuantifierFree ts → occurrences_in_each x ts ≡ 0 → EachLeaf (Apart x) (free_levels_of_all ts)
  apart-leaves_each x Nil free h = tt
  apart-leaves_each x (Cons t ts) free h =
      both (λ leaf. Apart x leaf.0 leaf.1) (free_levels t) (free_levels_of_all ts) (apart-leaves x t free.0 (omega (arith, h))) (apart-leaves_each x ts free.1 (omega (arith, h)))

mutual
  leaves-apart : (x : ℕ) (t : Tree) → IsQuantifierFree t → EachLeaf (Apart x) (free_levels t) → occurrences x t ≡ 0
  leaves-apart x (Constant i s) free h = refl
  leaves-apart x (Variable l s) free h = ap (λ (b : Bool). cond b 1 0) (ne_eqb l x h.0)
  leaves-apart x (Literal s n) free h = refl
  leaves-apart x (Apply o args) free h = leaves-apart_each x args free h
  leaves-apart x (ForAll l s body) free h = absurd free
  leaves-apart x (Exists l s body) free h = absurd free

  leaves-apart_each : (x : ℕ) (ts : Trees) → AreQuantifierFree ts → EachLeaf (Apart x) (free_levels_of_all ts) → occurrences_in_each x ts ≡ 0
  leaves-apart_each x Nil free h = refl
  leaves-apart_each x (Cons t ts) free h =
      let first : occurrences x t ≡ 0 = leaves-apart x t free.0 (front (λ leaf. Apart x leaf.0 leaf.1) (free_levels t) (free_levels_of_all ts) h) in
      let others : occurrences_in_each x ts ≡ 0 = leaves-apart_each x ts free.1 (back (λ leaf. Apart x leaf.0 leaf.1) (free_levels t) (free_levels_of_all ts) h) in
      omega (arith, first, others)

-- so a place that occurs in what stands for a formula occurs in the formula
stands-in : (x : ℕ) (u t : Tree) → StandsFor u t → IsQuantifierFree t → is_in x u ≡ true → is_in x t ≡ true
stands-in x u t h free has = elim (cases_Bool (occurrences x t == 0)) [
  | inl none ↦
      let P : ℕ × Sort → Type 0 = λ leaf. Apart x leaf.0 leaf.1 in
      let away = All-from_recursion P (free_levels t) (apart-leaves x t free (eqb-true (occurrences x t) 0 none)) in
      let leaves = all-weaker (Contains (free_levels t)) P (free_levels u) (λ leaf c. All-contains P (free_levels t) leaf away c) (recursion_from_All (Contains (free_levels t)) (free_levels u) h.variables) in
      let test : (occurrences x u == 0) ≡ true = eq-eqb (occurrences x u) 0 (leaves-apart x u h.plain.free leaves) in
      absurd (false≢true (sym (ap not test) ∙ has))
  | inr some ↦ ap not some
]

occurs-at : (x : ℕ) (us ts : List Tree) (k : ℕ) (u : Tree) → AllZip StandsFor us ts → AllByRecursion IsPlain ts → slice_get us k ≡ Some u → is_in x u ≡ true → OccursIn ts x
occurs-at x [] ts k u h plain at has = absurd (cc)
occurs-at x (v ∷ us) [] k u h plain at has = absurd h
occurs-at x (v ∷ us) (t ∷ ts) zero u h plain at has = let same : v ≡ u = cc in (t, 0, refl, stands-in x v t h.0 plain.0.free (ap (is_in x) same ∙ has))
occurs-at x (v ∷ us) (t ∷ ts) (suc k) u h plain at has = let there = occurs-at x us ts k u h.1 plain.1 at has in (there.0, suc there.1, there.2, there.3)

pub occurs-before : (x : ℕ) (us ts : List Tree) → AllZip StandsFor us ts → AllByRecursion IsPlain ts → OccursIn us x → OccursIn ts x
occurs-before x us ts h plain occurs = occurs-at x us ts occurs.1 occurs.0 h plain occurs.2 occurs.3

-- what may be asked for an entry of a player who doesn't own the block
pub record IsStanding (p : Problem) (e : Entry) (block : Block) (formulas queries : List Tree) : Type 0 where
  pub index : ℕ
  pub level : e.level ≡ suc index
  pub at : slice_get (blocks_of p.prefix) index ≡ Some block
  pub of : AllByRecursion (IsOf (Before p (before p (suc index))) BoolSort) queries
  pub stand : AllZip StandsFor formulas queries

pub standing : (p : Problem) (entries : List Entry) (e : Entry) (block : Block) (formulas : List Tree) → IsProblem p → IsLinked p entries → block_numbered (blocks_of p.prefix) e.level ≡ Some block → AreLinks p entries e → AllZip Deny (query_list p entries e.winner (e.level + 1)) (linked_regions p entries e) → StandsForQuery p entries e.winner (e.level + 1) formulas → IsStanding p e block formulas (query_list p entries e.winner (e.level + 1))
standing p entries e block formulas hp is_linked at links denied stands =
    let queries = query_list p entries e.winner (e.level + 1) in
    let index = level-of (blocks_of p.prefix) e.level block at in
    let P = Before p (before p (suc index.0)) in
    let of = formulas-of P queries (linked_regions p entries e) denied (regions-of p entries e index.0 hp is_linked links index.1) in
    record {
      index = index.0;
      level = index.1;
      at = index.2;
      of = of;
      stand = stand-for p entries e.winner (e.level + 1) formulas (plain-of P queries of) stands;
    }

pub standing-over : (p : Problem) (e : Entry) (block : Block) (formulas queries : List Tree) → (h : IsStanding p e block formulas queries) → AllByRecursion (IsOf (Before p (before p (suc h.index))) BoolSort) formulas
standing-over p e block formulas queries h = each-over (Before p (before p (suc h.index))) formulas queries h.stand h.of

-- values of the block that make the list true make it true
pub standing-true : (p : Problem) (e : Entry) (block : Block) (formulas queries : List Tree) → IsStanding p e block formulas queries → (point values : List ℕ) → IsPointOf p e.level point → AreValues values block.sorts → All (IsTrueAt (point ++ values)) queries → All (IsTrueAt (point ++ values)) formulas
standing-true p e block formulas queries h point values typed each holds =
    let first : places_below (blocks_of p.prefix) e.level ≡ before p h.index = below-is (blocks_of p.prefix) e.level h.index h.level in
    let here : IsPoint p.prefix (before p h.index) point = subst (λ (n : ℕ). IsPoint p.prefix n point) first typed in
    let values-at = point-values p (before p (suc h.index)) (point ++ values) (longer p h.index block point values h.at here each) in
    All-from_recursion (IsTrueAt (point ++ values)) formulas
    (true-behind (Before p (before p (suc h.index))) (slice_get (point ++ values)) values-at formulas queries h.stand h.of (recursion_from_All (IsTrueAt (point ++ values)) queries holds))
