-- The clauses of a region that say what a truth value implies.
use Rattle.std.proofs.Common.{◌≡◌, ℕ, ◌+◌, ◌<◌, ◌&&◌, ◌||◌, Bool, true, false, cond, Some, List, [], ◌∷◌, ◌++◌, filter, length, map, take, refl, sym, ap, ◌∙◌, slice_get, get_or, add-one, append-nil}
use Rattle.std.specs.List.{list_all}
use Rattle.std.proofs.lemmas.Option.{slice_get-get_or}
use Rattle.std.proofs.lemmas.List.Elements.{filter-append}
use Rattle.qv_words.specs.declared.op.Op.{Op}
use Rattle.qv_words.specs.declared.op.Op.TheVariants.{And}
use Rattle.qv_words.specs.Tree.{Tree, Constant, Variable, Literal, Apply, ForAll, Exists, Nil, Cons}
use Rattle.qv_words.specs.Prenex.{binary}
use Rattle.qv_words.specs.Clauses.{is_among, nodes}
use Rattle.qv_words.specs.Choice.{is_and, is_or, joined, opposite, is_implication, implications}
use Rattle.qv_words.proofs.Elements.{take-one}
use Rattle.qv_store.specs.Nodes.{tree_at}
use Rattle.qv_store.specs.Walks.{named}
use Rattle.qv_choose_paths.specs.declared.ways.Place.{Place}
use Rattle.qv_choose_clauses.specs.declared.clauses.Clause.{Clause}
use Rattle.qv_choose_clauses.specs.Clauses.{is_disjunct, AreClauses}
use Rattle.qv_choose_clauses.specs.Conjuncts.{AreConjuncts}
use Rattle.qv_choose_clauses.specs.Implying.{kept, says, AreSaid}

-- one more
one-passes : (test : ℕ → Bool) (n : ℕ) (b : Bool) → test n ≡ b → filter test (n ∷ []) ≡ cond b (n ∷ []) []
one-passes test n b is = ap (λ k. cond k (n ∷ []) []) is

pub pick-next : (test : ℕ → Bool) (ids : List ℕ) (k n : ℕ) (b : Bool) → slice_get ids k ≡ Some n → test n ≡ b → filter test (take (k + 1) ids) ≡ filter test (take k ids) ++ cond b (n ∷ []) []
pick-next test ids k n b at is =
    ap (λ m. filter test (take m ids)) (add-one k) ∙ ap (filter test) (take-one ids k n at)
    ∙ filter-append test (take k ids) (n ∷ []) ∙ ap (λ ns. filter test (take k ids) ++ ns) (one-passes test n b is)

pub pick-kept : (test : ℕ → Bool) (ids : List ℕ) (k n : ℕ) (old : List ℕ) (b : Bool) → slice_get ids k ≡ Some n → test n ≡ b → old ≡ filter test (take k ids) → kept old n b ≡ filter test (take (k + 1) ids)
pick-kept test ids k n old true at is h = ap (λ ns. ns ++ n ∷ []) h ∙ sym (pick-next test ids k n true at is)
pick-kept test ids k n old false at is h = h ∙ sym (append-nil (filter test (take k ids))) ∙ sym (pick-next test ids k n false at is)

pub said-there : (test : ℕ → Bool) (ids : List ℕ) (clauses : List Clause) (marks : List Bool) (k n : ℕ) (c : Clause) (b r : Bool) → AreSaid test ids clauses marks → slice_get ids k ≡ Some n → k < length clauses → k < length marks
    → r ≡ says (get_or clauses k c) (get_or marks k b) → test n ≡ r
said-there test ids clauses marks k n c b r said at own on is = said k n (get_or clauses k c) (get_or marks k b) at (slice_get-get_or clauses k c own) (slice_get-get_or marks k b on) ∙ sym is

-- a clause with the place's negation joins no conjuncts
and-is : (o : Op) → is_and o ≡ true → o ≡ And
and-is And h = refl
and-is o h = absurd (cc)

pub opposite-alone : (x : ℕ) (c : Tree) → is_among (joined is_or c) (opposite x) ≡ true → joined is_and c ≡ c ∷ []
opposite-alone x (Constant i s) h = refl
opposite-alone x (Variable l s) h = refl
opposite-alone x (Literal s n) h = refl
opposite-alone x (ForAll l s body) h = refl
opposite-alone x (Exists l s body) h = refl
opposite-alone x (Apply o Nil) h = refl
opposite-alone x (Apply o (Cons a Nil)) h = refl
opposite-alone x (Apply o (Cons a (Cons b (Cons c rest)))) h = refl
opposite-alone x (Apply o (Cons a (Cons b Nil))) h = go (is_and o) refl
  where
    none : is_among (joined is_or (binary And a b)) (opposite x) ≡ false
    none = refl

    go : (k : Bool) → is_and o ≡ k → cond k (joined is_and a ++ joined is_and b) (Apply o (Cons a (Cons b Nil)) ∷ []) ≡ Apply o (Cons a (Cons b Nil)) ∷ []
    go false is = refl
    go true is =
        let gone : true ≡ false = sym h ∙ ap (λ k. is_among (joined is_or (binary k a b)) (opposite x)) (and-is o is) ∙ none in
        absurd (cc)

-- what the marks and the clauses say is the definition's test
abbrev pub Says : Place → Tree → Tree → Bool
Says p region c = is_implication p.first p.end p.level c && is_among (joined is_and region) c

three : (a b c d : Bool) → (a ≡ true → c ≡ d) → ((a && b) && d) ≡ ((a && b) && c)
three true b c d h = ap (λ k. b && k) (sym (h refl))
three false b c d h = refl

pub are-said : (p : Place) (trees : List Tree) (region : Tree) (ids : List ℕ) (clauses : List Clause) (marks : List Bool) → AreClauses p trees ids clauses → AreConjuncts trees region ids marks → AreSaid (λ n. Says p region (tree_at trees n)) ids clauses marks
are-said p trees region ids clauses marks right conjuncts k n c b at own on =
    let t = tree_at trees n in
    three (is_among (joined is_or t) (opposite p.level)) (list_all (is_disjunct p) (joined is_or t)) b (is_among (joined is_and region) t) (λ h. conjuncts k n b at on (opposite-alone p.level t h))
    ∙ ap (λ d. says d b) (sym (right k n c at own))

named-filter : (trees : List Tree) (test : Tree → Bool) (ids : List ℕ) → named trees (filter (λ n. test (tree_at trees n)) ids) ≡ filter test (named trees ids)
named-filter trees test [] = refl
named-filter trees test (n ∷ ns) = go (test (tree_at trees n)) (named-filter trees test ns)
  where
    go : (b : Bool) → named trees (filter (λ m. test (tree_at trees m)) ns) ≡ filter test (named trees ns)
        → named trees (cond b (n ∷ filter (λ m. test (tree_at trees m)) ns) (filter (λ m. test (tree_at trees m)) ns)) ≡ cond b (tree_at trees n ∷ filter test (named trees ns)) (filter test (named trees ns))
    go true rest = ap (λ ts. tree_at trees n ∷ ts) rest
    go false rest = rest

pub are-implications : (p : Place) (trees : List Tree) (region : Tree) (ids picked : List ℕ) → picked ≡ filter (λ n. Says p region (tree_at trees n)) ids → named trees ids ≡ nodes (region ∷ []) → named trees picked ≡ implications p.first p.end region p.level
are-implications p trees region ids picked is order = ap (named trees) is ∙ named-filter trees (Says p region) ids ∙ ap (filter (Says p region)) order
