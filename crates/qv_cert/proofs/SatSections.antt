-- The Skolem terms that accepted lines list.
use Rattle.std.proofs.Common.{◌≡◌, ◌≢◌, ℕ, zero, suc, ◌+◌, ◌<◌, Bool, true, false, not, cond, ◌==◌, ◌&&◌, Option, Some, None, List, [], ◌∷◌, ◌++◌, slice_get, unwrap_or, refl, ap, sym, subst, ◌∙◌, arith}
use Rattle.std.specs.Prelude.{is_some, Ok, IsSome, IsSomeAnd, All, AllPairs, IsTrue}
use Rattle.std.specs.List.{list_all, AllByRecursion}
use Rattle.std.proofs.lemmas.Option.{slice_get_within, get_or_from_slice_get}
use Rattle.std.proofs.lemmas.List.Elements.{All-nil, All-push, All-from_recursion, recursion_from_All}
use Rattle.std.proofs.lemmas.List.Quantifiers.{all_pairs_push}
use Rattle.std.proofs.lemmas.Bool.Decides.{nat_tests}
use Rattle.qv_words.specs.declared.sort.Sort.{Sort}
use Rattle.qv_words.specs.declared.sort.Sort.TheVariants.{Bool as BoolSort}
use Rattle.qv_words.specs.declared.op.Op.{Op}
use Rattle.qv_words.specs.declared.op.Answer.TheVariants.{Sat}
use Rattle.qv_words.specs.Sort.{IsLawful}
use Rattle.qv_words.specs.Tree.{Tree, Trees, Variable, Literal, Apply, tree_sort, AreQuantifierFree}
use Rattle.qv_words.specs.Sorted.{AreSortedBelow, no_levels, constants_of_all, free_levels, free_levels_of_all}
use Rattle.qv_words.specs.Problem.{Problem, Place, Quantifier, Existential, Universal}
use Rattle.qv_words.specs.GameLaws.{IsProblem}
use Rattle.qv_words.specs.Skolem.{SkolemTerm, SkolemOk, IsSkolemTerm, IsTermOf, IsEarlierUniversal, term_of}
use Rattle.qv_words.specs.Expansion.{sort_at}
use Rattle.qv_words.proofs.Leaves.{both}
use Rattle.qv_cert.specs.Line.{CertLine, Header, Check, VariableNode, EigenNode, LiteralNode, OperatorNode, Skolem, Instance, Eigen, Rewrite, Lrat, Step, End}
use Rattle.qv_cert.specs.Grammar.{cert_line}
use Rattle.qv_cert.specs.Listed.{Listed, nothing, node_numbered, tree_of_node, trees_of_nodes, listing, listed_behind}
use Rattle.qv_cert.specs.Faults.{first_fit, faults_of, belongs, is_node, is_place, is_universal, is_existential, has_rank, lacks_from, lacks_term}
use Rattle.qv_cert.specs.FaultLaws.{IsTermLine}
use Rattle.qv_cert.specs.Shown.{HaveNoFault, AreRead}
use Rattle.qv_cert.specs.SoFar.{IsNodeTree, IsUniversalLeaf, IsSatSoFar}
use Rattle.qv_cert.proofs.Pinned.{clear, passes, there, term-line, is-quantified}
use Rattle.qv_cert.proofs.Ranges.{HasValue, read-value}
use Rattle.std.proofs.lemmas.Bool.{and_parts, or_parts}

-- an element of a list
pub nth : {A : Type 0} (P : A → Type 0) (xs : List A) (k : ℕ) (x : A) → All P xs → slice_get xs k ≡ Some x → P x
nth P xs k x h e = subst P (get_or_from_slice_get xs k x x e) (h k x (slice_get_within xs k x e))

pub record AreNodeTrees (Free : ℕ × Sort → Type 0) (ts : Trees) : Type 0 where
  pub sorted : AreSortedBelow no_levels ts
  pub quantifier_free : AreQuantifierFree ts
  pub constant_free : constants_of_all ts ≡ []
  pub free : AllByRecursion Free (free_levels_of_all ts)

pub node-found : (Free : ℕ × Sort → Type 0) (l : Listed) (k : ℕ) (t : Tree) → All (IsNodeTree Free) l.nodes → node_numbered l k ≡ Some t → IsNodeTree Free t
node-found Free l zero t h e = absurd cc
node-found Free l (suc k) t h e = nth (IsNodeTree Free) l.nodes k t h e

pub node-tree : (Free : ℕ × Sort → Type 0) (l : Listed) (k : ℕ) → All (IsNodeTree Free) l.nodes → is_node l k ≡ true → IsNodeTree Free (tree_of_node l k)
node-tree Free l k h e =
    let found = there (node_numbered l k) e in
    let same : found.0 ≡ tree_of_node l k = sym (ap (λ (o : Option Tree). unwrap_or o (Literal BoolSort 0)) found.1) in
    subst (IsNodeTree Free) same (node-found Free l k found.0 h found.1)

node-trees : (Free : ℕ × Sort → Type 0) (l : Listed) (ks : List ℕ) → All (IsNodeTree Free) l.nodes → list_all (is_node l) ks ≡ true → AreNodeTrees Free (trees_of_nodes l ks)
node-trees Free l [] h e = record { sorted = tt; quantifier_free = tt; constant_free = refl; free = tt }
node-trees Free l (k ∷ ks) h e =
    let parts = and_parts (is_node l k) (list_all (is_node l) ks) e in
    let first = node-tree Free l k h parts.0 in
    let others = node-trees Free l ks h parts.1 in
    record {
      sorted = (first.sorted, others.sorted);
      quantifier_free = (first.quantifier_free, others.quantifier_free);
      constant_free = ap (λ (cs : List (ℕ × Sort)). cs ++ constants_of_all (trees_of_nodes l ks)) first.constant_free ∙ others.constant_free;
      free = both Free (free_levels (tree_of_node l k)) (free_levels_of_all (trees_of_nodes l ks)) first.free others.free;
    }

-- an application's node, and a literal's
pub application-node : (Free : ℕ × Sort → Type 0) (l : Listed) (o : Op) (ks : List ℕ) → All (IsNodeTree Free) l.nodes → list_all (is_node l) ks ≡ true
    → has_rank (Apply o (trees_of_nodes l ks)) ≡ true → IsNodeTree Free (Apply o (trees_of_nodes l ks))
application-node Free l o ks h e rank =
    let below = node-trees Free l ks h e in
    record { sorted = (below.sorted, rank); quantifier_free = below.quantifier_free; constant_free = below.constant_free; free = below.free }

-- a variable's node
pub variable-node : (Free : ℕ × Sort → Type 0) (k : ℕ) (s : Sort) → IsLawful s → Free (k, s) → IsNodeTree Free (Variable k s)
variable-node Free k s lawful free = record { sorted = (lawful, tt); quantifier_free = tt; constant_free = refl; free = (free, tt) }

-- the sort at a place
pub sort-there : (p : Problem) (j : ℕ) (place : Place) → slice_get p.prefix j ≡ Some place → sort_at p j ≡ place.sort
sort-there p j place e = rw e refl

-- ---- sat sections

with-a-node : (p : Problem) (l : Listed) (t : Tree) → IsSatSoFar p l → IsNodeTree (IsUniversalLeaf p) t → IsSatSoFar p (record { nodes = l.nodes ++ t ∷ []; terms = l.terms; lines = l.lines })
with-a-node p l t h node = record { nodes = All-push (IsNodeTree (IsUniversalLeaf p)) l.nodes t h.nodes node; each = h.each; once = h.once }

-- what is there
pub place-found : (P : Place → Type 0) (o : Option Place) → IsSomeAnd o P → (place : Place) × (o ≡ Some place) × P place
place-found P None h = absurd h
place-found P (Some place) h = (place, refl, h)

pub place-back : (P : Place → Type 0) (o : Option Place) (place : Place) → o ≡ Some place → P place → IsSomeAnd o P
place-back P o place e h = subst (λ (x : Option Place). IsSomeAnd x P) (sym e) h

-- a place without a term is none of those before
no-term : (terms : List SkolemTerm) (j : ℕ) → term_of terms j ≡ None → All (λ s. s.place ≢ j) terms
no-term terms j e = All-from_recursion (λ s. s.place ≢ j) terms (go terms e)
  where
    differs : (a b : ℕ) → (a == b) ≡ false → a ≢ b
    differs a b e is = grind (arith, nat_tests)

    first : (b : Bool) (t : Tree) (others : Option Tree) → cond b (Some t) others ≡ None → (b ≡ false) × (others ≡ None)
    first true t others e = absurd cc
    first false t others e = (refl, e)

    go : (ts : List SkolemTerm) → term_of ts j ≡ None → AllByRecursion (λ s. s.place ≢ j) ts
    go [] e = tt
    go (s ∷ ts) e = let parts = first (s.place == j) s.term (term_of ts j) e in (differs s.place j parts.0, go ts parts.1)

-- two facts of each element
paired : {A : Type 0} (P Q : A → Type 0) (xs : List A) → AllByRecursion P xs → AllByRecursion Q xs → AllByRecursion (λ x. P x × Q x) xs
paired P Q [] h k = tt
paired P Q (x ∷ xs) h k = ((h.0, k.0), paired P Q xs h.1 k.1)

-- a node's tree of the right sort that depends on universals before
skolem-term : (p : Problem) (l : Listed) (place node : ℕ) → IsSatSoFar p l → IsTermLine p l place node → IsSkolemTerm p (record { place = place; term = tree_of_node l node })
skolem-term p l place node h line =
    let own = node-found (IsUniversalLeaf p) l node line.term h.nodes line.node_is in
    let same : line.term ≡ tree_of_node l node = sym (ap (λ (o : Option Tree). unwrap_or o (Literal BoolSort 0)) line.node_is) in
    let found = place-found (λ q. (q.quantifier ≡ Existential) × (tree_sort line.term ≡ Some q.sort)) (slice_get p.prefix place) line.place_is in
    let term : IsTermOf line.term found.0.sort =
    record { sorted = own.sorted; sort = found.2.1; quantifier_free = own.quantifier_free; constant_free = own.constant_free }
    in
    let earlier : All (IsEarlierUniversal p place) (free_levels line.term) =
    All-from_recursion (IsEarlierUniversal p place) (free_levels line.term)
    (paired (λ leaf. leaf.0 < place) (IsUniversalLeaf p) (free_levels line.term) (recursion_from_All (λ leaf. leaf.0 < place) (free_levels line.term) line.before) own.free)
    in
    subst (λ (t : Tree). IsSkolemTerm p (record { place = place; term = t })) same
    (place-back (λ q. (q.quantifier ≡ Existential) × IsTermOf line.term q.sort) (slice_get p.prefix place) found.0 found.1 (found.2.0, term), earlier)

pub sat-line : (p : Problem) (l : Listed) (line : CertLine) → IsProblem p → IsSatSoFar p l → IsTrue (belongs Sat line) → HasValue line → first_fit (faults_of p l line) ≡ None
    → IsSatSoFar p (listing p l line)
sat-line p l (VariableNode node place) problem h belong value e =
    let c = clear (faults_of p l (VariableNode node place)) e in
    let found = place-found (λ q. q.quantifier ≡ Universal) (slice_get p.prefix place) (is-quantified Universal (slice_get p.prefix place) (passes (is_place is_universal p place) c.1.0)) in
    let same : sort_at p place ≡ found.0.sort = sort-there p place found.0 found.1 in
    let lawful : IsLawful (sort_at p place) = subst IsLawful (sym same) (nth (λ q. IsLawful q.sort) p.prefix place found.0 problem.sorts found.1) in
    let free : IsUniversalLeaf p (place, sort_at p place) = place-back (λ q. (q.quantifier ≡ Universal) × (q.sort ≡ sort_at p place)) (slice_get p.prefix place) found.0 found.1 (found.2, sym same) in
    with-a-node p l (Variable place (sort_at p place)) h (variable-node (IsUniversalLeaf p) place (sort_at p place) lawful free)
sat-line p l (LiteralNode node s n) problem h belong value e =
    with-a-node p l (Literal s n) h (record { sorted = value; quantifier_free = tt; constant_free = refl; free = tt })
sat-line p l (OperatorNode node o children) problem h belong value e =
    let c = clear (faults_of p l (OperatorNode node o children)) e in
    with-a-node p l (Apply o (trees_of_nodes l children)) h
    (application-node (IsUniversalLeaf p) l o children h.nodes (passes (list_all (is_node l) children) c.1.0) (passes (has_rank (Apply o (trees_of_nodes l children))) c.1.1.0))
sat-line p l (Skolem place node) problem h belong value e =
    let line = term-line p l place node e in
    let new : SkolemTerm = record { place = place; term = tree_of_node l node } in
    record {
      nodes = h.nodes;
      each = All-push (IsSkolemTerm p) l.terms new h.each (skolem-term p l place node h line);
      once = all_pairs_push (λ (s t : SkolemTerm). s.place ≢ t.place) l.terms new h.once (λ k d lt. no-term l.terms place line.first k d lt);
    }
sat-line p l (Header version) problem h belong value e = h
sat-line p l (Check number answer) problem h belong value e = h
sat-line p l (EigenNode node line) problem h belong value e = absurd cc
sat-line p l (Instance line parent node) problem h belong value e = absurd cc
sat-line p l (Eigen line parent) problem h belong value e = absurd cc
sat-line p l (Rewrite q) problem h belong value e = h
sat-line p l Lrat problem h belong value e = h
sat-line p l (Step line) problem h belong value e = h
sat-line p l End problem h belong value e = h

-- lines that list, one after the other
sat-lines : (p : Problem) (l : Listed) (given : List CertLine) → IsProblem p → IsSatSoFar p l → AllByRecursion (λ line. IsTrue (belongs Sat line)) given → AllByRecursion HasValue given → HaveNoFault p l given
    → IsSatSoFar p (listed_behind p l given)
sat-lines p l [] problem h belong values clean = h
sat-lines p l (line ∷ given) problem h belong values clean =
    sat-lines p (listing p l line) given problem (sat-line p l line problem h belong.0 values.0 clean.0) belong.1 values.1 clean.1

-- the literals of lines that are read
pub values-read : (texts : List (List ℕ)) (lines : List CertLine) → AreRead false texts lines → AllByRecursion HasValue lines
values-read [] [] e = tt
values-read [] (line ∷ lines) e = absurd cc
values-read (text ∷ texts) [] e = absurd cc
values-read (text ∷ texts) (line ∷ lines) e =
    let first : cert_line false text ≡ Ok line = cc in
    let others : AreRead false texts lines = cc in
    (read-value text line first, values-read texts lines others)

has-term : (q : Quantifier) (b : Bool) → q ≡ Existential → (is_existential q && not b) ≡ false → b ≡ true
has-term Existential true is e = refl
has-term Existential false is e = absurd cc
has-term Universal b is e = absurd cc

none-lacks : (l : Listed) (start : ℕ) (places : List Place) (j k : ℕ) → lacks_from l start places ≡ false → k ≡ start + j
    → IsSomeAnd (slice_get places j) (λ place. place.quantifier ≡ Existential) → IsSome (term_of l.terms k)
none-lacks l start [] j k e is h = absurd h
none-lacks l start (place ∷ places) zero k e is h =
    let parts = or_parts (is_existential place.quantifier && not (is_some (term_of l.terms start))) (lacks_from l (suc start) places) e in
    let same : start ≡ k = omega (arith, is) in
    subst (λ (i : ℕ). IsSome (term_of l.terms i)) same (has-term place.quantifier (is_some (term_of l.terms start)) h parts.0)
none-lacks l start (place ∷ places) (suc j) k e is h =
    let parts = or_parts (is_existential place.quantifier && not (is_some (term_of l.terms start))) (lacks_from l (suc start) places) e in
    none-lacks l (suc start) places j k parts.1 (omega (arith, is)) h

pub sat-start : (p : Problem) → IsSatSoFar p nothing
sat-start p = record { nodes = All-nil (IsNodeTree (IsUniversalLeaf p)); each = All-nil (IsSkolemTerm p); once = no-pairs }
  where
    no-pairs : AllPairs (λ (s t : SkolemTerm). s.place ≢ t.place) []
    no-pairs = λ i j d less none same. absurd (omega (arith, none))

pub sat-section : (p : Problem) (given : List CertLine) → IsProblem p → AllByRecursion (λ line. IsTrue (belongs Sat line)) given → AllByRecursion HasValue given → HaveNoFault p nothing given
    → lacks_term p (listed_behind p nothing given) ≡ false → SkolemOk p (listed_behind p nothing given).terms
sat-section p given problem belong values clean complete =
    let h = sat-lines p nothing given problem (sat-start p) belong values clean in
    record { each = h.each; once = h.once; all = λ j is. none-lacks (listed_behind p nothing given) 0 p.prefix j j complete (omega arith) is }
