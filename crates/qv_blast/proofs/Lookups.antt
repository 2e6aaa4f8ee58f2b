-- The bits of a tree, found by its term's place.
use Rattle.std.proofs.Common.{◌≡◌, ℕ, zero, suc, ◌+◌, ◌<◌, ◌≤◌, true, false, Option, Some, None, List, [], ◌∷◌, ◌++◌, map, length, get_or, take, refl, sym, ap, ◌∙◌, subst, arith}
use Rattle.std.specs.List.{slice_get}
use Rattle.qv_words.specs.Tree.{Tree}
use Rattle.qv_words.specs.Equality.{tree_eq}
use Rattle.qv_words.specs.Gate.{Lit}
use Rattle.qv_words.specs.Clauses.{Blasted, bits_of, bits_of_each}
use Rattle.qv_words.proofs.Equals.{tree_eq-is, tree_eq-refl}
use Rattle.std.specs.Prelude.{unwrap_or, is_some, nat_eq, Contains}
use Rattle.std.specs.List.{AllByRecursion, list_any}
use Rattle.std.proofs.lemmas.List.Elements.{recursion_from_All}
use Rattle.qv_words.specs.Clauses.{is_among}
use Rattle.qv_circuits_laws.proofs.Listed.{bits-among}
use Rattle.qv_store.specs.Stores.{AreShared}
use Rattle.qv_store.proofs.Visiting.{contains-test, met-seen}
use Rattle.std.proofs.lemmas.List.{length-map, map-append, take_all, take_more}
use Rattle.qv_cnf.specs.Literal.{Literal as CnfLiteral}
use Rattle.qv_circuits.specs.Adding.{lits_of}
use Rattle.qv_store.specs.Nodes.{tree_at, trees_at}
use Rattle.qv_store.specs.Walks.{named, IsFound, IsWalk}
use Rattle.qv_store.proofs.Passes.{named-at}
use Rattle.std.proofs.lemmas.Option.{slice_get_within}
use Rattle.qv_blast.specs.Blasters.{blasted_at, AreFound}
use Rattle.std.proofs.lemmas.Bool.{false_from_ne_true}

-- the trees that have bits
pub blasted-trees : (trees : List Tree) (ids : List ℕ) (bits : List (List CnfLiteral)) → length bits ≤ length ids → map (λ (k : Blasted). k.tree) (blasted_at trees ids bits) ≡ take (length bits) (named trees ids)
blasted-trees trees [] [] h = refl
blasted-trees trees [] (b ∷ bs) h = absurd (omega (arith, h))
blasted-trees trees (n ∷ ns) [] h = refl
blasted-trees trees (n ∷ ns) (b ∷ bs) h = ap (λ (r : List Tree). tree_at trees n ∷ r) (blasted-trees trees ns bs (omega (arith, h)))

pub blasted-length : (trees : List Tree) (ids : List ℕ) (bits : List (List CnfLiteral)) → length bits ≤ length ids → length (blasted_at trees ids bits) ≡ length bits
blasted-length trees [] [] h = refl
blasted-length trees [] (b ∷ bs) h = absurd (omega (arith, h))
blasted-length trees (n ∷ ns) [] h = refl
blasted-length trees (n ∷ ns) (b ∷ bs) h = ap suc (blasted-length trees ns bs (omega (arith, h)))

pub blasted-none : (trees : List Tree) (ids : List ℕ) → blasted_at trees ids [] ≡ []
blasted-none trees [] = refl
blasted-none trees (n ∷ ns) = refl

-- one more term with bits
pub blasted-more : (trees : List Tree) (ids : List ℕ) (bits : List (List CnfLiteral)) (b : List CnfLiteral) → length bits < length ids →
    blasted_at trees ids (bits ++ b ∷ []) ≡ blasted_at trees ids bits ++ record { tree = tree_at trees (get_or ids (length bits) 0); bits = lits_of b } ∷ []
blasted-more trees [] bits b h = absurd (omega (arith, h))
blasted-more trees (n ∷ ns) [] b h = ap (λ (r : List Blasted). record { tree = tree_at trees n; bits = lits_of b } ∷ r) (blasted-none trees ns)
blasted-more trees (n ∷ ns) (c ∷ cs) b h =
    ap (λ (r : List Blasted). record { tree = tree_at trees n; bits = lits_of c } ∷ r) (blasted-more trees ns cs b (omega (arith, h)))

-- more terms, none of which has bits
pub blasted-longer : (trees : List Tree) (ids more : List ℕ) (bits : List (List CnfLiteral)) → length bits ≤ length ids → blasted_at trees (ids ++ more) bits ≡ blasted_at trees ids bits
blasted-longer trees [] more [] h = blasted-none trees more
blasted-longer trees [] more (b ∷ bs) h = absurd (omega (arith, h))
blasted-longer trees (n ∷ ns) more [] h = refl
blasted-longer trees (n ∷ ns) more (b ∷ bs) h =
    ap (λ (r : List Blasted). record { tree = tree_at trees n; bits = lits_of b } ∷ r) (blasted-longer trees ns more bs (omega (arith, h)))

found-first : (trees : List Tree) (ids : List ℕ) (bits : List (List CnfLiteral)) (i n : ℕ) (b : List CnfLiteral) → slice_get ids i ≡ Some n → slice_get bits i ≡ Some b → ((k m : ℕ) → slice_get ids k ≡ Some m → tree_at trees m ≡ tree_at trees n → k ≡ i) →
    bits_of (blasted_at trees ids bits) (tree_at trees n) ≡ Some (lits_of b)
found-first trees [] bits i n b at there once = cc
found-first trees (m ∷ ms) [] i n b at there once = cc
found-first trees (m ∷ ms) (c ∷ cs) zero n b at there once =
    let same : m ≡ n = cc in
    let bits : c ≡ b = cc in
    let equal : tree_eq (tree_at trees n) (tree_at trees m) ≡ true = subst (λ (k : ℕ). tree_eq (tree_at trees n) (tree_at trees k) ≡ true) (sym same) (tree_eq-refl (tree_at trees n)) in
    rw equal (ap (λ (x : List CnfLiteral). Some (lits_of x)) bits)
found-first trees (m ∷ ms) (c ∷ cs) (suc i) n b at there once =
    let other : tree_eq (tree_at trees n) (tree_at trees m) ≡ false = false_from_ne_true (tree_eq (tree_at trees n) (tree_at trees m)) (λ e. let none : 0 ≡ suc i = once 0 m refl (sym (tree_eq-is (tree_at trees n) (tree_at trees m) e)) in omega (arith, none)) in
    rw other (found-first trees ms cs i n b at there (λ k l h e. let next : suc k ≡ suc i = once (suc k) l h e in omega (arith, next)))

-- what is found for a term of a walk stands at its place
pub found-bits : (trees : List Tree) (ids : List ℕ) (bits : List (List CnfLiteral)) (n : ℕ) (b : List CnfLiteral) → IsWalk trees ids → IsFound ids bits n b → bits_of (blasted_at trees ids bits) (tree_at trees n) ≡ Some (lits_of b)
found-bits trees ids bits n b walk f =
    let long = length-map ids (tree_at trees) in
    let here = slice_get_within ids f.place n f.at in
    found-first trees ids bits f.place n b f.at f.found (λ k m at e.
    let there = slice_get_within ids k m at in
    walk.shared.once k f.place (omega (arith, there, long)) (omega (arith, here, long)) (named-at trees ids k m at ∙ e ∙ sym (named-at trees ids f.place n f.at)))

-- and so for each of some terms
pub found-each : (trees : List Tree) (ids : List ℕ) (bits : List (List CnfLiteral)) (kids : List ℕ) (args : List (List CnfLiteral)) → IsWalk trees ids → AreFound ids bits kids args →
    bits_of_each (blasted_at trees ids bits) (trees_at trees kids) ≡ map lits_of args
found-each trees ids bits [] [] walk f = refl
found-each trees ids bits [] (a ∷ args) walk f = absurd f
found-each trees ids bits (k ∷ ks) [] walk f = absurd f
found-each trees ids bits (k ∷ ks) (a ∷ args) walk f =
    let first : unwrap_or (bits_of (blasted_at trees ids bits) (tree_at trees k)) [] ≡ lits_of a = ap (λ o. unwrap_or o []) (found-bits trees ids bits k a walk f.0) in
    ap (λ (x : List Lit). x ∷ bits_of_each (blasted_at trees ids bits) (trees_at trees ks)) first ∙ ap (λ (r : List (List Lit)). lits_of a ∷ r) (found-each trees ids bits ks args walk f.1)

-- one more
pub found-more : (ids : List ℕ) (bits : List (List CnfLiteral)) (kids : List ℕ) (args : List (List CnfLiteral)) (k : ℕ) (a : List CnfLiteral) → AreFound ids bits kids args → IsFound ids bits k a → AreFound ids bits (kids ++ k ∷ []) (args ++ a ∷ [])
found-more ids bits [] [] k a h f = (f, tt)
found-more ids bits [] (b ∷ bs) k a h f = absurd h
found-more ids bits (j ∷ js) [] k a h f = absurd h
found-more ids bits (j ∷ js) (b ∷ bs) k a h f = (h.0, found-more ids bits js bs k a h.1 f)

pub fused : {A B C : Type 0} (g : B → C) (f : A → B) (xs : List A) → map g (map f xs) ≡ map (λ x. g (f x)) xs
fused g f [] = refl
fused {A} {B} {C} g f (x ∷ xs) = ap (λ (r : List C). g (f x) ∷ r) (fused g f xs)

pub found-turn : {A : Type 0} (f : A → List CnfLiteral) (ids : List ℕ) (bits : List (List CnfLiteral)) (kids : List ℕ) (i kid : ℕ) (args : List A) (a : A) (v : List CnfLiteral) → i < length kids → kid ≡ get_or kids i kid → AreFound ids bits (take i kids) (map f args) → IsFound ids bits kid v → f a ≡ v →
    AreFound ids bits (take (i + 1) kids) (map f (args ++ a ∷ []))
found-turn f ids bits kids i kid args a v h e done found same =
    let more : take (i + 1) kids ≡ take i kids ++ kid ∷ [] = take_more kids i kid h ∙ ap (λ (k : ℕ). take i kids ++ k ∷ []) (sym e) in
    let last : IsFound ids bits kid (f a) = subst (IsFound ids bits kid) (sym same) found in
    rw (more, map-append f args (a ∷ [])) (found-more ids bits (take i kids) (map f args) kid (f a) done last)

-- where a term isn't in a walk that has its bits, nothing is found for its tree
none-is : {A : Type 0} (o : Option A) → is_some o ≡ false → o ≡ None
none-is None e = refl
none-is (Some x) e = cc

pub bits-none : (trees : List Tree) (ids : List ℕ) (bits : List (List CnfLiteral)) (n : ℕ) → AreShared trees → IsWalk trees ids → length bits ≡ length ids → n < length trees → (Contains ids n → ⊥) → bits_of (blasted_at trees ids bits) (tree_at trees n) ≡ None
bits-none trees ids bits n shared walk all low not =
    let few : length bits ≤ length ids = omega (arith, all) in
    let whole : take (length bits) (named trees ids) ≡ named trees ids = take_all (length bits) (named trees ids) (omega (arith, all, length-map ids (tree_at trees))) in
    let seen : map (λ (k : Blasted). k.tree) (blasted_at trees ids bits) ≡ named trees ids = blasted-trees trees ids bits few ∙ whole in
    let within : AllByRecursion (λ m. m < length trees) ids = recursion_from_All (λ m. m < length trees) ids walk.within in
    let met : list_any (nat_eq n) ids ≡ is_among (named trees ids) (tree_at trees n) = met-seen trees shared ids within n low in
    let among : is_some (bits_of (blasted_at trees ids bits) (tree_at trees n)) ≡ list_any (nat_eq n) ids =
    bits-among (blasted_at trees ids bits) (tree_at trees n) ∙ ap (λ (ts : List Tree). is_among ts (tree_at trees n)) seen ∙ sym met in
    let test = contains-test n ids (list_any (nat_eq n) ids) refl in
    none-is _ (among ∙ false_from_ne_true (list_any (nat_eq n) ids) (λ e. not (test.0 e)))
