-- Lines behind lines.
use Rattle.std.proofs.Common.{◌≡◌, ℕ, suc, ◌+◌, ◌<◌, ◌≤◌, Some, List, [], ◌∷◌, ◌++◌, length, take, drop, get_or, slice_get, refl, sym, ap, ◌∙◌, append_assoc, arith}
use Rattle.std.proofs.lemmas.List.{length-map}
use Rattle.std.proofs.lemmas.Option.{slice_get-get_or}
use Rattle.qv_words.specs.declared.op.Answer.{Answer}
use Rattle.qv_words.specs.declared.op.Answer.TheVariants.{Sat, Unsat}
use Rattle.qv_words.specs.Tree.{Tree}
use Rattle.qv_words.specs.Clauses.{with_nodes}
use Rattle.qv_words.specs.Skolem.{SkolemTerm}
use Rattle.qv_words.specs.Expansion.{ExpansionLine}
use Rattle.qv_words.specs.Expansion.{Instance as InstanceOf}
use Rattle.qv_words.proofs.Elements.{dropped-at, dropped-none, get-map, take-one}
use Rattle.qv_words.proofs.NewNodes.{nil-behind}
use Rattle.qv_store.specs.Nodes.{tree_at}
use Rattle.qv_store.specs.Walks.{IsBehind, named}
use Rattle.qv_cert.specs.Line.{CertLine, Instance, Skolem}
use Rattle.qv_solve_write_laws.specs.Writing.{expansion_lines, node_line, node_lines, number_of, term_lines, tree_lines}

pub one-behind : {A : Type 0} (xs ys zs : List A) (x : A) → ((xs ++ ys) ++ x ∷ []) ++ zs ≡ xs ++ (ys ++ x ∷ zs)
one-behind xs ys zs x = append_assoc (xs ++ ys) (x ∷ []) zs ∙ append_assoc xs ys (x ∷ zs)

-- ---- the nodes of a walk from a place on

pub place-tree : (trees : List Tree) (ids : List ℕ) (place : ℕ) → place < length ids → slice_get (named trees ids) place ≡ Some (tree_at trees (get_or ids place 0))
place-tree trees ids place h = get-map (tree_at trees) ids place (get_or ids place 0) (slice_get-get_or ids place 0 h)

pub nodes-next : (answer : Answer) (all : List Tree) (place : ℕ) (t : Tree) → slice_get all place ≡ Some t →
    node_lines answer (take place all) (drop place all) ≡ node_line answer (take place all) t ∷ node_lines answer (take (suc place) all) (drop (suc place) all)
nodes-next answer all place t at =
    ap (node_lines answer (take place all)) (dropped-at all place t at)
    ∙ ap (λ (us : List Tree). node_line answer (take place all) t ∷ node_lines answer us (drop (suc place) all)) (sym (take-one all place t at))

-- one more line
pub lines-next : (answer : Answer) (trees : List Tree) (ids : List ℕ) (place next : ℕ) (line : CertLine) (before after whole : List CertLine) → place < length ids → next ≡ place + 1 →
    line ≡ node_line answer (take place (named trees ids)) (tree_at trees (get_or ids place 0)) → after ≡ before ++ line ∷ [] →
    before ++ node_lines answer (take place (named trees ids)) (drop place (named trees ids)) ≡ whole →
    after ++ node_lines answer (take next (named trees ids)) (drop next (named trees ids)) ≡ whole
lines-next answer trees ids place next line before after whole h counted is pushed e =
    let all = named trees ids in
    let t = tree_at trees (get_or ids place 0) in
    let count : next ≡ suc place = omega (arith, counted) in
    ap (λ (xs : List CertLine). xs ++ node_lines answer (take next all) (drop next all)) (pushed ∙ ap (λ (x : CertLine). before ++ x ∷ []) is)
    ∙ append_assoc before (node_line answer (take place all) t ∷ []) (node_lines answer (take next all) (drop next all))
    ∙ ap (λ n. before ++ node_line answer (take place all) t ∷ node_lines answer (take n all) (drop n all)) count
    ∙ ap (λ (xs : List CertLine). before ++ xs) (sym (nodes-next answer all place t (place-tree trees ids place h)))
    ∙ e

pub lines-end : (answer : Answer) (trees : List Tree) (ids : List ℕ) (place : ℕ) (lines whole : List CertLine) → length ids ≤ place →
    lines ++ node_lines answer (take place (named trees ids)) (drop place (named trees ids)) ≡ whole → lines ≡ whole
lines-end answer trees ids place lines whole h e =
    let all = named trees ids in
    nil-behind lines
    ∙ ap (λ (us : List Tree). lines ++ node_lines answer (take place all) us) (sym (dropped-none all place (omega (arith, h, length-map ids (tree_at trees)))))
    ∙ e

-- the new nodes of a tree are those from there on
pub new-lines : (answer : Answer) (trees : List Tree) (old new : List ℕ) (t : Tree) (known : ℕ) → known ≡ length old → IsBehind old new → named trees new ≡ with_nodes (named trees old) t →
    node_lines answer (take known (named trees new)) (drop known (named trees new)) ≡ tree_lines answer (named trees old) t
new-lines answer trees old new t known count behind e =
    let front : take known (named trees new) ≡ named trees old =
    ap (λ (ns : List ℕ). take known (named trees ns)) behind.behind ∙ both old behind.more known count in
    ap (λ (us : List Tree). node_lines answer us (drop known (named trees new))) front
    ∙ ap (λ n. node_lines answer (named trees old) (drop n (named trees new))) (count ∙ sym (length-map old (tree_at trees)))
    ∙ ap (λ (us : List Tree). node_lines answer (named trees old) (drop (length (named trees old)) us)) e
  where
    both : (xs ys : List ℕ) (n : ℕ) → n ≡ length xs → take n (named trees (xs ++ ys)) ≡ named trees xs
    both [] ys n h = ap (λ k. take k (named trees ys)) h
    both (x ∷ xs) ys n h = ap (λ k. take k (named trees (x ∷ xs ++ ys))) h ∙ ap (λ (us : List Tree). tree_at trees x ∷ us) (both xs ys (length xs) refl)

-- ---- terms, and lines of an expansion list

pub term-written : (nodes known last : List Tree) (s : SkolemTerm) (node : ℕ) (rest : List SkolemTerm) (before between after : List CertLine) →
    known ≡ with_nodes nodes s.term → last ≡ known → node ≡ number_of known s.term → between ≡ before ++ tree_lines Sat nodes s.term → after ≡ between ++ Skolem s.place node ∷ [] →
    after ++ term_lines last rest ≡ before ++ term_lines nodes (s ∷ rest)
term-written nodes known last s node rest before between after k l n b a =
    ap (λ (xs : List CertLine). xs ++ term_lines last rest) (a ∙ ap (λ (xs : List CertLine). xs ++ Skolem s.place node ∷ []) b)
    ∙ one-behind before (tree_lines Sat nodes s.term) (term_lines last rest) (Skolem s.place node)
    ∙ ap (λ x. before ++ (tree_lines Sat nodes s.term ++ Skolem s.place x ∷ term_lines last rest)) n
    ∙ ap (λ (us : List Tree). before ++ (tree_lines Sat nodes s.term ++ Skolem s.place (number_of known s.term) ∷ term_lines us rest)) l
    ∙ ap (λ (us : List Tree). before ++ (tree_lines Sat nodes s.term ++ Skolem s.place (number_of us s.term) ∷ term_lines us rest)) k

pub instance-written : (nodes known last : List Tree) (line parent : ℕ) (t : Tree) (node : ℕ) (rest : List ExpansionLine) (before between after : List CertLine) →
    known ≡ with_nodes nodes t → last ≡ known → node ≡ number_of known t → between ≡ before ++ tree_lines Unsat nodes t → after ≡ between ++ Instance line parent node ∷ [] →
    after ++ expansion_lines (suc line) last rest ≡ before ++ expansion_lines line nodes (InstanceOf parent t ∷ rest)
instance-written nodes known last line parent t node rest before between after k l n b a =
    ap (λ (xs : List CertLine). xs ++ expansion_lines (suc line) last rest) (a ∙ ap (λ (xs : List CertLine). xs ++ Instance line parent node ∷ []) b)
    ∙ one-behind before (tree_lines Unsat nodes t) (expansion_lines (suc line) last rest) (Instance line parent node)
    ∙ ap (λ x. before ++ (tree_lines Unsat nodes t ++ Instance line parent x ∷ expansion_lines (suc line) last rest)) n
    ∙ ap (λ (us : List Tree). before ++ (tree_lines Unsat nodes t ++ Instance line parent (number_of known t) ∷ expansion_lines (suc line) us rest)) l
    ∙ ap (λ (us : List Tree). before ++ (tree_lines Unsat nodes t ++ Instance line parent (number_of us t) ∷ expansion_lines (suc line) us rest)) k
