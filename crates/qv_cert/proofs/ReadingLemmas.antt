-- The parts of a line, as code reads them, are those of the grammar.
use Rattle.std.proofs.Common.{◌≡◌, ℕ, ◌<◌, ◌≤◌, Bool, true, false, cond, List, [], ◌∷◌, Option, Some, None, refl, sym, ap, subst, ◌∙◌, arith, codes}
use Rattle.std.specs.Prelude.{◌↔◌, nat_le, nat_lt, Result, Ok, Err, IfOk, IfErr}
use Rattle.std.specs.Result.{result_ok}
use Rattle.std.specs.Str.{bytes_eq}
use Rattle.std.proofs.lemmas.Bool.Decides.{nat_tests}
use Rattle.qv_words.specs.declared.sort.Sort.{Sort}
use Rattle.qv_words.specs.declared.op.Op.{Op}
use Rattle.qv_words.specs.Sort.{IsValueOf, size_of}
use Rattle.qv_sorts.specs.declared.operators.NameFault.{NameFault}
use Rattle.qv_sorts.specs.Names.{IsNamed}
use Rattle.qv_sorts.specs.Search.{indexed_operator}
use Rattle.qv_sorts.proofs.Searching.{operators-are-found}
use Rattle.qv_lrat_text.specs.Grammar.{◌>>=◌, id_of, behind_id, line_of_words}
use Rattle.qv_lrat_text.proofs.Ranges.{bind_some, some_is}
use Rattle.qv_cert.specs.declared.kind.RefusalKind.TheVariants as kind
use Rattle.qv_cert.specs.declared.fault.CertLineFault.{CertLineFault}
use Rattle.qv_cert.specs.declared.keyword.Keyword.TheVariants as keyword
use Rattle.qv_cert.specs.Line.{Step, CertLine, LiteralNode, End, IsCertLine}
use Rattle.qv_cert.specs.Grammar.{Reading, number, large_number, numbers, sort_of_width, literal_node, at_colon, operator_node, application, read, node_line, node, behind_word, formed, inner_line, lrat_step, cert_line}
use Rattle.qv_cnf.specs.LratLine.{LratLine}
use Rattle.qv_cert.proofs.Ranges.{read-lines-are-cert-lines}
use Rattle.qv_cert.specs.Reading.{Gives, Fails, or_form, first_number, numbers_to_colon, keyword_named, behind_keyword, is_end}

-- ---- literals

pub too_wide : (k w v : ℕ) → 128 < w → literal_node k w v ≡ Err kind.Literal
too_wide k w v h =
    let e : nat_le w 128 ≡ false = wide w h in
    rw e refl
  where
    wide : (w : ℕ) → 128 < w → nat_le w 128 ≡ false
    wide w h = grind (arith, nat_tests)

by_value : (k w v : ℕ) → w ≤ 128 → literal_node k w v ≡ cond (nat_lt v (size_of (sort_of_width w))) (Ok (LiteralNode k (sort_of_width w) v)) (Err kind.Literal)
by_value k w v h =
    let e : nat_le w 128 ≡ true = narrow w h in
    rw e refl
  where
    narrow : (w : ℕ) → w ≤ 128 → nat_le w 128 ≡ true
    narrow w h = grind (arith, nat_tests)

pub no_value : (k w v : ℕ) (s : Sort) → w ≤ 128 → s ≡ sort_of_width w → (IsValueOf v s → ⊥) → literal_node k w v ≡ Err kind.Literal
no_value k w v s h e not =
    let outside : nat_lt v (size_of (sort_of_width w)) ≡ false = above v (size_of (sort_of_width w)) (subst (λ (t : Sort). IsValueOf v t → ⊥) e not) in
    by_value k w v h ∙ rw outside refl
  where
    above : (v n : ℕ) → (v < n → ⊥) → nat_lt v n ≡ false
    above v n h = grind (arith, nat_tests)

pub a_value : (k w v : ℕ) (s : Sort) → w ≤ 128 → s ≡ sort_of_width w → IsValueOf v s → literal_node k w v ≡ Ok (LiteralNode k s v)
a_value k w v s h e is =
    let inside : nat_lt v (size_of (sort_of_width w)) ≡ true = below v (size_of (sort_of_width w)) (subst (λ (t : Sort). IsValueOf v t) e is) in
    by_value k w v h ∙ ap (λ (b : Bool). cond b (Ok (LiteralNode k (sort_of_width w) v)) (Err kind.Literal)) inside ∙ ap (λ (t : Sort). Ok (LiteralNode k t v)) (sym e)
  where
    below : (v n : ℕ) → v < n → nat_lt v n ≡ true
    below v n h = grind (arith, nat_tests)

-- ---- applications

pub named_operator : (name indices : List ℕ) (r : Result Op NameFault) → ((op : Op) → (r ≡ Ok op) ↔ IsNamed name indices op) → indexed_operator name indices ≡ result_ok r
named_operator name indices (Ok op) h = (operators-are-found name indices op).1 ((h op).0 refl)
named_operator name indices (Err f) h = none (indexed_operator name indices) refl
  where
    none : (o : Option Op) → indexed_operator name indices ≡ o → o ≡ None
    none None e = refl
    none (Some op) e = let same : Err f ≡ Ok op = (h op).1 ((operators-are-found name indices op).0 e) in absurd cc

form_some : {A : Type 0} (o : Option A) (x : A) → or_form o ≡ Ok x → o ≡ Some x
form_some None x e = absurd cc
form_some (Some y) x e = cc

abbrev behind_indices : List ℕ → List (List ℕ) → Option (List ℕ × List (List ℕ))
behind_indices ns behind = Some (ns, behind)

pub applied : (k : ℕ) (name : List ℕ) (others behind : List (List ℕ)) (indices kids : List ℕ)
    → or_form (numbers_to_colon others) ≡ Ok (indices, behind) → or_form (numbers number behind) ≡ Ok kids
    → formed (application k (name ∷ others)) ≡ operator_node k kids (indexed_operator name indices)
applied k name others behind indices kids e f =
    let pair : List ℕ × List (List ℕ) = (indices, behind) in
    let both = form_some (numbers_to_colon others) pair e in
    let found = bind_some (at_colon others) (λ f. numbers large_number f.0 >>= λ ns. behind_indices ns f.1) pair both in
    let read = bind_some (numbers large_number found.0.0) (λ ns. behind_indices ns found.0.1) pair found.2 in
    let made : List ℕ × List (List ℕ) = (read.0, found.0.1) in
    let same : made ≡ pair = some_is (Some made) made pair refl read.2 in
    let here : read.0 ≡ indices = ap (λ (p : List ℕ × List (List ℕ)). p.0) same in
    let there : found.0.1 ≡ behind = ap (λ (p : List ℕ × List (List ℕ)). p.1) same in
    let known : numbers large_number found.0.0 ≡ Some indices = read.1 ∙ ap (λ (ns : List ℕ). Some ns) here in
    let left : numbers number found.0.1 ≡ Some kids = ap (numbers number) there ∙ form_some (numbers number behind) kids f in
    rw (found.1, known, left) refl

-- ---- words

abbrev number_and : ℕ → List (List ℕ) → Option (ℕ × List (List ℕ))
number_and n ws = Some (n, ws)

pub node_first : (ws others : List (List ℕ)) (k : ℕ) → first_number ws ≡ Some (k, others) → node ws ≡ node_line k others
node_first [] others k e = absurd cc
node_first (word ∷ ws) others k e =
    let pair : ℕ × List (List ℕ) = (k, others) in
    let b = bind_some (number word) (λ n. number_and n ws) pair e in
    let made : ℕ × List (List ℕ) = (b.0, ws) in
    let same : made ≡ pair = some_is (Some made) made pair refl b.2 in
    let here : b.0 ≡ k = ap (λ (p : ℕ × List (List ℕ)). p.0) same in
    let there : ws ≡ others = ap (λ (p : ℕ × List (List ℕ)). p.1) same in
    rw b.1 (ap (λ (n : ℕ). node_line n ws) here ∙ ap (node_line k) there)

pub by_keyword : (first : List ℕ) (others : List (List ℕ)) → behind_word first others ≡ (keyword_named first >>= λ k. behind_keyword k others)
unfolding keyword_named
by_keyword first others =
    go (bytes_eq first (codes "qbv-cert")) (bytes_eq first (codes "check")) (bytes_eq first (codes "n")) (bytes_eq first (codes "s")) (bytes_eq first (codes "i")) (bytes_eq first (codes "e")) (bytes_eq first (codes "w")) (bytes_eq first (codes "lrat")) (bytes_eq first (codes "end"))
  where
    go : (a b c d e f g h i : Bool) →
        cond a (behind_keyword keyword.Header others) (cond b (behind_keyword keyword.Check others) (cond c (behind_keyword keyword.Node others) (cond d (behind_keyword keyword.Skolem others)
        (cond e (behind_keyword keyword.Instance others) (cond f (behind_keyword keyword.Eigen others) (cond g (behind_keyword keyword.Rewrite others) (cond h (behind_keyword keyword.Lrat others)
        (cond i (behind_keyword keyword.End others) None))))))))
        ≡ (cond a (Some keyword.Header) (cond b (Some keyword.Check) (cond c (Some keyword.Node) (cond d (Some keyword.Skolem)
        (cond e (Some keyword.Instance) (cond f (Some keyword.Eigen) (cond g (Some keyword.Rewrite) (cond h (Some keyword.Lrat)
        (cond i (Some keyword.End) None)))))))) >>= λ k. behind_keyword k others)
    go true b c d e f g h i = refl
    go false true c d e f g h i = refl
    go false false true d e f g h i = refl
    go false false false true e f g h i = refl
    go false false false false true f g h i = refl
    go false false false false false true g h i = refl
    go false false false false false false true h i = refl
    go false false false false false false false true i = refl
    go false false false false false false false false true = refl
    go false false false false false false false false false = refl

pub at_end : (ws : List (List ℕ)) → is_end ws ≡ true → inner_line ws ≡ Ok End
at_end [] e = absurd cc
at_end (word ∷ []) e = rw e refl
at_end (word ∷ second ∷ ws) e = absurd cc

one_word : (o : Option ℕ) → Err kind.Form ≡ lrat_step (o >>= λ id. behind_id id [])
one_word None = refl
one_word (Some id) = refl

pub no_end : (ws : List (List ℕ)) → is_end ws ≡ false → inner_line ws ≡ lrat_step (line_of_words ws)
no_end [] e = refl
no_end (word ∷ []) e = rw e (one_word (id_of word))
no_end (word ∷ second ∷ ws) e = refl

-- ---- a step is no `end`

pub a_step : (ws : List (List ℕ)) (line : LratLine) → line_of_words ws ≡ Some line → inner_line ws ≡ Ok (Step line)
a_step [] line e = absurd cc
a_step (word ∷ []) line e = absurd (none (id_of word) e)
  where
    none : (o : Option ℕ) → (o >>= (λ id. behind_id id [])) ≡ Some line → ⊥
    none None is = absurd cc
    none (Some id) is = absurd cc
a_step (word ∷ second ∷ ws) line e = ap lrat_step e

-- ---- outcomes

pub gives_ok : {X : Type 0} (view : X → CertLine) (r : Result X CertLineFault) (read : Reading) → Gives view r read → IfOk r (λ line. read ≡ Ok (view line))
gives_ok view (Ok x) read h = h
gives_ok view (Err f) read h = tt

pub gives_fault : {X : Type 0} (view : X → CertLine) (r : Result X CertLineFault) (read : Reading) → Gives view r read → IfErr r (λ f. Fails f read)
gives_fault view (Ok x) read h = tt
gives_fault view (Err f) read h = h

pub in_ranges : {X : Type 0} (view : X → CertLine) (r : Result X CertLineFault) (inner : Bool) (text : List ℕ) → Gives view r (cert_line inner text) → IfOk r (λ line. IsCertLine (view line))
in_ranges view (Ok x) inner text h = read-lines-are-cert-lines inner text (view x) h
in_ranges view (Err f) inner text h = tt
