-- The numbers of lines that are read are in their ranges.
use Rattle.std.proofs.Common.{◌≡◌, ℕ, ◌-◌, ◌<◌, ◌≤◌, ◌^◌, Bool, true, false, cond, ◌==◌, Option, Some, None, List, [], ◌∷◌, refl, sym, subst, inl, inr, arith, codes}
use Rattle.std.specs.Prelude.{nat_le, nat_lt, option_map, Ok, Err}
use Rattle.std.specs.List.{AllByRecursion}
use Rattle.std.specs.Str.{bytes_eq}
use Rattle.std.proofs.lemmas.Bool.Decides.{nat_tests}
use Rattle.std.proofs.lemmas.List.Elements.{All-from_recursion}
use Rattle.qv_words.specs.Sort.{IsLawful, IsValueOf, size_of}
use Rattle.qv_rewrite_passes.specs.declared.pass.Pass.{Pass}
use Rattle.qv_words.specs.declared.op.Op.{Op}
use Rattle.qv_words.specs.declared.op.Answer.{Answer}
use Rattle.qv_sorts.specs.Names.{indices_of}
use Rattle.qv_cnf.specs.LratLine.{LratLine}
use Rattle.qv_lrat_text.specs.Words.{words}
use Rattle.qv_lrat_text.specs.Grammar.{◌>>=◌, line_of_words, without_lf, IsLine}
use Rattle.qv_lrat_text.proofs.Ranges.{bind_some, number_from-range, line_of_words-range}
use Rattle.qv_cert.specs.declared.kind.RefusalKind.TheVariants as kind
use Rattle.qv_cert.specs.Line.{CertLine, Header, Check, VariableNode, EigenNode, LiteralNode, Skolem, Instance, Eigen, Rewrite, Lrat, End, IsCertLine, IsNumber, IsIndex}
use Rattle.qv_cert.specs.Grammar.{Reading, or_fault, number, large_number, numbers, header, answer_named, check, sort_of_width, is_value, literal_node, literal_in, at_colon, operator_node, application, one_number, two_numbers, three_numbers, read, node_line, node, rewriting, alone, behind_word, formed, outer_line, inner_line, lrat_step, cert_line}
use Rattle.qv_rewrite_passes.specs.Names.{pass_named}
use Rattle.qv_sorts.specs.Search.{indexed_operator}
use Rattle.qv_cert.specs.Spelling.{ReadLinesAreCertLines}
use Rattle.qv_sorts.proofs.Searching.{operators-are-found}

abbrev Fine : Reading → Type 0
Fine (Ok line) = IsCertLine line
Fine (Err k) = Unit {0}

abbrev FineOption : Option Reading → Type 0
FineOption None = Unit {0}
FineOption (Some r) = Fine r

abbrev FineLine : Option CertLine → Type 0
FineLine None = Unit {0}
FineLine (Some line) = IsCertLine line

from-some : (xs ys : List ℕ) → Some xs ≡ Some ys → xs ≡ ys
from-some xs ys e = cc

either : (b : Bool) (x y : Option Reading) → FineOption x → FineOption y → FineOption (cond b x y)
either true x y h k = h
either false x y h k = k

fine-read : (line : Option CertLine) → FineLine line → FineOption (read line)
fine-read None h = tt
fine-read (Some line) h = h

in-range : (w : List ℕ) (n : ℕ) → number w ≡ Some n → IsNumber n
in-range w n e = let r = number_from-range 0 (2 ^ 62 - 1) w n e in omega (arith, r.1)

in-large-range : (w : List ℕ) (n : ℕ) → large_number w ≡ Some n → IsIndex n
in-large-range w n e = let r = number_from-range 0 (2 ^ 128 - 1) w n e in omega (arith, r.1)

one : (make : ℕ → CertLine) → ((n : ℕ) → IsNumber n → IsCertLine (make n)) → (ws : List (List ℕ)) → FineLine (one_number make ws)
one make h [] = tt
one make h (w ∷ []) = go (number w) refl
  where
    go : (o : Option ℕ) → number w ≡ o → FineLine (o >>= (λ n. Some (make n)))
    go None e = tt
    go (Some n) e = h n (in-range w n e)
one make h (w ∷ x ∷ ws) = tt

two : (make : ℕ → ℕ → CertLine) → ((n k : ℕ) → IsNumber n → IsNumber k → IsCertLine (make n k)) → (ws : List (List ℕ)) → FineLine (two_numbers make ws)
two make h [] = tt
two make h (w ∷ ws) = go (number w) refl
  where
    go : (o : Option ℕ) → number w ≡ o → FineLine (o >>= (λ n. one_number (make n) ws))
    go None e = tt
    go (Some n) e = one (make n) (λ k i. h n k (in-range w n e) i) ws

three : (make : ℕ → ℕ → ℕ → CertLine) → ((n k j : ℕ) → IsNumber n → IsNumber k → IsNumber j → IsCertLine (make n k j)) → (ws : List (List ℕ)) → FineLine (three_numbers make ws)
three make h [] = tt
three make h (w ∷ ws) = go (number w) refl
  where
    go : (o : Option ℕ) → number w ≡ o → FineLine (o >>= (λ n. two_numbers (make n) ws))
    go None e = tt
    go (Some n) e = two (make n) (λ k j i g. h n k j (in-range w n e) i g) ws

fine-check : (ws : List (List ℕ)) → FineLine (check ws)
fine-check [] = tt
fine-check (i ∷ []) = tt
fine-check (i ∷ a ∷ []) = go (number i) refl (answer_named a)
  where
    go : (o : Option ℕ) → number i ≡ o → (q : Option Answer) → FineLine (o >>= (λ n. q >>= (λ answer. Some (Check n answer))))
    go None e q = tt
    go (Some n) e None = tt
    go (Some n) e (Some answer) = in-range i n e
fine-check (i ∷ a ∷ b ∷ ws) = tt

lawful : (w v : ℕ) (b : Bool) → nat_le w 128 ≡ b → is_value b w v ≡ true → IsLawful (sort_of_width w) × IsValueOf v (sort_of_width w)
lawful w v false e h = absurd cc
lawful w v true e h = (sort w (w == 0) refl (small w e), less v (size_of (sort_of_width w)) h)
  where
    less : (a b : ℕ) → nat_lt a b ≡ true → a < b
    less a b e = grind (arith, nat_tests)

    small : (w : ℕ) → nat_le w 128 ≡ true → w ≤ 128
    small w e = grind (arith, nat_tests)

    sort : (w : ℕ) (b : Bool) → (w == 0) ≡ b → w ≤ 128 → IsLawful (sort_of_width w)
    sort w true e le = rw e (omega arith, omega arith)
    sort w false e le = rw e (positive w e, le)
      where
        positive : (w : ℕ) → (w == 0) ≡ false → 1 ≤ w
        positive w e = grind (arith, nat_tests)

fine-literal : (k w v : ℕ) → IsNumber k → Fine (literal_node k w v)
fine-literal k w v key = go (is_value (nat_le w 128) w v) refl
  where
    go : (b : Bool) → is_value (nat_le w 128) w v ≡ b → Fine (cond b (Ok (LiteralNode k (sort_of_width w) v)) (Err kind.Literal))
    go true e = let both = lawful w v (nat_le w 128) refl e in (key, both.0, both.1)
    go false e = tt

fine-literal_in : (k : ℕ) → IsNumber k → (ws : List (List ℕ)) → FineOption (literal_in k ws)
fine-literal_in k key [] = tt
fine-literal_in k key (a ∷ []) = tt
fine-literal_in k key (a ∷ b ∷ []) = go (number a) (large_number b)
  where
    go : (o q : Option ℕ) → FineOption (o >>= (λ w. q >>= (λ v. Some (literal_node k w v))))
    go None q = tt
    go (Some w) None = tt
    go (Some w) (Some v) = fine-literal k w v key
fine-literal_in k key (a ∷ b ∷ c ∷ ws) = tt

all-read : (P : ℕ → Type 0) (read_one : List ℕ → Option ℕ) → ((w : List ℕ) (n : ℕ) → read_one w ≡ Some n → P n) → (ws : List (List ℕ)) (ns : List ℕ) → numbers read_one ws ≡ Some ns → AllByRecursion P ns
all-read P read_one h [] ns e = subst (AllByRecursion P) (from-some [] ns e) tt
all-read P read_one h (w ∷ ws) ns e =
    let first = bind_some (read_one w) (λ n. numbers read_one ws >>= (λ rest. Some (n ∷ rest))) ns e in
    let others = bind_some (numbers read_one ws) (λ rest. Some (first.0 ∷ rest)) ns first.2 in
    subst (AllByRecursion P) (from-some (first.0 ∷ others.0) ns others.2) (h w first.0 first.1, all-read P read_one h ws others.0 others.1)

node-fine : (k : ℕ) (name indices children : List ℕ) → IsNumber k → AllByRecursion IsIndex indices → AllByRecursion IsNumber children → (o : Option Op) → indexed_operator name indices ≡ o → Fine (operator_node k children o)
node-fine k name indices children key large h None e = tt
node-fine k name indices children key large h (Some o) e =
    let named = (operators-are-found name indices o).0 e in
    (key, All-from_recursion IsIndex (indices_of o) (subst (AllByRecursion IsIndex) (sym named.indices) large), All-from_recursion IsNumber children h)

fine-application : (k : ℕ) → IsNumber k → (ws : List (List ℕ)) → FineOption (application k ws)
fine-application k key [] = tt
fine-application k key (name ∷ ws) = go (at_colon ws)
  where
    inner : (xs ys : List (List ℕ)) (o q : Option (List ℕ)) → numbers large_number xs ≡ o → numbers number ys ≡ q → FineOption (o >>= (λ indices. q >>= (λ children. Some (operator_node k children (indexed_operator name indices)))))
    inner xs ys None q e f = tt
    inner xs ys (Some indices) None e f = tt
    inner xs ys (Some indices) (Some children) e f =
        node-fine k name indices children key (all-read IsIndex large_number in-large-range xs indices e) (all-read IsNumber number in-range ys children f) (indexed_operator name indices) refl

    go : (o : Option (List (List ℕ) × List (List ℕ))) → FineOption (o >>= (λ found. numbers large_number found.0 >>= (λ indices. numbers number found.1 >>= (λ children. Some (operator_node k children (indexed_operator name indices))))))
    go None = tt
    go (Some found) = inner found.0 found.1 (numbers large_number found.0) (numbers number found.1) refl refl

fine-node_line : (k : ℕ) → IsNumber k → (ws : List (List ℕ)) → FineOption (node_line k ws)
fine-node_line k key [] = tt
fine-node_line k key (form ∷ ws) =
    either (bytes_eq form (codes "v")) _ _ (fine-read (one_number (VariableNode k) ws) (one (VariableNode k) (λ n i. (key, i)) ws))
    (either (bytes_eq form (codes "g")) _ _ (fine-read (one_number (EigenNode k) ws) (one (EigenNode k) (λ n i. (key, i)) ws))
    (either (bytes_eq form (codes "c")) _ _ (fine-literal_in k key ws)
    (either (bytes_eq form (codes "o")) (application k ws) None (fine-application k key ws) tt)))

fine-node : (ws : List (List ℕ)) → FineOption (node ws)
fine-node [] = tt
fine-node (w ∷ ws) = go (number w) refl
  where
    go : (o : Option ℕ) → number w ≡ o → FineOption (o >>= (λ k. node_line k ws))
    go None e = tt
    go (Some k) e = fine-node_line k (in-range w k e) ws

fine-rewriting : (ws : List (List ℕ)) → FineOption (rewriting ws)
fine-rewriting [] = tt
fine-rewriting (name ∷ []) = go (pass_named name)
  where
    go : (o : Option Pass) → Fine (or_fault kind.Rule (option_map Rewrite o))
    go None = tt
    go (Some p) = tt
fine-rewriting (name ∷ x ∷ ws) = tt

fine-alone : (line : CertLine) (ws : List (List ℕ)) → IsCertLine line → FineLine (alone line ws)
fine-alone line [] h = h
fine-alone line (w ∷ ws) h = tt

fine-header : (ws : List (List ℕ)) → Fine (or_fault kind.Header (header ws))
fine-header [] = tt
fine-header (w ∷ []) = go (bytes_eq w (codes "1")) (bytes_eq w (codes "2"))
  where
    go : (a b : Bool) → Fine (or_fault kind.Header (cond a (Some (Header 1)) (cond b (Some (Header 2)) None)))
    go true b = inl refl
    go false true = inr refl
    go false false = tt
fine-header (w ∷ x ∷ ws) = tt

fine-formed : (o : Option Reading) → FineOption o → Fine (formed o)
fine-formed None h = tt
fine-formed (Some r) h = h

fine-behind : (first : List ℕ) (ws : List (List ℕ)) → FineOption (behind_word first ws)
fine-behind first ws =
    either (bytes_eq first (codes "qbv-cert")) _ _ (fine-header ws)
    (either (bytes_eq first (codes "check")) _ _ (fine-read (check ws) (fine-check ws))
    (either (bytes_eq first (codes "n")) _ _ (fine-node ws)
    (either (bytes_eq first (codes "s")) _ _ (fine-read (two_numbers Skolem ws) (two Skolem (λ n k h i. (h, i)) ws))
    (either (bytes_eq first (codes "i")) _ _ (fine-read (three_numbers Instance ws) (three Instance (λ n k j h i g. (h, i, g)) ws))
    (either (bytes_eq first (codes "e")) _ _ (fine-read (two_numbers Eigen ws) (two Eigen (λ n k h i. (h, i)) ws))
    (either (bytes_eq first (codes "w")) _ _ (fine-rewriting ws)
    (either (bytes_eq first (codes "lrat")) _ _ (fine-read (alone Lrat ws) (fine-alone Lrat ws tt))
    (either (bytes_eq first (codes "end")) (read (alone End ws)) None (fine-read (alone End ws) (fine-alone End ws tt)) tt))))))))

fine-outer : (ws : List (List ℕ)) → Fine (outer_line ws)
fine-outer [] = tt
fine-outer (w ∷ ws) = fine-formed (behind_word w ws) (fine-behind w ws)

-- in the refutation
fine-step : (o : Option LratLine) → ((line : LratLine) → o ≡ Some line → IsLine line) → Fine (lrat_step o)
fine-step None h = tt
fine-step (Some line) h = h line refl

fine-inner : (ws : List (List ℕ)) → Fine (inner_line ws)
fine-inner [] = tt
fine-inner (w ∷ []) = go (bytes_eq w (codes "end"))
  where
    go : (b : Bool) → Fine (cond b (Ok End) (Err kind.Form))
    go true = tt
    go false = tt
fine-inner (w ∷ x ∷ ws) = fine-step (line_of_words (w ∷ x ∷ ws)) (λ line e. line_of_words-range (w ∷ x ∷ ws) line e)

fine : (inner : Bool) (text : List ℕ) → Fine (cert_line inner text)
unfolding cert_line
fine true text = fine-inner (words (without_lf text))
fine false text = fine-outer (words (without_lf text))

pub read-lines-are-cert-lines : ReadLinesAreCertLines
read-lines-are-cert-lines inner text line e = subst Fine e (fine inner text)

-- a line's literal, if it has one
abbrev pub HasValue : CertLine → Type 0
HasValue (LiteralNode node s value) = IsLawful s × IsValueOf value s
HasValue line = Unit {0}

pub has-value : (line : CertLine) → IsCertLine line → HasValue line
has-value (LiteralNode node s value) h = (h.1, h.2)
has-value line h = tt

pub read-value : (text : List ℕ) (line : CertLine) → cert_line false text ≡ Ok line → HasValue line
read-value text line e = has-value line (read-lines-are-cert-lines false text line e)
