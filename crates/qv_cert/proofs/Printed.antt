-- What is printed reads as what was printed.
use Rattle.std.proofs.Common.{◌≡◌, ℕ, ◌-◌, ◌^◌, ◌<◌, ◌≤◌, Bool, true, false, cond, ◌==◌, List, [], ◌∷◌, ◌++◌, length, map, Option, Some, None, refl, sym, ap, subst, ◌∙◌, inl, inr, arith, codes}
use Rattle.std.specs.Prelude.{Ok, Err, nat_le, nat_lt, decimal}
use Rattle.std.specs.List.{AllByRecursion}
use Rattle.std.specs.Str.{bytes_eq, all_ascii_digits}
use Rattle.std.specs.Char.{is_ascii_digit}
use Rattle.std.proofs.lemmas.Bool.{and_parts}
use Rattle.std.proofs.lemmas.Bool.Decides.{nat_tests}
use Rattle.std.proofs.lemmas.Fmt.{decimal_digit}
use Rattle.std.proofs.lemmas.List.Elements.{recursion_from_All}
use Rattle.qv_words.specs.declared.sort.Sort.{Sort}
use Rattle.qv_words.specs.declared.sort.Sort.TheVariants.{Bits}
use Rattle.qv_words.specs.declared.sort.Sort.TheVariants.{Bool as BoolSort}
use Rattle.qv_words.specs.declared.op.Op.{Op}
use Rattle.qv_words.specs.declared.op.Op.TheVariants.{Not}
use Rattle.qv_words.specs.declared.op.Answer.{Answer}
use Rattle.qv_words.specs.declared.op.Answer.TheVariants.{Sat, Unsat, Unknown}
use Rattle.qv_words.specs.Sort.{IsLawful, IsValueOf, size_of}
use Rattle.qv_words.specs.declared.rule.Rule.{Rule}
use Rattle.qv_words.specs.declared.rule.Rule.TheVariants.{Fold}
use Rattle.qv_sorts.specs.Names.{name_of, indices_of}
use Rattle.qv_cnf.specs.LratLine.{LratLine}
use Rattle.qv_lrat_text.specs.Words.{is_blank, is_ended, words}
use Rattle.qv_lrat_text.specs.Grammar.{◌>>=◌, id_of, behind_id, line_of_words, without_lf, lrat_line}
use Rattle.qv_lrat_text.specs.Spelling.{spelling}
use Rattle.qv_lrat_text.proofs.WordLemmas.{words-blank}
use Rattle.qv_lrat_text.proofs.PrintedLemmas.{no_blank, words-word, decimal-digits, decimal-some, digits-no_blank, number_from-decimal}
use Rattle.qv_lrat_text.proofs.LineLemmas.{lrat_line-spelling, without_lf-line}
use Rattle.qv_cert.specs.declared.kind.RefusalKind.TheVariants as kind
use Rattle.qv_words.specs.Rules.{name_of_rule, rule_named}
use Rattle.qv_rewrite_passes.specs.declared.pass.Pass.{Pass}
use Rattle.qv_rewrite_passes.specs.declared.pass.Pass.TheVariants.{By, Sum, Xor, Simp}
use Rattle.qv_rewrite_passes.specs.Names.{name_of_pass, pass_named}
use Rattle.qv_cert.specs.Line.{CertLine, Header, Check, VariableNode, EigenNode, LiteralNode, OperatorNode, Skolem, Instance, Eigen, Rewrite, Lrat, Step, End, IsCertLine, IsNumber, IsIndex}
use Rattle.qv_cert.specs.Grammar.{number, large_number, numbers, answer_named, sort_of_width, is_value, literal_node, at_colon, application, one_number, two_numbers, three_numbers, read, node_line, node, behind_word, formed, outer_line, inner_line, lrat_step, cert_line}
use Rattle.qv_cert.specs.Spelling.{answer_name, width_number, behind_spaces, joined, cert_text, is_step, PrintedLinesAreRead}
use Rattle.qv_words.proofs.Powers.{pow_le}
use Rattle.qv_sorts.proofs.Searching.{own}
use Rattle.qv_cert.proofs.ReadingLemmas.{a_step}

-- ---- words

abbrev IsWord : List ℕ → Type 0
IsWord word = (0 < length word) × (no_blank word ≡ true)

space : is_blank 32 ≡ true
unfolding is_blank
space = refl

ended-spaces : (ws : List (List ℕ)) → is_ended (behind_spaces ws) ≡ true
ended-spaces [] = refl
ended-spaces (word ∷ ws) = space

word-then : (word rest : List ℕ) → IsWord word → is_ended rest ≡ true → words (word ++ rest) ≡ word ∷ words rest
word-then [] rest h e = absurd (omega (arith, h.0))
word-then (b ∷ bs) rest h e = words-word b bs rest h.1 e

words-nil : words [] ≡ []
unfolding words
words-nil = refl

words-behind : (ws : List (List ℕ)) → AllByRecursion IsWord ws → words (behind_spaces ws) ≡ ws
words-behind [] h = words-nil
words-behind (word ∷ ws) h =
    words-blank 32 (word ++ behind_spaces ws) space ∙ word-then word (behind_spaces ws) h.0 (ended-spaces ws)
    ∙ ap (λ (vs : List (List ℕ)). word ∷ vs) (words-behind ws h.1)

words-joined : (first : List ℕ) (others : List (List ℕ)) → IsWord first → AllByRecursion IsWord others → words (without_lf (joined first others)) ≡ first ∷ others
words-joined first others h hs =
    ap words (without_lf-line (first ++ behind_spaces others))
    ∙ word-then first (behind_spaces others) h (ended-spaces others)
    ∙ ap (λ (vs : List (List ℕ)). first ∷ vs) (words-behind others hs)

outer-joined : (first : List ℕ) (others : List (List ℕ)) → IsWord first → AllByRecursion IsWord others → cert_line false (joined first others) ≡ formed (behind_word first others)
unfolding cert_line
outer-joined first others h hs = ap outer_line (words-joined first others h hs)

-- ---- numbers

decimal-word : (n : ℕ) → n < 2 ^ 128 → IsWord (decimal n)
decimal-word n h = (decimal-some n (omega (arith, h)), digits-no_blank (decimal n) (decimal-digits n (omega (arith, h))))

small : (n : ℕ) → IsNumber n → n < 2 ^ 128
small n h = omega (arith, h)

number-word : (n : ℕ) → IsNumber n → IsWord (decimal n)
number-word n h = decimal-word n (small n h)

number-read : (n : ℕ) → IsNumber n → number (decimal n) ≡ Some n
number-read n h = number_from-decimal 0 (2 ^ 62 - 1) n (omega (arith, h)) (omega arith) (omega (arith, h))

large-read : (n : ℕ) → n < 2 ^ 128 → large_number (decimal n) ≡ Some n
large-read n h = number_from-decimal 0 (2 ^ 128 - 1) n (omega (arith, h)) (omega arith) (omega (arith, h))

one-read : (make : ℕ → CertLine) (n : ℕ) → IsNumber n → one_number make (decimal n ∷ []) ≡ Some (make n)
one-read make n h = ap (λ (o : Option ℕ). o >>= (λ k. Some (make k))) (number-read n h)

two-read : (make : ℕ → ℕ → CertLine) (n k : ℕ) → IsNumber n → IsNumber k → two_numbers make (decimal n ∷ decimal k ∷ []) ≡ Some (make n k)
two-read make n k h i = ap (λ (o : Option ℕ). o >>= (λ x. one_number (make x) (decimal k ∷ []))) (number-read n h) ∙ one-read (make n) k i

three-read : (make : ℕ → ℕ → ℕ → CertLine) (n k j : ℕ) → IsNumber n → IsNumber k → IsNumber j → three_numbers make (decimal n ∷ decimal k ∷ decimal j ∷ []) ≡ Some (make n k j)
three-read make n k j h i g = ap (λ (o : Option ℕ). o >>= (λ x. two_numbers (make x) (decimal k ∷ decimal j ∷ []))) (number-read n h) ∙ two-read (make n) k j i g

node-read : (k : ℕ) (ws : List (List ℕ)) → IsNumber k → node (decimal k ∷ ws) ≡ node_line k ws
node-read k ws h = ap (λ (o : Option ℕ). o >>= (λ x. node_line x ws)) (number-read k h)

-- lists of numbers
numbers-read : (read : List ℕ → Option ℕ) (ns : List ℕ) → AllByRecursion (λ n. read (decimal n) ≡ Some n) ns → numbers read (map decimal ns) ≡ Some ns
numbers-read read [] h = refl
numbers-read read (n ∷ ns) h = rw (h.0, numbers-read read ns h.1) refl

-- a number isn't `:`
colon-not : (word : List ℕ) → all_ascii_digits word ≡ true → bytes_eq word (codes ":") ≡ false
colon-not [] h = refl
colon-not (b ∷ bs) h =
    let digit = (and_parts (is_ascii_digit b) (all_ascii_digits bs) h).0 in
    rw (not-colon b digit) refl
  where
    not-colon : (b : ℕ) → is_ascii_digit b ≡ true → (b == 58) ≡ false
    not-colon b h = grind (arith, nat_tests)

colon-behind : (ns : List ℕ) (others : List (List ℕ)) → AllByRecursion (λ n. n < 2 ^ 128) ns → at_colon (map decimal ns ++ codes ":" ∷ others) ≡ Some (map decimal ns, others)
colon-behind [] others h = refl
colon-behind (n ∷ ns) others h =
    rw (colon-not (decimal n) (decimal-digits n (omega (arith, h.0))), colon-behind ns others h.1) refl

-- ---- names

answer-word : (a : Answer) → IsWord (answer_name a)
unfolding is_blank
answer-word Sat = (omega arith, refl)
answer-word Unsat = (omega arith, refl)
answer-word Unknown = (omega arith, refl)

answer-read : (a : Answer) → answer_named (answer_name a) ≡ Some a
answer-read Sat = refl
answer-read Unsat = refl
answer-read Unknown = refl

rule-word : (r : Rule) → IsWord (name_of_rule r)
unfolding is_blank
rule-word Fold = (omega arith, refl)
rule-word _ = (omega arith, refl)

pass-word : (p : Pass) → IsWord (name_of_pass p)
unfolding is_blank
pass-word (By rule) = rule-word rule
pass-word Sum = (omega arith, refl)
pass-word Xor = (omega arith, refl)
pass-word Simp = (omega arith, refl)

rule-read : (r : Rule) → pass_named (name_of_rule r) ≡ Some (By r)
unfolding rule_named
rule-read Fold = refl
rule-read _ = refl

pass-read : (p : Pass) → pass_named (name_of_pass p) ≡ Some p
unfolding rule_named
pass-read (By rule) = rule-read rule
pass-read Sum = refl
pass-read Xor = refl
pass-read Simp = refl

operator-word : (o : Op) → IsWord (name_of o)
unfolding is_blank
operator-word Not = (omega arith, refl)
operator-word _ = (omega arith, refl)

-- the words of numbers
number-words : (ns : List ℕ) → AllByRecursion (λ n. n < 2 ^ 128) ns → AllByRecursion IsWord (map decimal ns)
number-words [] h = tt
number-words (n ∷ ns) h = (decimal-word n h.0, number-words ns h.1)

words-join : (xs ys : List (List ℕ)) → AllByRecursion IsWord xs → AllByRecursion IsWord ys → AllByRecursion IsWord (xs ++ ys)
words-join [] ys h k = k
words-join (x ∷ xs) ys h k = (h.0, words-join xs ys h.1 k)

pub smaller : (ns : List ℕ) → AllByRecursion IsNumber ns → AllByRecursion (λ n. n < 2 ^ 128) ns
smaller [] h = tt
smaller (n ∷ ns) h = (small n h.0, smaller ns h.1)

all-numbers : (ns : List ℕ) → AllByRecursion IsNumber ns → AllByRecursion (λ n. number (decimal n) ≡ Some n) ns
all-numbers [] h = tt
all-numbers (n ∷ ns) h = (number-read n h.0, all-numbers ns h.1)

all-large : (ns : List ℕ) → AllByRecursion (λ n. n < 2 ^ 128) ns → AllByRecursion (λ n. large_number (decimal n) ≡ Some n) ns
all-large [] h = tt
all-large (n ∷ ns) h = (large-read n h.0, all-large ns h.1)

-- ---- literals and operators

sort-read : (s : Sort) → IsLawful s → sort_of_width (width_number s) ≡ s
sort-read BoolSort h = refl
sort-read (Bits w) h = let e : (w == 0) ≡ false = positive w h.0 in rw e refl
  where
    positive : (w : ℕ) → 1 ≤ w → (w == 0) ≡ false
    positive w h = grind (arith, nat_tests)

width-small : (s : Sort) → IsLawful s → width_number s ≤ 128
width-small BoolSort h = omega arith
width-small (Bits w) h = h.1

value-read : (s : Sort) (v : ℕ) → IsLawful s → IsValueOf v s → is_value (nat_le (width_number s) 128) (width_number s) v ≡ true
value-read s v lawful h =
    let narrow : nat_le (width_number s) 128 ≡ true = le-test (width_number s) 128 (width-small s lawful) in
    let value : nat_lt v (size_of (sort_of_width (width_number s))) ≡ true = subst (λ (t : Sort). nat_lt v (size_of t) ≡ true) (sym (sort-read s lawful)) (lt-test v (size_of s) h) in
    ap (λ (b : Bool). is_value b (width_number s) v) narrow ∙ value
  where
    le-test : (a b : ℕ) → a ≤ b → nat_le a b ≡ true
    le-test a b h = grind (arith, nat_tests)

    lt-test : (a b : ℕ) → a < b → nat_lt a b ≡ true
    lt-test a b h = grind (arith, nat_tests)

literal-read : (k : ℕ) (s : Sort) (v : ℕ) → IsLawful s → IsValueOf v s → literal_node k (width_number s) v ≡ Ok (LiteralNode k s v)
literal-read k s v lawful h =
    ap (λ (b : Bool). cond b (Ok (LiteralNode k (sort_of_width (width_number s)) v)) (Err kind.Literal)) (value-read s v lawful h)
    ∙ ap (λ (t : Sort). Ok (LiteralNode k t v)) (sort-read s lawful)

operator-read : (k : ℕ) (o : Op) (ns : List ℕ) → AllByRecursion (λ n. n < 2 ^ 128) (indices_of o) → AllByRecursion IsNumber ns
    → application k (name_of o ∷ (map decimal (indices_of o) ++ codes ":" ∷ map decimal ns)) ≡ Some (Ok (OperatorNode k o ns))
operator-read k o ns large h =
    rw (colon-behind (indices_of o) (map decimal ns) large, numbers-read large_number (indices_of o) (all-large (indices_of o) large), numbers-read number ns (all-numbers ns h), own o) refl

-- ---- lines

pub value-large : (s : Sort) (v : ℕ) → IsLawful s → IsValueOf v s → v < 2 ^ 128
value-large BoolSort v lawful h = omega (arith, h)
value-large (Bits w) v lawful h = let wide : 2 ^ w ≤ 2 ^ 128 = pow_le w 128 lawful.1 in omega (arith, h, wide)

outer-printed : (line : CertLine) → IsCertLine line → is_step line ≡ false → cert_line false (cert_text line) ≡ Ok line
unfolding cert_text is_blank
outer-printed (Header version) (inl e) outside =
    subst (λ (v : ℕ). cert_line false (joined (codes "qbv-cert") (decimal v ∷ [])) ≡ Ok (Header v)) (sym e)
    (outer-joined (codes "qbv-cert") (decimal 1 ∷ []) (omega arith, refl) (decimal-word 1 (omega arith), tt)
    ∙ ap (λ (ws : List ℕ). formed (behind_word (codes "qbv-cert") (ws ∷ []))) (decimal_digit 1 (omega arith)))
outer-printed (Header version) (inr e) outside =
    subst (λ (v : ℕ). cert_line false (joined (codes "qbv-cert") (decimal v ∷ [])) ≡ Ok (Header v)) (sym e)
    (outer-joined (codes "qbv-cert") (decimal 2 ∷ []) (omega arith, refl) (decimal-word 2 (omega arith), tt)
    ∙ ap (λ (ws : List ℕ). formed (behind_word (codes "qbv-cert") (ws ∷ []))) (decimal_digit 2 (omega arith)))
outer-printed (Check n a) h outside =
    outer-joined (codes "check") (decimal n ∷ answer_name a ∷ []) (omega arith, refl) (number-word n h, (answer-word a, tt)) ∙ rw (number-read n h, answer-read a) refl
outer-printed (VariableNode k j) h outside =
    outer-joined (codes "n") (decimal k ∷ codes "v" ∷ decimal j ∷ []) (omega arith, refl) (number-word k h.0, ((omega arith, refl), (number-word j h.1, tt)))
    ∙ ap formed (node-read k (codes "v" ∷ decimal j ∷ []) h.0) ∙ ap (λ (o : Option CertLine). formed (read o)) (one-read (VariableNode k) j h.1)
outer-printed (EigenNode k j) h outside =
    outer-joined (codes "n") (decimal k ∷ codes "g" ∷ decimal j ∷ []) (omega arith, refl) (number-word k h.0, ((omega arith, refl), (number-word j h.1, tt)))
    ∙ ap formed (node-read k (codes "g" ∷ decimal j ∷ []) h.0) ∙ ap (λ (o : Option CertLine). formed (read o)) (one-read (EigenNode k) j h.1)
outer-printed (LiteralNode k s v) h outside =
    let width : IsNumber (width_number s) = omega (arith, width-small s h.1) in
    let large : v < 2 ^ 128 = value-large s v h.1 h.2 in
    outer-joined (codes "n") (decimal k ∷ codes "c" ∷ decimal (width_number s) ∷ decimal v ∷ []) (omega arith, refl) (number-word k h.0, ((omega arith, refl), (number-word (width_number s) width, (decimal-word v large, tt))))
    ∙ ap formed (node-read k (codes "c" ∷ decimal (width_number s) ∷ decimal v ∷ []) h.0)
    ∙ rw (number-read (width_number s) width, large-read v large) (literal-read k s v h.1 h.2)
outer-printed (OperatorNode k o ns) h outside =
    let large = recursion_from_All IsIndex (indices_of o) h.1 in
    let own_numbers = recursion_from_All IsNumber ns h.2 in
    outer-joined (codes "n") (decimal k ∷ codes "o" ∷ name_of o ∷ (map decimal (indices_of o) ++ codes ":" ∷ map decimal ns)) (omega arith, refl)
    (number-word k h.0, ((omega arith, refl), (operator-word o, words-join (map decimal (indices_of o)) (codes ":" ∷ map decimal ns) (number-words (indices_of o) large) ((omega arith, refl), number-words ns (smaller ns own_numbers)))))
    ∙ ap formed (node-read k (codes "o" ∷ name_of o ∷ (map decimal (indices_of o) ++ codes ":" ∷ map decimal ns)) h.0)
    ∙ ap formed (operator-read k o ns large own_numbers)
outer-printed (Skolem j k) h outside =
    outer-joined (codes "s") (decimal j ∷ decimal k ∷ []) (omega arith, refl) (number-word j h.0, (number-word k h.1, tt)) ∙ ap (λ (o : Option CertLine). formed (read o)) (two-read Skolem j k h.0 h.1)
outer-printed (Instance n p k) h outside =
    outer-joined (codes "i") (decimal n ∷ decimal p ∷ decimal k ∷ []) (omega arith, refl) (number-word n h.0, (number-word p h.1, (number-word k h.2, tt)))
    ∙ ap (λ (o : Option CertLine). formed (read o)) (three-read Instance n p k h.0 h.1 h.2)
outer-printed (Eigen n p) h outside =
    outer-joined (codes "e") (decimal n ∷ decimal p ∷ []) (omega arith, refl) (number-word n h.0, (number-word p h.1, tt)) ∙ ap (λ (o : Option CertLine). formed (read o)) (two-read Eigen n p h.0 h.1)
outer-printed (Rewrite p) h outside =
    outer-joined (codes "w") (name_of_pass p ∷ []) (omega arith, refl) (pass-word p, tt) ∙ rw (pass-read p) refl
outer-printed Lrat h outside = outer-joined (codes "lrat") [] (omega arith, refl) tt
outer-printed (Step line) h outside = absurd cc
outer-printed End h outside = outer-joined (codes "end") [] (omega arith, refl) tt

-- ---- in the refutation

step-printed : (line : LratLine) → IsCertLine (Step line) → cert_line true (spelling line) ≡ Ok (Step line)
unfolding cert_line lrat_line
step-printed line h = a_step (words (without_lf (spelling line))) line (lrat_line-spelling line h)

end-printed : cert_line true (cert_text End) ≡ Ok End
unfolding cert_text cert_line words is_blank
end-printed = refl

printed : (line : CertLine) → IsCertLine line → (b : Bool) → is_step line ≡ b → cert_line b (cert_text line) ≡ Ok line
unfolding cert_text
printed (Step line) h true e = step-printed line h
printed line h true e = absurd cc
printed line h false e = outer-printed line h e

pub printed-lines-are-read : PrintedLinesAreRead
printed-lines-are-read line h = (printed line h (is_step line) refl, end-printed)
