-- Printed lines as they stand in a text: no LF stands in them but at their ends.
use Rattle.std.proofs.Common.{◌≡◌, ◌≢◌, ℕ, zero, suc, ◌-◌, ◌<◌, ◌^◌, ◌&&◌, ◌==◌, not, Bool, true, false, cond, Ok, ℤ, pos, negsuc, neg_ℤ, inl, inr, List, [], ◌∷◌, ◌++◌, map, length, get_or, refl, sym, ap, subst, ◌∙◌, append_assoc, arith, codes}
use Rattle.std.specs.Prelude.{decimal, unsigned_abs}
use Rattle.std.specs.Fmt.{signed_decimal}
use Rattle.std.specs.List.{AllByRecursion, flat_map}
use Rattle.std.specs.Str.{all_ascii_digits}
use Rattle.std.specs.Char.{is_ascii_digit}
use Rattle.std.proofs.lemmas.Bool.{and_parts}
use Rattle.std.proofs.lemmas.Bool.Decides.{nat_tests}
use Rattle.std.proofs.lemmas.List.Elements.{recursion_from_All, All-from_recursion}
use Rattle.qv_words.specs.declared.sort.Sort.{Sort}
use Rattle.qv_words.specs.declared.sort.Sort.TheVariants.{Bits}
use Rattle.qv_words.specs.declared.sort.Sort.TheVariants.{Bool as BoolSort}
use Rattle.qv_words.specs.Sort.{IsLawful}
use Rattle.qv_words.specs.declared.op.Op.{Op}
use Rattle.qv_words.specs.declared.op.Op.TheVariants.{Not}
use Rattle.qv_words.specs.declared.op.Answer.{Answer}
use Rattle.qv_words.specs.declared.op.Answer.TheVariants.{Sat, Unsat, Unknown}
use Rattle.qv_words.specs.declared.rule.Rule.{Rule}
use Rattle.qv_words.specs.declared.rule.Rule.TheVariants.{Fold}
use Rattle.qv_words.proofs.Leaves.{both}
use Rattle.qv_sorts.specs.Names.{name_of, indices_of}
use Rattle.qv_cnf.specs.Literal.{Literal, IsLiteral, number_of}
use Rattle.qv_cnf.specs.LratLine.{LratLine, Addition, Deletion}
use Rattle.qv_lrat_text.specs.Words.{words, spaced}
use Rattle.qv_lrat_text.specs.Grammar.{without_lf, IsId, IsHint}
use Rattle.qv_lrat_text.specs.Spelling.{spelling, literal_text}
use Rattle.qv_lrat_text.proofs.PrintedLemmas.{decimal-digits}
use Rattle.qv_words.specs.Rules.{name_of_rule}
use Rattle.qv_rewrite_passes.specs.declared.pass.Pass.{Pass}
use Rattle.qv_rewrite_passes.specs.declared.pass.Pass.TheVariants.{By, Sum, Xor, Simp}
use Rattle.qv_rewrite_passes.specs.Names.{name_of_pass}
use Rattle.qv_cert.specs.Line.{CertLine, Header, Check, VariableNode, EigenNode, LiteralNode, OperatorNode, Skolem, Instance, Eigen, Rewrite, Lrat, Step, End, IsCertLine, IsNumber, IsIndex}
use Rattle.qv_cert.specs.Grammar.{outer_line, inner_line, cert_line}
use Rattle.qv_cert.specs.Spelling.{answer_name, width_number, behind_spaces, joined, cert_text, is_step}
use Rattle.qv_cert.proofs.Printed.{printed-lines-are-read, smaller, value-large}
use Rattle.qv_script_transcript.specs.PrintedLines.{line_text, StandsAsLine, PrintedLinesStand}
use Rattle.qv_lrat_text.proofs.LineLemmas.{without_lf-line}

-- ---- texts without LF

abbrev pub Free : List ℕ → Type 0
Free text = AllByRecursion (λ b. b ≢ 10) text

-- the test, which computes on fixed texts
abbrev pub is_free : List ℕ → Bool
is_free [] = true
is_free (b ∷ bs) = not (b == 10) && is_free bs

pub free : (text : List ℕ) → is_free text ≡ true → Free text
free [] h = tt
free (b ∷ bs) h = let p = and_parts (not (b == 10)) (is_free bs) h in (other b p.0, free bs p.1)
  where
    other : (b : ℕ) → not (b == 10) ≡ true → b ≢ 10
    other b h = λ is. absurd (grind (arith, nat_tests))

digits-free : (word : List ℕ) → all_ascii_digits word ≡ true → Free word
digits-free [] h = tt
digits-free (b ∷ bs) h = let p = and_parts (is_ascii_digit b) (all_ascii_digits bs) h in (other b p.0, digits-free bs p.1)
  where
    other : (b : ℕ) → is_ascii_digit b ≡ true → b ≢ 10
    other b h = λ is. absurd (grind (arith, nat_tests))

number-free : (n : ℕ) → n < 2 ^ 128 → Free (decimal n)
number-free n h = digits-free (decimal n) (decimal-digits n (omega (arith, h)))

small-free : (n : ℕ) → IsNumber n → Free (decimal n)
small-free n h = number-free n (omega (arith, h))

numbers-free : (ns : List ℕ) → AllByRecursion (λ n. n < 2 ^ 128) ns → AllByRecursion Free (map decimal ns)
numbers-free [] h = tt
numbers-free (n ∷ ns) h = (number-free n h.0, numbers-free ns h.1)

spaces-free : (ws : List (List ℕ)) → AllByRecursion Free ws → Free (behind_spaces ws)
spaces-free [] h = tt
spaces-free (word ∷ ws) h = both (λ b. b ≢ 10) (32 ∷ word) (behind_spaces ws) ((λ is. absurd cc), h.0) (spaces-free ws h.1)

-- ---- lines

-- no byte of such a text is an LF, also the one that stands behind its end
at-free : (xs : List ℕ) (i : ℕ) → Free xs → (get_or xs i 0 == 10) ≡ false
at-free [] i h = refl
at-free (b ∷ bs) zero h = other b h.0
  where
    other : (b : ℕ) → b ≢ 10 → (b == 10) ≡ false
    other b h = grind (arith, nat_tests)
at-free (b ∷ bs) (suc i) h = at-free bs i h.1

lf-free : (xs : List ℕ) → Free xs → without_lf xs ≡ xs
lf-free xs h = rw (at-free xs (length xs - 1) h) refl

reads-same : (b : Bool) (xs ys : List ℕ) → without_lf xs ≡ without_lf ys → cert_line b xs ≡ cert_line b ys
unfolding cert_line
reads-same true xs ys e = ap (λ zs. inner_line (words zs)) e
reads-same false xs ys e = ap (λ zs. outer_line (words zs)) e

-- a line that is printed as a text without LF, and the LF
stands : (line : CertLine) (text : List ℕ) → IsCertLine line → cert_text line ≡ text ++ 10 ∷ [] → Free text → StandsAsLine line
stands line text form is none =
    let own : line_text line ≡ text = ap without_lf is ∙ without_lf-line text in
    record {
      ends = is ∙ ap (λ (xs : List ℕ). xs ++ 10 ∷ []) (sym own);
      apart = All-from_recursion (λ b. b ≢ 10) (line_text line) (subst Free (sym own) none);
      reads = reads-same (is_step line) (line_text line) (cert_text line) (ap without_lf own ∙ lf-free text none ∙ sym own) ∙ (printed-lines-are-read line form).0;
    }

joined-stands : (line : CertLine) (first : List ℕ) (others : List (List ℕ)) → IsCertLine line → cert_text line ≡ joined first others → is_free first ≡ true → AllByRecursion Free others → StandsAsLine line
joined-stands line first others form is h hs = stands line (first ++ behind_spaces others) form is (both (λ b. b ≢ 10) first (behind_spaces others) (free first h) (spaces-free others hs))

answer-free : (answer : Answer) → is_free (answer_name answer) ≡ true
answer-free Sat = refl
answer-free Unsat = refl
answer-free Unknown = refl

rule-free : (rule : Rule) → is_free (name_of_rule rule) ≡ true
rule-free Fold = refl
rule-free _ = refl

pass-free : (p : Pass) → is_free (name_of_pass p) ≡ true
pass-free (By rule) = rule-free rule
pass-free Sum = refl
pass-free Xor = refl
pass-free Simp = refl

operator-free : (op : Op) → is_free (name_of op) ≡ true
operator-free Not = refl
operator-free _ = refl

-- a number of a literal or a hint
signed-free : (z : ℤ) → unsigned_abs z < 10 ^ 64 → Free (signed_decimal z)
signed-free (pos n) h = digits-free (decimal n) (decimal-digits n h)
signed-free (negsuc n) h = ((λ is. absurd cc), digits-free (decimal (suc n)) (decimal-digits (suc n) h))

join : (xs ys : List ℕ) → Free xs → Free ys → Free (xs ++ ys)
join xs ys h k = both (λ b. b ≢ 10) xs ys h k

spaced-free : (word : List ℕ) → Free word → Free (spaced word)
spaced-free word h = join word (32 ∷ []) h ((λ is. absurd cc), tt)

-- texts of the parts of a list
flat-free : {A : Type 0} (P : A → Type 0) (text : A → List ℕ) → ((x : A) → P x → Free (text x)) → (xs : List A) → AllByRecursion P xs → Free (flat_map text xs)
flat-free P text each [] h = tt
flat-free P text each (x ∷ xs) h = join (text x) (flat_map text xs) (each x h.0) (flat-free P text each xs h.1)

magnitude : (lit : Literal) → IsLiteral lit → unsigned_abs (number_of lit) < 10 ^ 64
magnitude lit h = let size = size_of lit.variable lit.positive in omega (arith, h, size)
  where
    size_of : (variable : ℕ) (positive : Bool) → unsigned_abs (cond positive (pos variable) (neg_ℤ (pos variable))) ≡ variable
    size_of variable true = refl
    size_of zero false = refl
    size_of (suc variable) false = refl

literal-free : (lit : Literal) → IsLiteral lit → Free (literal_text lit)
literal-free lit h = spaced-free (signed_decimal (number_of lit)) (signed-free (number_of lit) (magnitude lit h))

hint-free : (hint : ℤ) → IsHint hint → Free (spaced (signed_decimal hint))
hint-free hint h = spaced-free (signed_decimal hint) (signed-free hint (omega (arith, h)))

id-free : (id : ℕ) → IsId id → Free (spaced (decimal id))
id-free id h = spaced-free (decimal id) (number-free id (omega (arith, h)))

-- the last word and its LF behind a text
zero-last : (xs : List ℕ) → xs ++ 48 ∷ 10 ∷ [] ≡ (xs ++ 48 ∷ []) ++ 10 ∷ []
zero-last xs = sym (append_assoc xs (48 ∷ []) (10 ∷ []))

zero-free : (xs : List ℕ) → Free xs → Free (xs ++ 48 ∷ [])
zero-free xs h = join xs (48 ∷ []) h ((λ is. absurd cc), tt)

step-stands : (line : LratLine) → IsCertLine (Step line) → StandsAsLine (Step line)
unfolding cert_text spelling
step-stands (Addition id lits hints) form =
    let front = spaced (decimal id) ++ flat_map literal_text lits in
    let middle = front ++ codes "0 " in
    let text = middle ++ flat_map (λ hint. spaced (signed_decimal hint)) hints in
    let front_free : Free front = join (spaced (decimal id)) (flat_map literal_text lits) (id-free id form.0.0) (flat-free IsLiteral literal_text literal-free lits (recursion_from_All IsLiteral lits form.1)) in
    let middle_free : Free middle = join front (codes "0 ") front_free (free (codes "0 ") refl) in
    let text_free : Free text = join middle (flat_map (λ hint. spaced (signed_decimal hint)) hints) middle_free (flat-free IsHint (λ hint. spaced (signed_decimal hint)) hint-free hints (recursion_from_All IsHint hints form.0.1)) in
    stands (Step (Addition id lits hints)) (text ++ 48 ∷ []) form (zero-last text) (zero-free text text_free)
step-stands (Deletion id ids) form =
    let front = spaced (decimal id) ++ codes "d " in
    let text = front ++ flat_map (λ deleted. spaced (decimal deleted)) ids in
    let front_free : Free front = join (spaced (decimal id)) (codes "d ") (id-free id form.0.0) (free (codes "d ") refl) in
    let text_free : Free text = join front (flat_map (λ deleted. spaced (decimal deleted)) ids) front_free (flat-free IsId (λ deleted. spaced (decimal deleted)) id-free ids (recursion_from_All IsId ids form.0.1)) in
    stands (Step (Deletion id ids)) (text ++ 48 ∷ []) form (zero-last text) (zero-free text text_free)

all-join : (xs ys : List (List ℕ)) → AllByRecursion Free xs → AllByRecursion Free ys → AllByRecursion Free (xs ++ ys)
all-join xs ys h k = both Free xs ys h k

width-free : (s : Sort) → IsLawful s → Free (decimal (width_number s))
width-free BoolSort h = number-free 0 (omega arith)
width-free (Bits w) h = number-free w (omega (arith, h.1))

version-free : (version : ℕ) → IsCertLine (Header version) → Free (decimal version)
version-free version (inl e) = number-free version (omega (arith, e))
version-free version (inr e) = number-free version (omega (arith, e))

line-stands : (line : CertLine) → IsCertLine line → StandsAsLine line
unfolding cert_text
line-stands (Header version) h = joined-stands (Header version) (codes "qbv-cert") (decimal version ∷ []) h refl refl (version-free version h, tt)
line-stands (Check number answer) h = joined-stands (Check number answer) (codes "check") (decimal number ∷ answer_name answer ∷ []) h refl refl (small-free number h, (free (answer_name answer) (answer-free answer), tt))
line-stands (VariableNode node place) h = joined-stands (VariableNode node place) (codes "n") (decimal node ∷ codes "v" ∷ decimal place ∷ []) h refl refl (small-free node h.0, (free (codes "v") refl, (small-free place h.1, tt)))
line-stands (EigenNode node line) h = joined-stands (EigenNode node line) (codes "n") (decimal node ∷ codes "g" ∷ decimal line ∷ []) h refl refl (small-free node h.0, (free (codes "g") refl, (small-free line h.1, tt)))
line-stands (LiteralNode node s value) h =
    joined-stands (LiteralNode node s value) (codes "n") (decimal node ∷ codes "c" ∷ decimal (width_number s) ∷ decimal value ∷ []) h refl refl
    (small-free node h.0, (free (codes "c") refl, (width-free s h.1, (number-free value (value-large s value h.1 h.2), tt))))
line-stands (OperatorNode node o children) h =
    let indices = numbers-free (indices_of o) (recursion_from_All IsIndex (indices_of o) h.1) in
    let nodes = numbers-free children (smaller children (recursion_from_All IsNumber children h.2)) in
    joined-stands (OperatorNode node o children) (codes "n") (decimal node ∷ codes "o" ∷ name_of o ∷ (map decimal (indices_of o) ++ codes ":" ∷ map decimal children)) h refl refl
    (small-free node h.0, (free (codes "o") refl, (free (name_of o) (operator-free o), all-join (map decimal (indices_of o)) (codes ":" ∷ map decimal children) indices (free (codes ":") refl, nodes))))
line-stands (Skolem place node) h = joined-stands (Skolem place node) (codes "s") (decimal place ∷ decimal node ∷ []) h refl refl (small-free place h.0, (small-free node h.1, tt))
line-stands (Instance line parent node) h = joined-stands (Instance line parent node) (codes "i") (decimal line ∷ decimal parent ∷ decimal node ∷ []) h refl refl (small-free line h.0, (small-free parent h.1, (small-free node h.2, tt)))
line-stands (Eigen line parent) h = joined-stands (Eigen line parent) (codes "e") (decimal line ∷ decimal parent ∷ []) h refl refl (small-free line h.0, (small-free parent h.1, tt))
line-stands (Rewrite p) h = joined-stands (Rewrite p) (codes "w") (name_of_pass p ∷ []) h refl refl (free (name_of_pass p) (pass-free p), tt)
line-stands Lrat h = joined-stands Lrat (codes "lrat") [] h refl refl tt
line-stands (Step line) h = step-stands line h
line-stands End h = joined-stands End (codes "end") [] h refl refl tt

end-once : without_lf (line_text End) ≡ without_lf (cert_text End)
unfolding cert_text
end-once = refl

end-stands : cert_line true (line_text End) ≡ Ok End
end-stands = reads-same true (line_text End) (cert_text End) end-once ∙ (printed-lines-are-read End tt).1

pub printed-lines-stand : PrintedLinesStand
printed-lines-stand = (line-stands, end-stands)
