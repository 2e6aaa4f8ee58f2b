-- What words say, one by one.
use Rattle.std.proofs.Common.{◌≡◌, ℕ, ◌^◌, Bool, true, false, cond, ltb, eqb, ◌&&◌, ◌||◌, List, [], ◌∷◌, ◌++◌, length, Option, Some, None, refl, sym, ap, subst, ◌∙◌, inl, inr, arith}
use Rattle.std.specs.Prelude.{IfOk, Result, Ok, Err}
use Rattle.std.proofs.lemmas.Bool.{cases_Bool, eqb-false, ne_eqb, lt-ltb}
use Rattle.std.proofs.lemmas.List.{map-append}
use Rattle.std.proofs.lemmas.List.Folds.{list_any-append}
use Rattle.qv_cnf.specs.Literal.{Literal}
use Rattle.qv_lrat_text.specs.Words.{is_byte_word}
use Rattle.qv_lrat_text.specs.Decimal.{number_from}
use Rattle.qv_lrat_text.specs.Grammar.{literal_in}
use Rattle.qv_dimacs.specs.Text.{Word, lines_from}
use Rattle.qv_dimacs.specs.Clauses.{is_none, begun, pass, problem_line, no_comments}
use Rattle.qv_store.specs.declared.problem.Quant.{Quant}
use Rattle.qv_qdimacs.specs.declared.files.Quantified.{Quantified}
use Rattle.qv_qdimacs.specs.declared.files.Qdimacs.{Qdimacs}
use Rattle.qv_qdimacs.specs.declared.faults.QdimacsFault.{QdimacsFault}
use Rattle.qv_qdimacs.specs.declared.faults.QdimacsFault.TheVariants.{At, ReadFault, ReadLimit, NoMemory}
use Rattle.qv_qdimacs.specs.declared.faults.QdimacsKind.{QdimacsKind}
use Rattle.qv_qdimacs.specs.declared.faults.QdimacsKind.TheVariants.{Unfinished, Repeated}
use Rattle.qv_qdimacs.specs.Outer.{is_in, AreOnce, variables_of}
use Rattle.qv_qdimacs.specs.Text.{Said, File, Faulty, Part, quantifier_in, with_variable, with_quantifier, with_literal, wrong_word, are_some, at_end, clauses_from, parts_from, words_of, file_of, qdimacs_of}
use Rattle.qv_qdimacs.specs.Answers.{Answers}
use Rattle.qv_qdimacs.proofs.Members.{neither}

-- a fault of what is said, whatever the answer would be else
pub fault-same : {A B : Type 0} (said told : Said) (fault : QdimacsFault) (f : A → Said) (g : B → Said) → said ≡ told → Answers told (Err fault) f → Answers said (Err fault) g
fault-same said told (At place kind) f g is h = is ∙ h
fault-same said told NoMemory f g is h = tt
fault-same said told ReadFault f g is h = absurd h
fault-same said told ReadLimit f g is h = absurd h

-- ---- parts

module _ (prefix : List Quantified) (words : List Word) where
  pub parts-end : words ≡ [] → parts_from prefix None words ≡ clauses_from prefix [] 0 [] words
  unfolding parts_from clauses_from
  parts-end is = rw is refl

  pub part-end : (part : Part) → words ≡ [] → parts_from prefix (Some part) words ≡ Faulty part.place Unfinished
  unfolding parts_from
  part-end part is = rw is refl

module _ (prefix : List Quantified) (words : List Word) (word : Word) (others : List Word) (is : words ≡ word ∷ others) where
  abbrev begun_by : Option Quant → Said
  begun_by found = with_quantifier found (λ q. parts_from prefix (Some (record { quant = q; place = word.place })) others) (clauses_from prefix [] 0 [] (word ∷ others))

  abbrev within_by : Part → Bool → Said
  within_by part zero =
      cond zero (parts_from prefix None others)
      (with_variable word.place prefix (number_from 1 (2 ^ 30) word.text) (λ v. parts_from (prefix ++ record { quant = part.quant; variable = v } ∷ []) (Some part) others))

  pub parts-clauses : quantifier_in word.text ≡ None → parts_from prefix None words ≡ clauses_from prefix [] 0 [] words
  unfolding parts_from
  parts-clauses none = rw is (ap begun_by none)

  pub parts-begin : (q : Quant) → quantifier_in word.text ≡ Some q → parts_from prefix None words ≡ parts_from prefix (Some (record { quant = q; place = word.place })) others
  unfolding parts_from
  parts-begin q some = rw is (ap begun_by some)

  pub part-zero : (part : Part) → is_byte_word 48 word.text ≡ true → parts_from prefix (Some part) words ≡ parts_from prefix None others
  unfolding parts_from
  part-zero part zero = rw is (ap (within_by part) zero)

  pub part-more : (part : Part) → is_byte_word 48 word.text ≡ false
      → parts_from prefix (Some part) words ≡ with_variable word.place prefix (number_from 1 (2 ^ 30) word.text) (λ v. parts_from (prefix ++ record { quant = part.quant; variable = v } ∷ []) (Some part) others)
  unfolding parts_from
  part-more part other = rw is (ap (within_by part) other)

-- ---- clauses

pub none-is : (lits : List Literal) → is_none lits ≡ eqb (length lits) 0
none-is [] = refl
none-is (lit ∷ lits) = sym (ne_eqb (length (lit ∷ lits)) 0 (λ e. absurd (omega (arith, e))))

pub some-is : (n : ℕ) (done : List (List Literal)) → n ≡ length done → ltb 0 n ≡ are_some done
some-is n [] is = rw is refl
some-is n (clause ∷ done) is = lt-ltb 0 n (omega (arith, is))

pub both-true : (a b : Bool) → a ≡ true → b ≡ true → (a && b) ≡ true
both-true true b h k = k
both-true false b h k = absurd (cc)

pub first-false : (a b : Bool) → a ≡ false → (a && b) ≡ false
first-false true b h = absurd (cc)
first-false false b h = refl

pub second-false : (a b : Bool) → b ≡ false → (a && b) ≡ false
second-false true b h = h
second-false false b h = refl

module _ (prefix : List Quantified) (done : List (List Literal)) (start : ℕ) (lits : List Literal) (words : List Word) (is : words ≡ []) where
  ends : (ls : List Literal) (b : Bool) → is_none ls ≡ b → at_end prefix done start ls ≡ cond b (File prefix done) (Faulty start Unfinished)
  ends [] true h = refl
  ends [] false h = absurd (cc)
  ends (l ∷ ls) true h = absurd (cc)
  ends (l ∷ ls) false h = refl

  pub clauses-end : is_none lits ≡ true → clauses_from prefix done start lits words ≡ File prefix done
  unfolding clauses_from
  clauses-end none = rw is (ends lits true none)

  pub clause-end : is_none lits ≡ false → clauses_from prefix done start lits words ≡ Faulty start Unfinished
  unfolding clauses_from
  clause-end some = rw is (ends lits false some)

module _ (prefix : List Quantified) (done : List (List Literal)) (start : ℕ) (lits : List Literal) (words : List Word) (word : Word) (others : List Word) (is : words ≡ word ∷ others) where
  abbrev literal_by : Bool → Said
  literal_by behind =
      with_literal word.place (wrong_word (is_none lits && behind) word.text) (literal_in word.text) (λ lit. clauses_from prefix done (begun start lits word.place) (lits ++ lit ∷ []) others)

  abbrev clause_by : Bool → Bool → Said
  clause_by zero percent = cond zero (clauses_from prefix (done ++ lits ∷ []) 0 [] others) (cond percent (File prefix done) (literal_by (are_some done)))

  pub clause-zero : is_byte_word 48 word.text ≡ true → clauses_from prefix done start lits words ≡ clauses_from prefix (done ++ lits ∷ []) 0 [] others
  unfolding clauses_from
  clause-zero zero = rw is (ap (λ (b : Bool). clause_by b (is_none lits && is_byte_word 37 word.text)) zero)

  pub clause-percent : is_byte_word 48 word.text ≡ false → (is_none lits && is_byte_word 37 word.text) ≡ true → clauses_from prefix done start lits words ≡ File prefix done
  unfolding clauses_from
  clause-percent other percent = rw is (ap (λ (b : Bool). clause_by b (is_none lits && is_byte_word 37 word.text)) other ∙ ap (clause_by false) percent)

  pub clause-more : (behind : Bool) → behind ≡ are_some done → is_byte_word 48 word.text ≡ false → (is_none lits && is_byte_word 37 word.text) ≡ false
      → clauses_from prefix done start lits words
      ≡ with_literal word.place (wrong_word (is_none lits && behind) word.text) (literal_in word.text) (λ lit. clauses_from prefix done (begun start lits word.place) (lits ++ lit ∷ []) others)
  unfolding clauses_from
  clause-more behind same other none =
      rw is (ap (λ (b : Bool). clause_by b (is_none lits && is_byte_word 37 word.text)) other ∙ ap (clause_by false) none ∙ ap literal_by (sym same))

-- ---- no variable comes twice

-- what a text says has no variable twice in its prefix
abbrev IsOnce : Said → Type 0
IsOnce (File prefix clauses) = AreOnce (variables_of prefix)
IsOnce (Faulty place kind) = Unit {0}

both-false : (a b : Bool) → a ≡ false → b ≡ false → (a || (b || false)) ≡ false
both-false true b h k = absurd (cc)
both-false false true h k = absurd (cc)
both-false false false h k = refl

once-push : (vs : List ℕ) (v : ℕ) → AreOnce vs → is_in v vs ≡ false → AreOnce (vs ++ v ∷ [])
once-push [] v h none = (refl, tt)
once-push (w ∷ vs) v h none =
    let apart = neither (eqb v w) (is_in v vs) none in
    let other : eqb w v ≡ false = ne_eqb w v (λ e. eqb-false v w apart.0 (sym e)) in
    (list_any-append (eqb w) vs (v ∷ []) ∙ both-false (is_in w vs) (eqb w v) h.0 other, once-push vs v h.1 apart.1)

end-once : (prefix : List Quantified) (done : List (List Literal)) (start : ℕ) (lits : List Literal) → AreOnce (variables_of prefix) → IsOnce (at_end prefix done start lits)
end-once prefix done start [] h = h
end-once prefix done start (lit ∷ lits) h = tt

literal-once : (place : ℕ) (wrong : QdimacsKind) (found : Option Literal) (next : Literal → Said) → ((lit : Literal) → IsOnce (next lit)) → IsOnce (with_literal place wrong found next)
literal-once place wrong None next h = tt
literal-once place wrong (Some lit) next h = h lit

chosen-once : (b : Bool) (s t : Said) → IsOnce s → IsOnce t → IsOnce (cond b s t)
chosen-once true s t h k = h
chosen-once false s t h k = k

clauses-once : (prefix : List Quantified) (done : List (List Literal)) (start : ℕ) (lits : List Literal) (words : List Word) → AreOnce (variables_of prefix) → IsOnce (clauses_from prefix done start lits words)
unfolding clauses_from
clauses-once prefix done start lits [] h = end-once prefix done start lits h
clauses-once prefix done start lits (word ∷ words) h =
    chosen-once (is_byte_word 48 word.text) (clauses_from prefix (done ++ lits ∷ []) 0 [] words) _ (clauses-once prefix (done ++ lits ∷ []) 0 [] words h)
    (chosen-once (is_none lits && is_byte_word 37 word.text) _ _ h
    (literal-once word.place (wrong_word (is_none lits && are_some done) word.text) (literal_in word.text) _ (λ lit. clauses-once prefix done (begun start lits word.place) (lits ++ lit ∷ []) words h)))

quantifier-once : (found : Option Quant) (next : Quant → Said) (other : Said) → ((q : Quant) → IsOnce (next q)) → IsOnce other → IsOnce (with_quantifier found next other)
quantifier-once None next other h k = k
quantifier-once (Some q) next other h k = h q

variable-once : (place : ℕ) (prefix : List Quantified) (found : Option ℕ) (next : ℕ → Said) → ((v : ℕ) → is_in v (variables_of prefix) ≡ false → IsOnce (next v)) → IsOnce (with_variable place prefix found next)
variable-once place prefix None next h = tt
variable-once place prefix (Some v) next h =
    elim (cases_Bool (is_in v (variables_of prefix))) [
      | inl there ↦ subst (λ (b : Bool). IsOnce (cond b (Faulty place Repeated) (next v))) (sym there) tt
      | inr none ↦ subst (λ (b : Bool). IsOnce (cond b (Faulty place Repeated) (next v))) (sym none) (h v none)
    ]

more-once : (prefix : List Quantified) (q : Quantified) → AreOnce (variables_of prefix) → is_in q.variable (variables_of prefix) ≡ false → AreOnce (variables_of (prefix ++ q ∷ []))
more-once prefix q h none = subst AreOnce (sym (map-append (λ (p : Quantified). p.variable) prefix (q ∷ []))) (once-push (variables_of prefix) q.variable h none)

parts-once : (prefix : List Quantified) (part : Option Part) (words : List Word) → AreOnce (variables_of prefix) → IsOnce (parts_from prefix part words)
unfolding parts_from
parts-once prefix None [] h = h
parts-once prefix (Some part) [] h = tt
parts-once prefix None (word ∷ words) h =
    quantifier-once (quantifier_in word.text) _ _ (λ q. parts-once prefix (Some (record { quant = q; place = word.place })) words h) (clauses-once prefix [] 0 [] (word ∷ words) h)
parts-once prefix (Some part) (word ∷ words) h =
    chosen-once (is_byte_word 48 word.text) _ _ (parts-once prefix None words h)
    (variable-once word.place prefix (number_from 1 (2 ^ 30) word.text) _
    (λ v none. parts-once (prefix ++ record { quant = part.quant; variable = v } ∷ []) (Some part) words (more-once prefix (record { quant = part.quant; variable = v }) h none)))

file-once : (end : ℕ) (lines : List (List Word)) → IsOnce (file_of end lines)
file-once end [] = tt
file-once end (line ∷ others) = chosen-once (pass problem_line line) _ _ (parts-once [] None (words_of others) tt) tt

pub text-once : (text : List ℕ) (prefix : List Quantified) (clauses : List (List Literal)) → qdimacs_of text ≡ File prefix clauses → AreOnce (variables_of prefix)
unfolding qdimacs_of
text-once text prefix clauses says = subst IsOnce says (file-once (length text) (no_comments (lines_from 0 text)))

-- so no file that is read has one
pub answer-once : (text : List ℕ) (answer : Result Qdimacs QdimacsFault) → Answers (qdimacs_of text) answer (λ file. File file.prefix.items file.clauses) → IfOk answer (λ file. AreOnce (variables_of file.prefix.items))
answer-once text (Ok file) h = text-once text file.prefix.items file.clauses h
answer-once text (Err fault) h = tt
