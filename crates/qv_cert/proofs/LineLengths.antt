-- How long the text of a line is at least.
use Rattle.std.proofs.Common.{◌≡◌, ℕ, zero, suc, ◌≤◌, ◌==◌, Bool, true, false, cond, List, [], ◌∷◌, ◌++◌, length, Some, None, refl, sym, ap, ◌∙◌, arith, codes}
use Rattle.std.specs.Prelude.{Ok, Err}
use Rattle.std.specs.Str.{bytes_eq}
use Rattle.std.proofs.lemmas.List.{length-append}
use Rattle.std.proofs.lemmas.Bool.{and_parts}
use Rattle.qv_lrat_text.specs.Words.{is_blank, is_ended, words, IsWord}
use Rattle.std.specs.Prelude.{take, ◌-◌, slice_index}
use Rattle.std.proofs.lemmas.List.{length-take}
use Rattle.qv_lrat_text.specs.Grammar.{without_lf}
use Rattle.qv_lrat_text.proofs.WordGrammar.{words_are_spaced}
use Rattle.qv_cert.specs.declared.kind.RefusalKind.TheVariants as kind
use Rattle.qv_cert.specs.Line.{CertLine, Lrat, End}
use Rattle.qv_cert.specs.Grammar.{Reading, cert_line, outer_line, inner_line, formed, behind_word}
use Rattle.qv_cert.specs.Text.{only_header, line_behind}

-- behind a word comes a blank, if another word comes
gap : (rest blanks word more : List ℕ) → rest ≡ blanks ++ (word ++ more) → is_ended rest ≡ true → IsWord word → 1 ≤ length blanks
gap rest (b ∷ blanks) word more e ends is = omega arith
gap rest [] [] more e ends is = absurd (omega (arith, is.0))
gap rest [] (c ∷ cs) more e ends is =
    let blank : is_blank c ≡ true = sym (ap is_ended e) ∙ ends in
    let no_blank : is_blank c ≡ false = is.1.0 in
    absurd cc

-- a text of two words or more has three bytes or more
pub two_words : (text : List ℕ) (a b : List ℕ) (others : List (List ℕ)) → words text ≡ a ∷ b ∷ others → 3 ≤ length text
two_words text a b others e =
    let h = (words_are_spaced text (a ∷ b ∷ others)).0 e in
    let k = h.6 in
    let between = gap h.1 k.0 b k.1 k.2 h.5 k.4 in
    let first = ap length h.2 in
    let second = ap length k.2 in
    omega (arith, between, first, second, h.4.0, k.4.0, length-append h.0 (a ++ h.1), length-append a h.1, length-append k.0 (b ++ k.1), length-append b k.1)

pub one_word_fits : (text a : List ℕ) → words text ≡ a ∷ [] → length a ≤ length text
one_word_fits text a e =
    let h = (words_are_spaced text (a ∷ [])).0 e in
    omega (arith, ap length h.2, length-append h.0 (a ++ h.1), length-append a h.1)

-- ---- lines

same_length : (xs ys : List ℕ) → bytes_eq xs ys ≡ true → length xs ≡ length ys
same_length [] [] e = refl
same_length [] (y ∷ ys) e = absurd cc
same_length (x ∷ xs) [] e = absurd cc
same_length (x ∷ xs) (y ∷ ys) e = ap suc (same_length xs ys (and_parts (x == y) (bytes_eq xs ys) e).1)

-- what stands alone: a keyword of three bytes or more
alone_is_long : (word : List ℕ) (line : CertLine) → formed (behind_word word []) ≡ Ok line → 3 ≤ length word
alone_is_long word line e =
    go (bytes_eq word (codes "qbv-cert")) (bytes_eq word (codes "check")) (bytes_eq word (codes "n")) (bytes_eq word (codes "s")) (bytes_eq word (codes "i")) (bytes_eq word (codes "e")) (bytes_eq word (codes "w"))
    (bytes_eq word (codes "lrat")) (bytes_eq word (codes "end")) (λ t. omega (arith, same_length word (codes "lrat") t)) (λ t. omega (arith, same_length word (codes "end") t)) e
  where
    go : (a b c d e f g h i : Bool) → (h ≡ true → 3 ≤ length word) → (i ≡ true → 3 ≤ length word) →
        formed (cond a (Some (Err kind.Header)) (cond b None (cond c None (cond d None (cond e None (cond f None (cond g None (cond h (Some (Ok Lrat)) (cond i (Some (Ok End)) None))))))))) ≡ Ok line → 3 ≤ length word
    go true b c d e f g h i lrat last r = absurd cc
    go false true c d e f g h i lrat last r = absurd cc
    go false false true d e f g h i lrat last r = absurd cc
    go false false false true e f g h i lrat last r = absurd cc
    go false false false false true f g h i lrat last r = absurd cc
    go false false false false false true g h i lrat last r = absurd cc
    go false false false false false false true h i lrat last r = absurd cc
    go false false false false false false false true i lrat last r = lrat refl
    go false false false false false false false false true lrat last r = last refl
    go false false false false false false false false false lrat last r = absurd cc

outer_long : (text : List ℕ) (ws : List (List ℕ)) (line : CertLine) → words text ≡ ws → outer_line ws ≡ Ok line → 3 ≤ length text
outer_long text [] line w e = absurd cc
outer_long text (a ∷ []) line w e = omega (arith, one_word_fits text a w, alone_is_long a line e)
outer_long text (a ∷ b ∷ others) line w e = two_words text a b others w

inner_long : (text : List ℕ) (ws : List (List ℕ)) (line : CertLine) → words text ≡ ws → inner_line ws ≡ Ok line → 3 ≤ length text
inner_long text [] line w e = absurd cc
inner_long text (a ∷ []) line w e = omega (arith, one_word_fits text a w, end_is_long (bytes_eq a (codes "end")) refl e)
  where
    end_is_long : (b : Bool) → bytes_eq a (codes "end") ≡ b → inner_line (a ∷ []) ≡ Ok line → 3 ≤ length a
    end_is_long true test read = omega (arith, same_length a (codes "end") test)
    end_is_long false test read = let none : inner_line (a ∷ []) ≡ Err kind.Form = rw test refl in absurd cc
inner_long text (a ∷ b ∷ others) line w e = two_words text a b others w

stripped : (text : List ℕ) → length (without_lf text) ≤ length text
stripped text = go (slice_index text (length text - 1) == 10)
  where
    go : (b : Bool) → length (cond b (take (length text - 1) text) text) ≤ length text
    go true = omega (arith, length-take (length text - 1) text)
    go false = omega arith

long : (inner : Bool) (text : List ℕ) (line : CertLine) → cert_line inner text ≡ Ok line → 3 ≤ length text
unfolding cert_line
long true text line e = omega (arith, stripped text, inner_long (without_lf text) (words (without_lf text)) line refl e)
long false text line e = omega (arith, stripped text, outer_long (without_lf text) (words (without_lf text)) line refl e)

header_was : (r : Reading) (line : CertLine) → only_header r ≡ Ok line → (l : CertLine) × (r ≡ Ok l)
header_was (Err k) line e = absurd cc
header_was (Ok l) line e = (l, refl)

-- a line has three bytes or more
pub line_is_long : (given : ℕ) (inner : Bool) (text : List ℕ) (line : CertLine) → line_behind given inner text ≡ Ok line → 3 ≤ length text
line_is_long zero inner text line e = let h = header_was (cert_line false text) line e in long false text h.0 h.1
line_is_long (suc given) inner text line e = long inner text line e
