-- Lines behind lines.
use Rattle.std.proofs.Common.{◌≡◌, ℕ, suc, ◌+◌, ◌≤◌, Some, List, [], ◌∷◌, ◌++◌, length, map, take, slice_get, refl, sym, ap, ◌∙◌, append_assoc, append-nil, arith}
use Rattle.std.specs.Prelude.{All, Err, Ok, OnOk, Result}
use Rattle.std.specs.List.{AllByRecursion}
use Rattle.std.proofs.lemmas.List.{map-append, take_all}
use Rattle.std.proofs.lemmas.List.Elements.{All-from_recursion, recursion_from_All}
use Rattle.qv_words.proofs.Elements.{take-one}
use Rattle.qv_cert.specs.declared.line.Line.{Line}
use Rattle.qv_cnf.specs.LratLine.{LratLine}
use Rattle.qv_lrat_text.specs.Grammar.{HasIds}
use Rattle.qv_cert.specs.Line.{CertLine, IsCertLine, Step}
use Rattle.qv_cert.specs.LineView.{cert_line_of}
use Rattle.qv_cert_nodes.proofs.Grown.{map-pushed}
use Rattle.qv_solve_write.specs.Said.{lines_said}
use Rattle.qv_solve_write.proofs.Written.{form-more, said-more}

-- the lines of the first of some things came behind others
pub record IsLining {A : Type 0} (line : A → CertLine) (old : List Line) (xs : List A) (i : ℕ) (new : List Line) : Type 0 where
  pub lines_are : lines_said new ≡ lines_said old ++ map line (take i xs)
  pub form : All IsCertLine (lines_said new)

pub lining-none : {A : Type 0} (line : A → CertLine) (old : List Line) (xs : List A) → All IsCertLine (lines_said old) → IsLining line old xs 0 old
lining-none line old xs h = record { lines_are = sym (append-nil (lines_said old)); form = h }

pub lining-next : {A : Type 0} (line : A → CertLine) (old : List Line) (xs : List A) (i : ℕ) (x : A) (now new : List Line) (pushed : Line) → slice_get xs i ≡ Some x → new ≡ now ++ pushed ∷ [] → cert_line_of pushed ≡ line x →
    IsCertLine (cert_line_of pushed) → IsLining line old xs i now → IsLining line old xs (i + 1) new
lining-next line old xs i x now new pushed at e is own inv =
    let up : i + 1 ≡ suc i = omega arith in
    let next : take (i + 1) xs ≡ take i xs ++ x ∷ [] = ap (λ n. take n xs) up ∙ take-one xs i x at in
    record {
      lines_are =
          said-more now new pushed e
          ∙ ap (λ (ls : List CertLine). ls ++ cert_line_of pushed ∷ []) inv.lines_are
          ∙ append_assoc (lines_said old) (map line (take i xs)) (cert_line_of pushed ∷ [])
          ∙ ap (λ (l : CertLine). lines_said old ++ (map line (take i xs) ++ l ∷ [])) is
          ∙ ap (λ (ls : List CertLine). lines_said old ++ ls) (sym (map-pushed line (take i xs) x) ∙ ap (map line) (sym next));
      form = form-more now new pushed e own inv.form;
    }

pub lining-end : {A : Type 0} (line : A → CertLine) (old : List Line) (xs : List A) (i : ℕ) (new : List Line) → length xs ≤ i → IsLining line old xs i new → lines_said new ≡ lines_said old ++ map line xs
lining-end line old xs i new h inv = inv.lines_are ∙ ap (λ ys. lines_said old ++ map line ys) (take_all i xs h)

pub map-twice : {A B C : Type 0} (f : A → B) (g : B → C) (xs : List A) → map (λ x. g (f x)) xs ≡ map g (map f xs)
map-twice f g [] = refl
map-twice f g (x ∷ xs) = ap (λ ys. g (f x) ∷ ys) (map-twice f g xs)

-- ---- two lists of steps

pub both-lined : {E : Type 0} (r : Result (Unit {0}) E) (old now new : List CertLine) (laid steps : List LratLine) → now ≡ old ++ map Step laid → OnOk r (new ≡ now ++ map Step steps) → OnOk r (new ≡ old ++ map Step (laid ++ steps))
both-lined (Err f) old now new laid steps e h = tt
both-lined (Ok x) old now new laid steps e h =
    h ∙ ap (λ (ls : List CertLine). ls ++ map Step steps) e ∙ append_assoc old (map Step laid) (map Step steps)
    ∙ ap (λ (ls : List CertLine). old ++ ls) (sym (map-append Step laid steps))

front : (xs ys : List LratLine) → AllByRecursion HasIds (xs ++ ys) → AllByRecursion HasIds xs × AllByRecursion HasIds ys
front [] ys h = (tt, h)
front (x ∷ xs) ys h = let rest = front xs ys h.1 in ((h.0, rest.0), rest.1)

pub ids-front : (xs ys : List LratLine) → All HasIds (xs ++ ys) → All HasIds xs
ids-front xs ys h = All-from_recursion HasIds xs (front xs ys (recursion_from_All HasIds (xs ++ ys) h)).0

pub ids-behind : (xs ys : List LratLine) → All HasIds (xs ++ ys) → All HasIds ys
ids-behind xs ys h = All-from_recursion HasIds ys (front xs ys (recursion_from_All HasIds (xs ++ ys) h)).1
