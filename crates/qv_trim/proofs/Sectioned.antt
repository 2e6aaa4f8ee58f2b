-- A section's front, its refutation, and what is kept of both.
use Rattle.std.proofs.Common.{◌≡◌, ℕ, Bool, true, false, Some, None, Ok, List, [], ◌∷◌, ◌++◌, map, append_assoc, refl, sym, ap, subst, ◌∙◌}
use Rattle.std.specs.Prelude.{IsTrue}
use Rattle.std.specs.List.{AllByRecursion}
use Rattle.std.proofs.lemmas.List.Elements.{recursion_from_All}
use Rattle.qv_words.specs.declared.op.Answer.{Answer}
use Rattle.qv_words.specs.declared.op.Answer.TheVariants.{Sat, Unsat, Unknown}
use Rattle.qv_rewrite_passes.specs.declared.pass.Pass.{Pass}
use Rattle.qv_cnf.specs.LratLine.{LratLine, Addition, Deletion}
use Rattle.qv_cert.specs.Line.{CertLine, Check, Rewrite, Lrat, Step, End, IsCertLine}
use Rattle.qv_cert.specs.Grammar.{Reading, cert_line}
use Rattle.qv_cert.specs.ClauseList.{clause_list}
use Rattle.qv_cert.specs.Spelling.{cert_text, is_step}
use Rattle.qv_cert.specs.Faults.{belongs}
use Rattle.qv_cert.specs.Section.{Task}
use Rattle.qv_cert.specs.Shown.{AreRead, IsProof, IsSection, last_list}
use Rattle.qv_cert.proofs.Printed.{printed-lines-are-read}
use Rattle.qv_cert.proofs.Ranges.{read-lines-are-cert-lines}
use Rattle.qv_trim.specs.Needed.{up_to_empty, IsNeeded, KeepsNeeded, nothing, keeps, drops, deletes, IsTrimmed}
use Rattle.qv_trim.specs.Sections.{last_of, HaveNoLast, IsTrimmedProof, StaysUnknown}
use Rattle.qv_trim.specs.TrimLaws.{TrimmedSectionsStand}
use Rattle.qv_trim.proofs.Kept.{kept_refute}

-- ---- texts that are read

-- the first text and the others
abbrev ReadFirst : Bool → (texts : List (List ℕ)) → CertLine → List CertLine → Type 0
ReadFirst inner texts line lines = (text : List ℕ) × (others : List (List ℕ)) × (texts ≡ text ∷ others) × (cert_line inner text ≡ Ok line) × AreRead inner others lines

pub read-first : (inner : Bool) (texts : List (List ℕ)) (line : CertLine) (lines : List CertLine) → AreRead inner texts (line ∷ lines) → ReadFirst inner texts line lines
read-first inner [] line lines r = absurd cc
read-first inner (text ∷ others) line lines r =
    let own : cert_line inner text ≡ Ok line = cc in
    let rest : map (λ t. cert_line inner t) others ≡ map (λ l. Ok l) lines = cc in
    (text, others, refl, own, rest)

pub read-none : (inner : Bool) (texts : List (List ℕ)) → AreRead inner texts [] → texts ≡ []
read-none inner [] r = refl
read-none inner (text ∷ others) r = absurd cc

ok-one : (a b : CertLine) (r : Reading) → r ≡ Ok a → r ≡ Ok b → a ≡ b
ok-one a b r e f =
    let same : ◌≡◌ {A = Reading} (Ok a) (Ok b) = sym e ∙ f in
    cc

cons-head : {X : Type 0} (x y : X) (xs ys : List X) → x ∷ xs ≡ y ∷ ys → x ≡ y
cons-head x y xs ys e = cc

cons-tail : {X : Type 0} (x y : X) (xs ys : List X) → x ∷ xs ≡ y ∷ ys → xs ≡ ys
cons-tail x y xs ys e = cc

-- two readings of one front are one
pub fronts-one : (front front' : List CertLine) (outer outer' inner inner' : List (List ℕ)) → outer ++ inner ≡ outer' ++ inner' → AreRead false outer (front ++ Lrat ∷ []) → AreRead false outer' (front' ++ Lrat ∷ []) → HaveNoLast front → HaveNoLast front'
    → (front ≡ front') × (inner ≡ inner')
fronts-one [] [] outer outer' inner inner' e r r' n n' =
    let a = read-first false outer Lrat [] r in
    let b = read-first false outer' Lrat [] r' in
    let whole : a.0 ∷ (a.1 ++ inner) ≡ b.0 ∷ (b.1 ++ inner') = ap (λ (t : List (List ℕ)). t ++ inner) (sym a.2) ∙ (e ∙ ap (λ (t : List (List ℕ)). t ++ inner') b.2) in
    let tails : a.1 ++ inner ≡ b.1 ++ inner' = cons-tail a.0 b.0 (a.1 ++ inner) (b.1 ++ inner') whole in
    (refl, ap (λ (t : List (List ℕ)). t ++ inner) (sym (read-none false a.1 a.4)) ∙ (tails ∙ ap (λ (t : List (List ℕ)). t ++ inner') (read-none false b.1 b.4)))
fronts-one [] (l ∷ ls) outer outer' inner inner' e r r' n n' =
    let a = read-first false outer Lrat [] r in
    let b = read-first false outer' l (ls ++ Lrat ∷ []) r' in
    let whole : a.0 ∷ (a.1 ++ inner) ≡ b.0 ∷ (b.1 ++ inner') = ap (λ (t : List (List ℕ)). t ++ inner) (sym a.2) ∙ (e ∙ ap (λ (t : List (List ℕ)). t ++ inner') b.2) in
    let same : Lrat ≡ l = ok-one Lrat l (cert_line false a.0) a.3 (ap (cert_line false) (cons-head a.0 b.0 (a.1 ++ inner) (b.1 ++ inner') whole) ∙ b.3) in
    absurd (let no : Some true ≡ None = ap last_of same ∙ n'.0 in cc)
fronts-one (l ∷ ls) [] outer outer' inner inner' e r r' n n' =
    let a = read-first false outer l (ls ++ Lrat ∷ []) r in
    let b = read-first false outer' Lrat [] r' in
    let whole : a.0 ∷ (a.1 ++ inner) ≡ b.0 ∷ (b.1 ++ inner') = ap (λ (t : List (List ℕ)). t ++ inner) (sym a.2) ∙ (e ∙ ap (λ (t : List (List ℕ)). t ++ inner') b.2) in
    let same : l ≡ Lrat = ok-one l Lrat (cert_line false a.0) a.3 (ap (cert_line false) (cons-head a.0 b.0 (a.1 ++ inner) (b.1 ++ inner') whole) ∙ b.3) in
    absurd (let no : Some true ≡ None = ap last_of (sym same) ∙ n.0 in cc)
fronts-one (l ∷ ls) (m ∷ ms) outer outer' inner inner' e r r' n n' =
    let a = read-first false outer l (ls ++ Lrat ∷ []) r in
    let b = read-first false outer' m (ms ++ Lrat ∷ []) r' in
    let whole : a.0 ∷ (a.1 ++ inner) ≡ b.0 ∷ (b.1 ++ inner') = ap (λ (t : List (List ℕ)). t ++ inner) (sym a.2) ∙ (e ∙ ap (λ (t : List (List ℕ)). t ++ inner') b.2) in
    let same : l ≡ m = ok-one l m (cert_line false a.0) a.3 (ap (cert_line false) (cons-head a.0 b.0 (a.1 ++ inner) (b.1 ++ inner') whole) ∙ b.3) in
    let rest = fronts-one ls ms a.1 b.1 inner inner' (cons-tail a.0 b.0 (a.1 ++ inner) (b.1 ++ inner') whole) a.4 b.4 n.1 n'.1 in
    (ap (λ (x : CertLine). x ∷ ls) same ∙ ap (λ (xs : List CertLine). m ∷ xs) rest.0, rest.1)

step-one : (s t : LratLine) → Step s ≡ Step t → s ≡ t
step-one s t e = cc

-- and so are two of one refutation
pub steps-one : (steps steps' : List LratLine) (inner : List (List ℕ)) → AreRead true inner (map Step steps ++ End ∷ []) → AreRead true inner (map Step steps' ++ End ∷ []) → steps ≡ steps'
steps-one [] [] inner r r' = refl
steps-one [] (s ∷ ss) inner r r' =
    let a = read-first true inner End [] r in
    let b = read-first true inner (Step s) (map Step ss ++ End ∷ []) r' in
    let same : End ≡ Step s = ok-one End (Step s) (cert_line true a.0) a.3 (ap (cert_line true) (cons-head a.0 b.0 a.1 b.1 (sym a.2 ∙ b.2)) ∙ b.3) in
    absurd cc
steps-one (s ∷ ss) [] inner r r' =
    let a = read-first true inner (Step s) (map Step ss ++ End ∷ []) r in
    let b = read-first true inner End [] r' in
    let same : Step s ≡ End = ok-one (Step s) End (cert_line true a.0) a.3 (ap (cert_line true) (cons-head a.0 b.0 a.1 b.1 (sym a.2 ∙ b.2)) ∙ b.3) in
    absurd cc
steps-one (s ∷ ss) (t ∷ ts) inner r r' =
    let a = read-first true inner (Step s) (map Step ss ++ End ∷ []) r in
    let b = read-first true inner (Step t) (map Step ts ++ End ∷ []) r' in
    let whole : a.0 ∷ a.1 ≡ b.0 ∷ b.1 = sym a.2 ∙ b.2 in
    let same : Step s ≡ Step t = ok-one (Step s) (Step t) (cert_line true a.0) a.3 (ap (cert_line true) (cons-head a.0 b.0 a.1 b.1 whole) ∙ b.3) in
    let rest : ss ≡ ts = steps-one ss ts a.1 a.4 (subst (λ (texts : List (List ℕ)). AreRead true texts (map Step ts ++ End ∷ [])) (sym (cons-tail a.0 b.0 a.1 b.1 whole)) b.4) in
    ap (λ (x : LratLine). x ∷ ss) (step-one s t same) ∙ ap (λ (xs : List LratLine). t ∷ xs) rest

-- ---- the front of a section

belongs-before : (answer : Answer) (line : CertLine) → IsTrue (belongs answer line) → last_of line ≡ None
belongs-before Sat Lrat h = absurd cc
belongs-before Unsat Lrat h = absurd cc
belongs-before Unknown Lrat h = absurd cc
belongs-before Sat End h = absurd cc
belongs-before Unsat End h = absurd cc
belongs-before Unknown End h = absurd cc
belongs-before answer line h = refl

belongs-outer : (answer : Answer) (line : CertLine) → IsTrue (belongs answer line) → is_step line ≡ false
belongs-outer Sat (Step line) h = absurd cc
belongs-outer Unsat (Step line) h = absurd cc
belongs-outer Unknown (Step line) h = absurd cc
belongs-outer answer line h = refl

both-parts : {X : Type 0} (P : X → Type 0) (xs ys : List X) → AllByRecursion P xs → AllByRecursion P ys → AllByRecursion P (xs ++ ys)
both-parts P [] ys h k = k
both-parts P (x ∷ xs) ys h k = (h.0, both-parts P xs ys h.1 k)

weaker : {X : Type 0} (P Q : X → Type 0) (xs : List X) → ((x : X) → P x → Q x) → AllByRecursion P xs → AllByRecursion Q xs
weaker P Q [] f h = tt
weaker P Q (x ∷ xs) f h = (f x h.0, weaker P Q xs f h.1)

passes-before : (passes : List Pass) → HaveNoLast (map Rewrite passes)
passes-before [] = tt
passes-before (p ∷ ps) = (refl, passes-before ps)

passes-outer : (passes : List Pass) → AllByRecursion (λ line. is_step line ≡ false) (map Rewrite passes)
passes-outer [] = tt
passes-outer (p ∷ ps) = (refl, passes-outer ps)

module _ (task : Task) (answer : Answer) (texts : List (List ℕ)) (p : IsProof task answer texts) where
  pub front_of : List CertLine
  front_of = Check task.number answer ∷ (p.given ++ map Rewrite p.passes)

  front-whole_is : Check task.number answer ∷ (p.given ++ (map Rewrite p.passes ++ Lrat ∷ [])) ≡ front_of ++ Lrat ∷ []
  unfolding front_of
  front-whole_is = ap (λ (rest : List CertLine). Check task.number answer ∷ rest) (sym (append_assoc p.given (map Rewrite p.passes) (Lrat ∷ [])))

  pub front-read : AreRead false p.outer (front_of ++ Lrat ∷ [])
  front-read = subst (λ (lines : List CertLine). AreRead false p.outer lines) front-whole_is p.outer_are

  pub front-before : HaveNoLast front_of
  unfolding front_of
  front-before = (
    refl,
    both-parts (λ (line : CertLine). last_of line ≡ None) p.given (map Rewrite p.passes)
        (weaker (λ (line : CertLine). IsTrue (belongs answer line)) (λ (line : CertLine). last_of line ≡ None) p.given (belongs-before answer) (recursion_from_All (λ (line : CertLine). IsTrue (belongs answer line)) p.given p.belong))
        (passes-before p.passes),
  )

  front-outer : AllByRecursion (λ line. is_step line ≡ false) (front_of ++ Lrat ∷ [])
  unfolding front_of
  front-outer =
      both-parts (λ (line : CertLine). is_step line ≡ false) front_of (Lrat ∷ []) (
        refl,
        both-parts (λ (line : CertLine). is_step line ≡ false) p.given (map Rewrite p.passes)
            (weaker (λ (line : CertLine). IsTrue (belongs answer line)) (λ (line : CertLine). is_step line ≡ false) p.given (belongs-outer answer) (recursion_from_All (λ (line : CertLine). IsTrue (belongs answer line)) p.given p.belong))
            (passes-outer p.passes),
      )
      (refl, tt)

  -- the way to trim it is one of this proof's own parts
  pub record OwnTrimmed (trimmed : List CertLine) : Type 0 where
    pub kept : List LratLine
    pub keeps : IsTrimmed p.steps kept
    pub trimmed_are : trimmed ≡ front_of ++ (Lrat ∷ (map Step kept ++ End ∷ []))

  pub own-trimmed : (trimmed : List CertLine) → IsTrimmedProof texts trimmed → OwnTrimmed trimmed
  own-trimmed trimmed t =
      let one = fronts-one t.front front_of t.outer p.outer t.inner p.inner (sym t.texts_are ∙ p.texts_are) t.outer_are front-read t.no_last front-before in
      let steps : t.steps ≡ p.steps = steps-one t.steps p.steps p.inner (subst (λ (texts : List (List ℕ)). AreRead true texts (map Step t.steps ++ End ∷ [])) one.1 t.inner_are) p.inner_are in
      record {
        kept = t.kept;
        keeps = subst (λ (ls : List LratLine). IsTrimmed ls t.kept) steps t.keeps;
        trimmed_are = t.trimmed_are ∙ ap (λ (f : List CertLine). f ++ (Lrat ∷ (map Step t.kept ++ End ∷ []))) one.0;
      }

  pub trimmed-own : (kept : List LratLine) → IsTrimmed p.steps kept → IsTrimmedProof texts (front_of ++ (Lrat ∷ (map Step kept ++ End ∷ [])))
  trimmed-own kept k = record {
    front = front_of;
    steps = p.steps;
    kept = kept;
    outer = p.outer;
    inner = p.inner;
    texts_are = p.texts_are;
    no_last = front-before;
    outer_are = front-read;
    inner_are = p.inner_are;
    keeps = k;
    trimmed_are = refl;
  }

-- ---- the trimmed section, printed

lines-in_range : (inner : Bool) (texts : List (List ℕ)) (lines : List CertLine) → AreRead inner texts lines → AllByRecursion IsCertLine lines
lines-in_range inner texts [] r = tt
lines-in_range inner texts (l ∷ ls) r =
    let a = read-first inner texts l ls r in
    (read-lines-are-cert-lines inner a.0 l a.3, lines-in_range inner a.1 ls a.4)

outer-read : (lines : List CertLine) → AllByRecursion IsCertLine lines → AllByRecursion (λ line. is_step line ≡ false) lines → AreRead false (map cert_text lines) lines
outer-read [] h k = refl
outer-read (line ∷ lines) h k =
    let own : cert_line false (cert_text line) ≡ Ok line = subst (λ (b : Bool). cert_line b (cert_text line) ≡ Ok line) k.0 (printed-lines-are-read line h.0).0 in
    ap (λ (r : Reading). r ∷ map (λ text. cert_line false text) (map cert_text lines)) own ∙ ap (λ (rs : List Reading). Ok line ∷ rs) (outer-read lines h.1 k.1)

inner-read : (steps : List LratLine) → AllByRecursion IsCertLine (map Step steps ++ End ∷ []) → AreRead true (map cert_text (map Step steps ++ End ∷ [])) (map Step steps ++ End ∷ [])
inner-read [] h = ap (λ (r : Reading). r ∷ []) (printed-lines-are-read End h.0).1
inner-read (step ∷ steps) h =
    ap (λ (r : Reading). r ∷ map (λ text. cert_line true text) (map cert_text (map Step steps ++ End ∷ []))) (printed-lines-are-read (Step step) h.0).0
    ∙ ap (λ (rs : List Reading). Ok (Step step) ∷ rs) (inner-read steps h.1)

-- what is kept of lines is in range where they are
kept-in_range : (needed : ℕ → Type 0) (lines kept : List LratLine) → KeepsNeeded needed lines kept → (more : List CertLine) → AllByRecursion IsCertLine (map Step lines ++ more) → AllByRecursion IsCertLine (map Step kept ++ more)
kept-in_range needed lines kept nothing more h = h
kept-in_range needed lines kept (keeps id lits hints ls ks is k) more h = (h.0, kept-in_range needed ls ks k more h.1)
kept-in_range needed lines kept (drops id lits hints ls ks is k) more h = kept-in_range needed ls ks k more h.1
kept-in_range needed lines kept (deletes id ids ls ks k) more h = (h.0, kept-in_range needed ls ks k more h.1)

up_to-in_range : (lines : List LratLine) (more : List CertLine) → AllByRecursion IsCertLine (map Step lines ++ more) → AllByRecursion IsCertLine more → AllByRecursion IsCertLine (map Step (up_to_empty lines) ++ more)
up_to-in_range [] more h m = h
up_to-in_range (Deletion id ids ∷ lines) more h m = (h.0, up_to-in_range lines more h.1 m)
up_to-in_range (Addition id [] hints ∷ lines) more h m = (h.0, m)
up_to-in_range (Addition id (l ∷ ls) hints ∷ lines) more h m = (h.0, up_to-in_range lines more h.1 m)

map-both : {X Y : Type 0} (f : X → Y) (xs ys : List X) → map f (xs ++ ys) ≡ map f xs ++ map f ys
map-both f [] ys = refl
map-both {X} {Y} f (x ∷ xs) ys = ap (λ (rest : List Y). f x ∷ rest) (map-both f xs ys)

proof-stands : (task : Task) (answer : Answer) (texts : List (List ℕ)) (trimmed : List CertLine) → IsProof task answer texts → IsTrimmedProof texts trimmed → IsProof task answer (map cert_text trimmed)
proof-stands task answer texts trimmed p t =
    let own = own-trimmed task answer texts p trimmed t in
    let front = front_of task answer texts p in
    let range : AllByRecursion IsCertLine (front ++ Lrat ∷ []) = lines-in_range false p.outer (front ++ Lrat ∷ []) (front-read task answer texts p) in
    let steps : AllByRecursion IsCertLine (map Step own.kept ++ End ∷ []) =
    kept-in_range (IsNeeded (up_to_empty p.steps)) (up_to_empty p.steps) own.kept own.keeps (End ∷ []) (up_to-in_range p.steps (End ∷ []) (lines-in_range true p.inner (map Step p.steps ++ End ∷ []) p.inner_are) (tt, tt))
    in
    let split : map cert_text trimmed ≡ map cert_text (front ++ Lrat ∷ []) ++ map cert_text (map Step own.kept ++ End ∷ []) =
    ap (map cert_text) (own.trimmed_are ∙ sym (append_assoc front (Lrat ∷ []) (map Step own.kept ++ End ∷ []))) ∙ map-both cert_text (front ++ Lrat ∷ []) (map Step own.kept ++ End ∷ [])
    in
    record {
      given = p.given;
      passes = p.passes;
      steps = own.kept;
      outer = map cert_text (front ++ Lrat ∷ []);
      inner = map cert_text (map Step own.kept ++ End ∷ []);
      texts_are = split;
      outer_are = subst (λ (lines : List CertLine). AreRead false (map cert_text (front ++ Lrat ∷ [])) lines) (sym (front-whole_is task answer texts p)) (outer-read (front ++ Lrat ∷ []) range (front-outer task answer texts p));
      inner_are = inner-read own.kept steps;
      belong = p.belong;
      lawful = p.lawful;
      version = p.version;
      listed = p.listed;
      few = p.few;
      refutes = kept_refute (clause_list (last_list task.problem answer p.given p.passes)) p.steps own.kept p.refutes own.keeps;
    }

unknown-stands : (task : Task) (texts : List (List ℕ)) (trimmed : List CertLine) → IsSection task Unknown texts → StaysUnknown texts trimmed → IsSection task Unknown (map cert_text trimmed)
unknown-stands task texts trimmed s (number, r, e) =
    let a = read-first false texts (Check task.number Unknown) (End ∷ []) s in
    let b = read-first false texts (Check number Unknown) (End ∷ []) r in
    let same : Check number Unknown ≡ Check task.number Unknown = ok-one (Check number Unknown) (Check task.number Unknown) (cert_line false b.0) b.3 (ap (cert_line false) (cons-head b.0 a.0 b.1 a.1 (sym b.2 ∙ a.2)) ∙ a.3) in
    let lines : trimmed ≡ Check task.number Unknown ∷ End ∷ [] = e ∙ ap (λ (l : CertLine). l ∷ End ∷ []) same in
    let range : AllByRecursion IsCertLine (Check task.number Unknown ∷ End ∷ []) = lines-in_range false texts (Check task.number Unknown ∷ End ∷ []) s in
    subst (λ (ls : List CertLine). AreRead false (map cert_text ls) (Check task.number Unknown ∷ End ∷ [])) (sym lines) (outer-read (Check task.number Unknown ∷ End ∷ []) range (refl, (refl, tt)))

pub trimmed_sections_stand : TrimmedSectionsStand
trimmed_sections_stand task Sat texts trimmed s t = proof-stands task Sat texts trimmed s t
trimmed_sections_stand task Unsat texts trimmed s t = proof-stands task Unsat texts trimmed s t
trimmed_sections_stand task Unknown texts trimmed s t = unknown-stands task texts trimmed s t
