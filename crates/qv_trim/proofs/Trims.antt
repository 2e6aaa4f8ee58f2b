-- A refutation whose additions are marked, and a section that is trimmed.
use Rattle.std.proofs.Common.{◌≡◌, ℕ, suc, Bool, true, false, not, Option, Some, List, [], ◌∷◌, ◌++◌, length, map, take, drop, codes, ℤ, append_assoc, refl, sym, ap, subst, ◌∙◌, arith}
use Rattle.std.specs.Prelude.{All, slice_get}
use Rattle.std.specs.List.{flat_map}
use Rattle.std.proofs.lemmas.Bool.{and_parts}
use Rattle.std.proofs.lemmas.List.{take-append-drop}
use Rattle.std.proofs.lemmas.List.Elements.{recursion_from_All}
use Rattle.qv_io.specs.Sink.{Appends, AppendsPart}
use Rattle.qv_io.proofs.SinkLemmas.{Appends-append}
use Rattle.qv_words.specs.declared.op.Answer.{Answer}
use Rattle.qv_words.specs.declared.op.Answer.TheVariants.{Sat, Unsat, Unknown}
use Rattle.qv_cnf.specs.Literal.{Literal}
use Rattle.qv_cnf.specs.Listing.{Numbered}
use Rattle.qv_cnf.specs.LratLine.{LratLine, Addition, Deletion}
use Rattle.qv_cnf.specs.Refutation.{Standing, accepts, judged_line, after_line, refutes_from, standing_at, Refutes}
use Rattle.qv_cert.specs.Line.{CertLine, Check, Lrat, Step, End}
use Rattle.qv_cert.specs.ClauseList.{clause_list}
use Rattle.qv_cert.specs.Section.{Task}
use Rattle.qv_cert.specs.Shown.{AreRead, IsProof, last_list}
use Rattle.qv_cert.specs.Spelling.{cert_text}
use Rattle.qv_cert.specs.TextLaws.{HasNoLf, bytes_of_lines}
use Rattle.qv_trim.specs.Needed.{up_to_empty, IsNeeded, KeepsNeeded, nothing, keeps, drops, deletes, IsTrimmed}
use Rattle.qv_trim.specs.Entries.{AreEntries}
use Rattle.qv_trim.specs.declared.entries.Entry.{Entry}
use Rattle.qv_trim.specs.Marking.{IsMarked, AreMarked}
use Rattle.qv_trim.specs.Sections.{IsTrimmedProof, IsTrimmedSection, BeginsWithSection}
use Rattle.qv_trim.specs.Texts.{BeginsWith, Begins, BeginsWithNone, ReadsStep, ReadsOutside}
use Rattle.qv_trim.specs.Sections.{AppendsFront}
use Rattle.qv_trim.specs.Writing.{steps_text, kept_by, IsFront}
use Rattle.qv_trim.proofs.Kept.{trimmed_are_one}
use Rattle.qv_trim.proofs.Marked.{some-entry, some-one}
use Rattle.qv_trim.proofs.Sectioned.{front_of, own-trimmed, trimmed-own}
use Rattle.qv_trim.proofs.Told.{begins-outer, told-proof, trimmed-text}
use Rattle.qv_trim.proofs.Written.{front-then}

-- ---- what is kept by marks is what is needed

abbrev AreMarkedBy : (ℕ → Type 0) → List Entry → List Bool → Type 0
AreMarkedBy needed [] [] = Unit {0}
AreMarkedBy needed [] (m ∷ ms) = ⊥
AreMarkedBy needed (e ∷ es) [] = ⊥
AreMarkedBy needed (e ∷ es) (m ∷ ms) = (m ≡ true → needed e.id) × (needed e.id → m ≡ true) × AreMarkedBy needed es ms

marked-each : (needed : ℕ → Type 0) (es : List Entry) (marks : List Bool) → length marks ≡ length es → ((k : ℕ) (e : Entry) → IsMarked marks k → slice_get es k ≡ Some e → needed e.id)
    → ((k : ℕ) (e : Entry) → slice_get es k ≡ Some e → needed e.id → IsMarked marks k) → AreMarkedBy needed es marks
marked-each needed [] [] size sound whole = tt
marked-each needed [] (m ∷ ms) size sound whole = absurd (omega (arith, size))
marked-each needed (e ∷ es) [] size sound whole = absurd (omega (arith, size))
marked-each needed (e ∷ es) (m ∷ ms) size sound whole = (
  λ is. sound 0 e (ap (λ (b : Bool). Some b) is) refl,
  λ n. some-one m true (whole 0 e refl n),
  marked-each needed es ms (omega (arith, size)) (λ k f is at. sound (suc k) f is at) (λ k f at n. whole (suc k) f at n),
)

module _ (needed : ℕ → Type 0) (text : List ℕ) where
  keeps-last : (mark : Bool) (id : ℕ) (lits : List Literal) (hints : List ℤ) (lines : List LratLine) → (mark ≡ true → needed id) → (needed id → mark ≡ true) → KeepsNeeded needed (Addition id lits hints ∷ []) (kept_by (mark ∷ []) (Addition id lits hints ∷ lines))
  keeps-last true id lits hints lines sound whole = keeps id lits hints [] [] (sound refl) nothing
  keeps-last false id lits hints lines sound whole = drops id lits hints [] [] (λ n. (let same : false ≡ true = whole n in cc)) nothing

  keeps-one : (mark : Bool) (marks : List Bool) (id : ℕ) (lits : List Literal) (hints : List ℤ) (lines up : List LratLine) → (mark ≡ true → needed id) → (needed id → mark ≡ true) → KeepsNeeded needed up (kept_by marks lines) → KeepsNeeded needed (Addition id lits hints ∷ up) (kept_by (mark ∷ marks) (Addition id lits hints ∷ lines))
  keeps-one true marks id lits hints lines up sound whole k = keeps id lits hints up (kept_by marks lines) (sound refl) k
  keeps-one false marks id lits hints lines up sound whole k = drops id lits hints up (kept_by marks lines) (λ n. (let same : false ≡ true = whole n in cc)) k

  keeps-marked : (s : Standing) (lines : List LratLine) (es : List Entry) (marks : List Bool) → refutes_from s lines ≡ true → AreEntries text (up_to_empty lines) es → AreMarkedBy needed es marks → KeepsNeeded needed (up_to_empty lines) (kept_by marks lines)
  keeps-marked s [] es marks h a m = absurd cc
  keeps-marked s (Deletion id ids ∷ lines) [] marks h a m = absurd (some-entry text (after_line s (Deletion id ids)) lines h a)
  keeps-marked s (Deletion id ids ∷ lines) (e ∷ es) [] h a m = absurd m
  keeps-marked s (Deletion id ids ∷ lines) (e ∷ es) (mark ∷ marks) h a m =
      deletes id ids (up_to_empty lines) (kept_by (mark ∷ marks) lines) (keeps-marked (after_line s (Deletion id ids)) lines (e ∷ es) (mark ∷ marks) h a m)
  keeps-marked s (Addition id [] hints ∷ lines) [] marks h a m = absurd a
  keeps-marked s (Addition id [] hints ∷ lines) (e ∷ f ∷ es) marks h a m = absurd a.1
  keeps-marked s (Addition id [] hints ∷ lines) (e ∷ []) [] h a m = absurd m
  keeps-marked s (Addition id [] hints ∷ lines) (e ∷ []) (mark ∷ n ∷ marks) h a m = absurd m.2
  keeps-marked s (Addition id [] hints ∷ lines) (e ∷ []) (mark ∷ []) h a m =
      keeps-last mark id [] hints lines (λ is. subst needed a.0.0 (m.0 is)) (λ n. m.1 (subst needed (sym a.0.0) n))
  keeps-marked s (Addition id (l ∷ ls) hints ∷ lines) [] marks h a m = absurd a
  keeps-marked s (Addition id (l ∷ ls) hints ∷ lines) (e ∷ es) [] h a m = absurd m
  keeps-marked s (Addition id (l ∷ ls) hints ∷ lines) (e ∷ es) (mark ∷ marks) h a m =
      let line : LratLine = Addition id (l ∷ ls) hints in
      let parts = and_parts (accepts (judged_line s line)) (refutes_from (after_line s line) lines) h in
      keeps-one mark marks id (l ∷ ls) hints lines (up_to_empty lines) (λ is. subst needed a.0.0 (m.0 is)) (λ n. m.1 (subst needed (sym a.0.0) n))
      (keeps-marked (after_line s line) lines es marks parts.1 a.1 m.2)

pub kept-is_trimmed : (text : List ℕ) (live : List Numbered) (lines : List LratLine) (es : List Entry) (marks : List Bool) → Refutes live lines → AreEntries text (up_to_empty lines) es → AreMarked (up_to_empty lines) es marks → IsTrimmed lines (kept_by marks lines)
kept-is_trimmed text live lines es marks h a m =
    keeps-marked (IsNeeded (up_to_empty lines)) text (standing_at live) lines es marks h a (marked-each (IsNeeded (up_to_empty lines)) es marks m.each m.sound m.whole)

-- ---- a section

pub not-set : (b : Bool) → not b ≡ true → b ≡ false
not-set true h = absurd cc
not-set false h = refl

pub set-so : (b : Bool) → not b ≡ false → b ≡ true
set-so true h = refl
set-so false h = absurd cc

pub front-longer : (old new : Option (List ℕ)) (first more bytes : List ℕ) → AppendsFront old new first → bytes ≡ first ++ more → AppendsFront old new bytes
front-longer old new first more bytes f e = record {
  front = f.front;
  rest = f.rest ++ more;
  bytes_are = e ∙ (ap (λ (t : List ℕ). t ++ more) f.bytes_are ∙ append_assoc f.front f.rest more);
  appends = f.appends;
}

pub front-part_of : (old new : Option (List ℕ)) (piece : List ℕ) → AppendsPart old new piece → AppendsFront old new piece
front-part_of old new piece (n, below, a) = record { front = take n piece; rest = drop n piece; bytes_are = sym (take-append-drop n piece); appends = a }

module _ (text : List ℕ) (old mid : Option (List ℕ)) where
  -- what writing the front says
  abbrev pub FrontGoes : (behind : ℕ) (proves : Bool) → Type 0
  FrontGoes behind proves = (lines : List CertLine) (rest : List ℕ) (ends : Bool) → Begins ReadsOutside text lines rest → IsFront lines ends → (drop behind text ≡ rest) × (proves ≡ ends) × Appends old mid (flat_map cert_text lines)

  abbrev pub FrontFails : Type 0
  FrontFails = (lines : List CertLine) (rest : List ℕ) (ends : Bool) → Begins ReadsOutside text lines rest → IsFront lines ends → AppendsFront old mid (flat_map cert_text lines)

  -- and the refutation, which begins at a place
  abbrev pub StepsGo : (from behind : ℕ) (new : Option (List ℕ)) → Type 0
  StepsGo from behind new = (live : List Numbered) (lines : List LratLine) (rest : List ℕ) → Begins ReadsStep (drop from text) lines rest → BeginsWithNone ReadsStep rest → Refutes live lines
      → (drop behind text ≡ rest) × ((kept : List LratLine) × IsTrimmed lines kept × Appends mid new (steps_text kept))

  abbrev pub StepsFail : (from : ℕ) (new : Option (List ℕ)) → Type 0
  StepsFail from new = (live : List Numbered) (lines kept : List LratLine) (rest : List ℕ) → Begins ReadsStep (drop from text) lines rest → BeginsWithNone ReadsStep rest → Refutes live lines → IsTrimmed lines kept → AppendsFront mid new (steps_text kept)

  unknown-begins : (number : ℕ) (texts : List (List ℕ)) (rest : List ℕ) → AreRead false texts (Check number Unknown ∷ End ∷ []) → text ≡ bytes_of_lines texts ++ rest → All HasNoLf texts → Begins ReadsOutside text (Check number Unknown ∷ End ∷ []) rest
  unknown-begins number texts rest r is each =
      subst (λ (bytes : List ℕ). Begins ReadsOutside bytes (Check number Unknown ∷ End ∷ []) rest) (sym is) (begins-outer texts (Check number Unknown ∷ End ∷ []) rest r (recursion_from_All HasNoLf texts each))

  abbrev Trims : Answer → List (List ℕ) → (old new : Option (List ℕ)) → Type 0
  Trims answer texts old new = (trimmed : List CertLine) × IsTrimmedSection answer texts trimmed × Appends old new (flat_map cert_text trimmed)

  proof-not_short : (task : Task) (answer : Answer) (texts : List (List ℕ)) (rest : List ℕ) (behind : ℕ) (proves : Bool) → IsProof task answer texts → text ≡ bytes_of_lines texts ++ rest → All HasNoLf texts → FrontGoes behind proves → proves ≡ false → ⊥
  proof-not_short task answer texts rest behind proves p is each goes none =
      let t = told-proof task answer text texts rest p is each in
      let same : proves ≡ true = (goes (front_of task answer texts p ++ Lrat ∷ []) t.behind true t.front_begins t.front_ends).1 in
      let clash : false ≡ true = sym none ∙ same in
      cc

  -- no refutation follows
  pub trims-short : (task : Task) (answer : Answer) (texts : List (List ℕ)) (rest : List ℕ) (behind : ℕ) (proves : Bool) → BeginsWithSection task answer text texts rest → FrontGoes behind proves → proves ≡ false → (drop behind text ≡ rest) × Trims answer texts old mid
  trims-short task Sat texts rest behind proves b goes none = absurd (proof-not_short task Sat texts rest behind proves b.section b.text_is b.each goes none)
  trims-short task Unsat texts rest behind proves b goes none = absurd (proof-not_short task Unsat texts rest behind proves b.section b.text_is b.each goes none)
  trims-short task Unknown texts rest behind proves b goes none =
      let lines : List CertLine = Check task.number Unknown ∷ End ∷ [] in
      let told = goes lines rest false (unknown-begins task.number texts rest b.section b.text_is b.each) (refl, refl) in
      (told.0, (lines, ((task.number, b.section, refl)), told.2))

  fails-front_proof : (task : Task) (answer : Answer) (texts : List (List ℕ)) (rest : List ℕ) (trimmed : List CertLine) → IsProof task answer texts → text ≡ bytes_of_lines texts ++ rest → All HasNoLf texts → IsTrimmedProof texts trimmed → FrontFails → AppendsFront old mid (flat_map cert_text trimmed)
  fails-front_proof task answer texts rest trimmed p is each t fails =
      let told = told-proof task answer text texts rest p is each in
      let own = own-trimmed task answer texts p trimmed t in
      let front : List CertLine = front_of task answer texts p in
      front-longer old mid (flat_map cert_text (front ++ Lrat ∷ [])) (steps_text own.kept ++ codes "end\n") (flat_map cert_text trimmed) (fails (front ++ Lrat ∷ []) told.behind true told.front_begins told.front_ends)
      (ap (flat_map cert_text) own.trimmed_are ∙ trimmed-text front own.kept)

  -- the front fails
  pub fails-front : (task : Task) (answer : Answer) (texts : List (List ℕ)) (rest : List ℕ) (trimmed : List CertLine) → BeginsWithSection task answer text texts rest → IsTrimmedSection answer texts trimmed → FrontFails → AppendsFront old mid (flat_map cert_text trimmed)
  fails-front task Sat texts rest trimmed b t fails = fails-front_proof task Sat texts rest trimmed b.section b.text_is b.each t fails
  fails-front task Unsat texts rest trimmed b t fails = fails-front_proof task Unsat texts rest trimmed b.section b.text_is b.each t fails
  fails-front task Unknown texts rest trimmed b (number, r, is) fails =
      subst (λ (ls : List CertLine). AppendsFront old mid (flat_map cert_text ls)) (sym is) (fails (Check number Unknown ∷ End ∷ []) rest false (unknown-begins number texts rest r b.text_is b.each) (refl, refl))

  module _ (behind : ℕ) (goes : FrontGoes behind true) where
    unknown-not_long : (number : ℕ) (texts : List (List ℕ)) (rest : List ℕ) → AreRead false texts (Check number Unknown ∷ End ∷ []) → text ≡ bytes_of_lines texts ++ rest → All HasNoLf texts → ⊥
    unknown-not_long number texts rest r is each =
        let same : true ≡ false = (goes (Check number Unknown ∷ End ∷ []) rest false (unknown-begins number texts rest r is each) (refl, refl)).1 in
        cc

    -- what is told of a section with a refutation, where its front was written
    record FrontDone (task : Task) (answer : Answer) (texts : List (List ℕ)) (rest : List ℕ) (p : IsProof task answer texts) : Type 0 where
      last : List ℕ
      begins : Begins ReadsStep (drop behind text) p.steps (last ++ 10 ∷ rest)
      ends : BeginsWithNone ReadsStep (last ++ 10 ∷ rest)
      line : BeginsWith (last ++ 10 ∷ rest) last rest
      appends : Appends old mid (flat_map cert_text (front_of task answer texts p ++ Lrat ∷ []))

    front-done : (task : Task) (answer : Answer) (texts : List (List ℕ)) (rest : List ℕ) (p : IsProof task answer texts) → text ≡ bytes_of_lines texts ++ rest → All HasNoLf texts → FrontDone task answer texts rest p
    front-done task answer texts rest p is each =
        let t = told-proof task answer text texts rest p is each in
        let g = goes (front_of task answer texts p ++ Lrat ∷ []) t.behind true t.front_begins t.front_ends in
        record {
          last = t.last;
          begins = subst (λ (bytes : List ℕ). Begins ReadsStep bytes p.steps (t.last ++ 10 ∷ rest)) (sym g.0) t.steps_begin;
          ends = t.steps_end;
          line = t.ends;
          appends = g.2;
        }

    trims-proof : (task : Task) (answer : Answer) (texts : List (List ℕ)) (rest : List ℕ) (p : IsProof task answer texts) (end size : ℕ) (late new : Option (List ℕ)) → text ≡ bytes_of_lines texts ++ rest → All HasNoLf texts → StepsGo behind end late → Appends late new (codes "end\n")
        → ((line rest : List ℕ) → BeginsWith (drop end text) line rest → drop size text ≡ rest) → (drop size text ≡ rest) × ((trimmed : List CertLine) × IsTrimmedProof texts trimmed × Appends old new (flat_map cert_text trimmed))
    trims-proof task answer texts rest p end size late new is each go last_appends sized =
        let d = front-done task answer texts rest p is each in
        let steps = go (clause_list (last_list task.problem answer p.given p.passes)) p.steps (d.last ++ 10 ∷ rest) d.begins d.ends p.refutes in
        let front : List CertLine = front_of task answer texts p in
        let kept : List LratLine = steps.1.0 in
        let first : List ℕ = flat_map cert_text (front ++ Lrat ∷ []) in
        let whole : Appends old new (first ++ (steps_text kept ++ codes "end\n")) =
        Appends-append old mid new first (steps_text kept ++ codes "end\n") d.appends (Appends-append mid late new (steps_text kept) (codes "end\n") steps.1.2 last_appends)
        in (
          sized d.last rest (subst (λ (bytes : List ℕ). BeginsWith bytes d.last rest) (sym steps.0) d.line),
          (front ++ (Lrat ∷ (map Step kept ++ End ∷ [])), trimmed-own task answer texts p kept steps.1.1, subst (λ (t : List ℕ). Appends old new t) (sym (trimmed-text front kept)) whole),
        )

    -- all was written
    pub trims-whole : (task : Task) (answer : Answer) (texts : List (List ℕ)) (rest : List ℕ) (end size : ℕ) (late new : Option (List ℕ)) → BeginsWithSection task answer text texts rest → StepsGo behind end late → Appends late new (codes "end\n")
        → ((line rest : List ℕ) → BeginsWith (drop end text) line rest → drop size text ≡ rest) → (drop size text ≡ rest) × Trims answer texts old new
    trims-whole task Sat texts rest end size late new b go a sized = trims-proof task Sat texts rest b.section end size late new b.text_is b.each go a sized
    trims-whole task Unsat texts rest end size late new b go a sized = trims-proof task Unsat texts rest b.section end size late new b.text_is b.each go a sized
    trims-whole task Unknown texts rest end size late new b go a sized = absurd (unknown-not_long task.number texts rest b.section b.text_is b.each)

    fails-steps_proof : (task : Task) (answer : Answer) (texts : List (List ℕ)) (rest : List ℕ) (trimmed : List CertLine) (p : IsProof task answer texts) (new : Option (List ℕ)) → text ≡ bytes_of_lines texts ++ rest → All HasNoLf texts → IsTrimmedProof texts trimmed → StepsFail behind new → AppendsFront old new (flat_map cert_text trimmed)
    fails-steps_proof task answer texts rest trimmed p new is each t fail =
        let d = front-done task answer texts rest p is each in
        let own = own-trimmed task answer texts p trimmed t in
        let front : List CertLine = front_of task answer texts p in
        front-then old mid new (flat_map cert_text trimmed) (flat_map cert_text (front ++ Lrat ∷ [])) (steps_text own.kept) (codes "end\n") d.appends
        (fail (clause_list (last_list task.problem answer p.given p.passes)) p.steps own.kept (d.last ++ 10 ∷ rest) d.begins d.ends p.refutes own.keeps)
        (ap (flat_map cert_text) own.trimmed_are ∙ trimmed-text front own.kept)

    -- the refutation fails
    pub fails-steps : (task : Task) (answer : Answer) (texts : List (List ℕ)) (rest : List ℕ) (trimmed : List CertLine) (new : Option (List ℕ)) → BeginsWithSection task answer text texts rest → IsTrimmedSection answer texts trimmed → StepsFail behind new → AppendsFront old new (flat_map cert_text trimmed)
    fails-steps task Sat texts rest trimmed new b t fail = fails-steps_proof task Sat texts rest trimmed b.section new b.text_is b.each t fail
    fails-steps task Unsat texts rest trimmed new b t fail = fails-steps_proof task Unsat texts rest trimmed b.section new b.text_is b.each t fail
    fails-steps task Unknown texts rest trimmed new b t fail = absurd (unknown-not_long task.number texts rest b.section b.text_is b.each)

    fails-end_proof : (task : Task) (answer : Answer) (texts : List (List ℕ)) (rest : List ℕ) (trimmed : List CertLine) (p : IsProof task answer texts) (end : ℕ) (late new : Option (List ℕ)) → text ≡ bytes_of_lines texts ++ rest → All HasNoLf texts → IsTrimmedProof texts trimmed → StepsGo behind end late → AppendsPart late new (codes "end\n") → AppendsFront old new (flat_map cert_text trimmed)
    fails-end_proof task answer texts rest trimmed p end late new is each t go part =
        let d = front-done task answer texts rest p is each in
        let own = own-trimmed task answer texts p trimmed t in
        let steps = go (clause_list (last_list task.problem answer p.given p.passes)) p.steps (d.last ++ 10 ∷ rest) d.begins d.ends p.refutes in
        let same : steps.1.0 ≡ own.kept = trimmed_are_one p.steps steps.1.0 own.kept steps.1.1 own.keeps in
        let front : List CertLine = front_of task answer texts p in
        let first : List ℕ = flat_map cert_text (front ++ Lrat ∷ []) in
        let written : Appends old late (first ++ steps_text own.kept) = Appends-append old mid late first (steps_text own.kept) d.appends (subst (λ (ls : List LratLine). Appends mid late (steps_text ls)) same steps.1.2) in
        let none_more : codes "end\n" ++ [] ≡ codes "end\n" = refl in
        front-then old late new (flat_map cert_text trimmed) (first ++ steps_text own.kept) (codes "end\n") [] written (front-part_of late new (codes "end\n") part)
        (ap (flat_map cert_text) own.trimmed_are ∙ (trimmed-text front own.kept ∙ sym (append_assoc first (steps_text own.kept) (codes "end\n"))))

    -- the last line fails
    pub fails-end : (task : Task) (answer : Answer) (texts : List (List ℕ)) (rest : List ℕ) (trimmed : List CertLine) (end : ℕ) (late new : Option (List ℕ)) → BeginsWithSection task answer text texts rest → IsTrimmedSection answer texts trimmed → StepsGo behind end late → AppendsPart late new (codes "end\n") → AppendsFront old new (flat_map cert_text trimmed)
    fails-end task Sat texts rest trimmed end late new b t go part = fails-end_proof task Sat texts rest trimmed b.section end late new b.text_is b.each t go part
    fails-end task Unsat texts rest trimmed end late new b t go part = fails-end_proof task Unsat texts rest trimmed b.section end late new b.text_is b.each t go part
    fails-end task Unknown texts rest trimmed end late new b t go part = absurd (unknown-not_long task.number texts rest b.section b.text_is b.each)
