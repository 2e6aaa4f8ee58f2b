-- From each state that commands lead to, what is left of a script has a transcript, in which its further
-- checks are unknown, and a certificate.
use Rattle.std.proofs.Common.{◌≡◌, ℕ, zero, suc, ◌+◌, ◌^◌, ◌<◌, ◌≤◌, inl, inr, Bool, true, false, Option, Some, None, Ok, Err, List, [], ◌∷◌, ◌++◌, map, length, length-append, slice_get, refl, ap, subst, sym, ◌∙◌, arith, codes}
use Rattle.std.specs.Prelude.{IfOk, IsSomeAnd, nat_le, option_map, zip}
use Rattle.std.specs.List.{AllByRecursion}
use Rattle.std.proofs.lemmas.List.Elements.{recursion_from_All, All-from_recursion, All-nil, All-cons}
use Rattle.qv_words.specs.declared.op.Answer.TheVariants as answer
use Rattle.qv_cert.specs.Line.{Check as CheckLine, End as EndLine}
use Rattle.qv_cert.specs.Grammar.{Reading, cert_line}
use Rattle.qv_cert.specs.TextLaws.{HasNoLf}
use Rattle.qv_script_defs.specs.declared.faults.SpentWord.TheVariants.{Conflicts}
use Rattle.std.proofs.lemmas.Bool.Decides.{nat_tests}
use Rattle.std.proofs.lemmas.Nat.{pow_pos}
use Rattle.qv_sexpr.specs.Script.{Script, reads}
use Rattle.qv_sexpr.specs.Script.{Tree as Expr, command as then, stops as halt}
use Rattle.qv_words.specs.declared.sort.Sort.{Sort}
use Rattle.qv_words.specs.Sort.{IsValueOf, width_of}
use Rattle.qv_words.specs.Tree.{Tree}
use Rattle.qv_words.specs.Truth.{AreTrue}
use Rattle.qv_words.specs.Sorted.{no_levels}
use Rattle.qv_words.specs.Sorted.{constants_of as leaves_of, free_levels}
use Rattle.qv_words.specs.Meaning.{Means}
use Rattle.qv_words.proofs.Leaves.{HasValue}
use Rattle.qv_words.proofs.Elements.{all-none, all-weaker}
use Rattle.qv_words.proofs.Existing.{HasConstant, has_sort, some_meaning}
use Rattle.qv_elab_defs.specs.Tokens.{place_of}
use Rattle.qv_elab_defs.specs.Written.{HasTokens}
use Rattle.qv_elab_defs.specs.Scopes.{Named}
use Rattle.qv_script_defs.specs.Faults.{refusal, fault_line}
use Rattle.qv_script_defs.specs.State.{State, Last, Sat, Unsat, Unknown, opening, answered, no_counts, longer, constants, scope_of, last_checked, places_of}
use Rattle.qv_script_defs.specs.StateLaws.{opens, moves, answers, IsAskable}
use Rattle.qv_script_defs.specs.Texts.{success}
use Rattle.qv_script_defs.specs.Moves.{ValueTerm, Effect, Quiet, Text, Check, Values, Whole, Core, Exit, Move, has_model, has_core}
use Rattle.qv_script_defs.specs.Commands.{after}
use Rattle.qv_script_defs.proofs.Commanding.{values-are_lawful}
use Rattle.qv_script_texts.specs.Printing.{model_text, core_text, MeanValues, values_text}
use Rattle.qv_script_transcript.specs.Lawful.{answer_line, prefix_length}
use Rattle.qv_script_defs.specs.Settings.{limit_of}
use Rattle.qv_script_defs.specs.declared.counts.Counts.{Counts}
use Rattle.qv_script_transcript.specs.Following.{with_answer, Piece, piece, end_line, Says, Follows, stops, refuses, says, leaves, checks, exceeds}
use Rattle.qv_script_transcript.specs.Certificates.{Certified, checks_of, IsCertified, AreCertified}
use Rattle.qv_script_transcript.specs.PrintedLines.{line_text}
use Rattle.qv_script_transcript.proofs.PrintedLines.{printed-lines-stand}
use Rattle.qv_script_transcript.specs.FollowingLaws.{SomeFollow}
use Rattle.qv_script_transcript.specs.Current.{AreModel, AreRefuted, IsCurrent}
use Rattle.qv_check_defs.proofs.Tokens.{IsWritten, reads-written}
use Rattle.qv_script_transcript.proofs.Lasting.{IsLonger, IsKept, Lasts, lasts-after}
use Rattle.qv_script_transcript.proofs.Keeping.{all-kept}

-- the value of a constant is of its sort
value-at : (cs : Named Sort) (vs : List ℕ) (i : ℕ) (s : Sort) → length vs ≡ length cs → AllByRecursion (λ x. IsValueOf x.1 x.0.1) (zip cs vs) → slice_get (map (λ x. x.1) cs) i ≡ Some s → IsSomeAnd (slice_get vs i) (λ v. IsValueOf v s)
value-at [] vs i s l h e = absurd cc
value-at (x ∷ cs) [] i s l h e = absurd (omega (arith, l))
value-at (x ∷ cs) (v ∷ vs) zero s l h e = let same : x.1 ≡ s = cc in subst (λ (q : Sort). IsValueOf v q) same h.0
value-at (x ∷ cs) (v ∷ vs) (suc i) s l h e = value-at cs vs i s (omega (arith, l)) h.1 e

-- terms of the scope mean something under a model
term-means : (s : State) (values : List ℕ) (t : ValueTerm) → AreModel (constants s) values → IsAskable (scope_of s) t → (v : ℕ) × Means values no_levels t.tree v
term-means s values t m h =
    let tree = t.tree in
    let at = has_sort tree no_levels h.0.sorted in
    let leaves = recursion_from_All (λ leaf. slice_get (map (λ x. x.1) (constants s)) leaf.0 ≡ Some leaf.1) (leaves_of tree) h.0.constants in
    let some = some_meaning tree no_levels values no_levels at.0 h.0.sorted
    (all-weaker (λ (leaf : ℕ × Sort). slice_get (map (λ x. x.1) (constants s)) leaf.0 ≡ Some leaf.1) (HasConstant values) (leaves_of tree) (λ leaf e. value-at (constants s) values leaf.0 leaf.1 m.each (recursion_from_All (λ x. IsValueOf x.1 x.0.1) (zip (constants s) values) m.sorts) e) leaves)
    (all-none (HasValue no_levels) (free_levels tree) h.0.closed) at.1 in
    (some.0, some.2)

terms-mean : (s : State) (values : List ℕ) (ts : List ValueTerm) → AreModel (constants s) values → AllByRecursion (IsAskable (scope_of s)) ts → (vs : List ℕ) × MeanValues values ts vs
terms-mean s values [] m h = ([], refl)
terms-mean s values (t ∷ ts) m h =
    let first = term-means s values t m h.0 in
    let rest = terms-mean s values ts m h.1 in
    (first.0 ∷ rest.0, (first.0, rest.0, first.1, rest.1, refl))

-- where there is a model, the last answer is sat
the-model : (o : Option Last) → has_model o ≡ true → (values : List ℕ) × (o ≡ Some (Sat values))
the-model None h = absurd cc
the-model (Some (Sat values)) h = (values, refl)
the-model (Some Unsat) h = absurd cc
the-model (Some (Unknown spent)) h = absurd cc

-- where there is a core, the last answer is unsat
pub the-core : (o : Option Last) → has_core o ≡ true → o ≡ Some Unsat
the-core None h = absurd cc
the-core (Some (Sat values)) h = absurd cc
the-core (Some Unsat) h = refl
the-core (Some (Unknown spent)) h = absurd cc

pub current-opening : IsCurrent opening
current-opening = record { reached = opens; model = λ values e. absurd cc; refuted = λ e. absurd cc }

-- what a command leaves of the last answer
pub lasting : (s now : State) (e : Expr) (effect : Effect) → after s e ≡ Ok (now, effect) → Lasts s (now, effect)
lasting s now e effect is = subst (λ (r : Move). IfOk r (Lasts s)) is (lasts-after s e)

-- the terms whose values are asked for are terms of the scope
pub askable : (s now : State) (e : Expr) (terms : List ValueTerm) → IsCurrent s → HasTokens e → after s e ≡ Ok (now, Values terms) → AllByRecursion (IsAskable (scope_of s)) terms
askable s now e terms h w is = recursion_from_All (IsAskable (scope_of s)) terms (values-are_lawful s now e terms h.reached w is)

-- a model for one constant more, which has the value 0
zip-more : (cs : Named Sort) (vs : List ℕ) (own : List ℕ × Sort) → length vs ≡ length cs → AllByRecursion (λ x. IsValueOf x.1 x.0.1) (zip cs vs) → AllByRecursion (λ x. IsValueOf x.1 x.0.1) (zip (cs ++ own ∷ []) (vs ++ 0 ∷ []))
zip-more [] [] own l h = (pow_pos (width_of own.1), tt)
zip-more [] (v ∷ vs) own l h = absurd (omega (arith, l))
zip-more (x ∷ cs) [] own l h = absurd (omega (arith, l))
zip-more (x ∷ cs) (v ∷ vs) own l h = (h.0, zip-more cs vs own (omega (arith, l)) h.1)

model-longer : (cs : Named Sort) (vs : List ℕ) (own : List ℕ × Sort) → AreModel cs vs → AreModel (cs ++ own ∷ []) (vs ++ 0 ∷ [])
model-longer cs vs own m =
    let each = m.each in
    let longer_values = length-append vs (0 ∷ []) in
    let longer_constants = length-append cs (own ∷ []) in
    record {
      each = omega (arith, each, longer_values, longer_constants);
      sorts = All-from_recursion {X = (List ℕ × Sort) × ℕ} (λ x. IsValueOf x.1 x.0.1) (zip (cs ++ own ∷ []) (vs ++ 0 ∷ []))
          (zip-more cs vs own m.each (recursion_from_All {X = (List ℕ × Sort) × ℕ} (λ x. IsValueOf x.1 x.0.1) (zip cs vs) m.sorts));
    }

model-declared : (s now : State) (o : Option Last) → s.last ≡ o → IsLonger s now → IsCurrent s → (values : List ℕ) → now.last ≡ Some (Sat values) → AreModel (constants now) values
model-declared s now None is more h values e = let last = more.last ∙ ap (option_map longer) is in absurd cc
model-declared s now (Some Unsat) is more h values e = let last = more.last ∙ ap (option_map longer) is in absurd cc
model-declared s now (Some (Unknown spent)) is more h values e = let last = more.last ∙ ap (option_map longer) is in absurd cc
model-declared s now (Some (Sat vs)) is more h values e =
    let last : Some (Sat values) ≡ Some (Sat (vs ++ 0 ∷ [])) = sym e ∙ more.last ∙ ap (option_map longer) is in
    let same : vs ++ 0 ∷ [] ≡ values = cc in
    subst (λ (cs : Named Sort). AreModel cs values) (sym more.constants)
    (subst (λ (us : List ℕ). AreModel (constants s ++ more.own ∷ []) us) same (model-longer (constants s) vs more.own (h.model vs is)))

model-stays : (s now : State) → IsKept s now → IsCurrent s → (values : List ℕ) → now.last ≡ Some (Sat values) → AreModel (constants now) values
model-stays s now (inl none) h values e = absurd cc
model-stays s now (inr (inl same)) h values e = subst (λ (cs : Named Sort). AreModel cs values) (sym same.1) (h.model values (sym same.0 ∙ e))
model-stays s now (inr (inr more)) h values e = model-declared s now s.last refl more h values e

-- what was refuted stays, where its answer does
unsat-shorter : (o : Option Last) → option_map longer o ≡ Some Unsat → o ≡ Some Unsat
unsat-shorter None e = absurd cc
unsat-shorter (Some (Sat values)) e = absurd cc
unsat-shorter (Some Unsat) e = refl
unsat-shorter (Some (Unknown spent)) e = absurd cc

refuted-stays : (s now : State) → IsKept s now → IsCurrent s → now.last ≡ Some Unsat → AreRefuted (last_checked now)
refuted-stays s now (inl none) h e = absurd cc
refuted-stays s now (inr (inl same)) h e = subst AreRefuted (sym same.2) (h.refuted (sym same.0 ∙ e))
refuted-stays s now (inr (inr more)) h e = subst AreRefuted (sym more.checked) (h.refuted (unsat-shorter s.last (sym more.last ∙ e)))

-- a command leads to such a state again
pub current-after : (s now : State) (e : Expr) (effect : Effect) → IsCurrent s → HasTokens e → after s e ≡ Ok (now, effect) → IsCurrent now
current-after s now e effect h w is = record {
  reached = moves s now e effect h.reached w is;
  model = model-stays s now (lasting s now e effect is).0 h;
  refuted = refuted-stays s now (lasting s now e effect is).0 h;
}

-- and so does an answer: sat with a model, unsat where what was checked isn't true, or unknown
pub current-answered : (s : State) (answer : Last) (counts : Counts) → IsCurrent s → ((values : List ℕ) → answer ≡ Sat values → AreModel (constants s) values) → (answer ≡ Unsat → AreRefuted (last_checked s)) → IsCurrent (answered answer counts s)
current-answered s answer counts h m r = record {
  reached = answers s answer counts h.reached;
  model = λ values e. let same : answer ≡ Sat values = cc in m values same;
  refuted = λ e. let same : answer ≡ Unsat = cc in r same;
}

-- an unknown check, and its section
abbrev unknown : ℕ → ℕ → List Tree → Certified
unknown limit number formulas = record {
  check = with_answer limit formulas (Unknown Conflicts) no_counts;
  lines = line_text (CheckLine number answer.Unknown) ∷ line_text EndLine ∷ [];
}

unknown-certified : (limit number : ℕ) (formulas : List Tree) → number < 2 ^ 62 → IsCertified number (unknown limit number formulas)
unknown-certified limit number formulas few =
    let check = printed-lines-stand.0 (CheckLine number answer.Unknown) few in
    let end = printed-lines-stand.0 EndLine tt in
    record {
      section = ap (λ (r : Reading). r ∷ cert_line false (line_text EndLine) ∷ []) check.reads ∙ ap (λ (r : Reading). Ok (CheckLine number answer.Unknown) ∷ r ∷ []) end.reads;
      apart = All-cons HasNoLf (line_text (CheckLine number answer.Unknown)) (line_text EndLine ∷ []) check.apart (All-cons HasNoLf (line_text EndLine) [] end.apart (All-nil HasNoLf));
      counted = refl;
    }

-- some checks and pieces with which a script is followed, with sections as far as lines can number them
abbrev pub HasTranscript : (places : ℕ) → ℕ → State → Script → Type 0
HasTranscript places number s script =
    (cs : List Certified) × (number + length cs ≤ 2 ^ 62 → AreCertified number cs) × (pieces : List Piece) × (last : List ℕ) × (status : ℕ) × Follows places s script (checks_of cs) pieces last status

abbrev Goes : (places : ℕ) → Script → Type 0
Goes places script = (number : ℕ) (s : State) → IsCurrent s → HasTranscript places number s script

says-on : (places : ℕ) (number : ℕ) (s now : State) (e : Expr) (rest : Script) (effect : Effect) (text : List ℕ) → Goes places rest → IsCurrent now → after s e ≡ Ok (now, effect) → Says now effect text → HasTranscript places number s (then e rest)
says-on places number s now e rest effect text again current is said =
    let r = again number now current in
    (r.0, r.1, piece e text ∷ r.2, r.3, r.4, says s now e rest effect text (checks_of r.0) r.2 r.3 r.4 is said r.5)

check-on : (places : ℕ) (number : ℕ) (s now : State) (e : Expr) (rest : Script) (formulas : List Tree) → Goes places rest → IsCurrent now → after s e ≡ Ok (now, Check formulas) → HasTranscript places number s (then e rest)
check-on places number s now e rest formulas again current is = by (nat_le (prefix_length formulas) places) refl
  where
    by : (b : Bool) → nat_le (prefix_length formulas) places ≡ b → HasTranscript places number s (then e rest)
    by true test =
        let short : prefix_length formulas ≤ places = grind (arith, nat_tests) in
        let r = again (suc number) (answered (Unknown Conflicts) no_counts now) (current-answered now (Unknown Conflicts) no_counts current (λ values e. absurd cc) (λ e. absurd cc)) in (
          unknown (limit_of now) number formulas ∷ r.0,
          λ few. (unknown-certified (limit_of now) number formulas (omega (arith, few)), r.1 (omega (arith, few))),
          piece e (answer_line (Unknown Conflicts)) ∷ r.2,
          r.3,
          r.4,
          checks s now e rest formulas (Unknown Conflicts) no_counts (checks_of r.0) r.2 r.3 r.4 is short tt r.5,
        )
    by false test =
        let far : places < prefix_length formulas = grind (arith, nat_tests) in
        ([], λ few. tt, piece e (refusal (place_of e) (codes "prefix limit")) ∷ [], [], 1, exceeds s now e rest formulas is far)

goes-behind : (places : ℕ) (number : ℕ) (s : State) (e : Expr) (rest : Script) → Goes places rest → IsCurrent s → HasTokens e → (move : Move) → after s e ≡ move → HasTranscript places number s (then e rest)
goes-behind places number s e rest again h w (Err fault) is = ([], λ few. tt, piece e (fault_line fault) ∷ [], [], 1, refuses s e rest fault is)
goes-behind places number s e rest again h w (Ok (now, Quiet)) is = says-on places number s now e rest Quiet (success now.success) again (current-after s now e Quiet h w is) is refl
goes-behind places number s e rest again h w (Ok (now, Text text)) is = says-on places number s now e rest (Text text) text again (current-after s now e (Text text) h w is) is refl
goes-behind places number s e rest again h w (Ok (now, Check trees)) is = check-on places number s now e rest trees again (current-after s now e (Check trees) h w is) is
goes-behind places number s e rest again h w (Ok (now, Values terms)) is =
    let asked = (lasting s now e (Values terms) is).1 in
    let model = the-model s.last asked.1 in
    let last : now.last ≡ Some (Sat model.0) = asked.0.last ∙ model.1 in
    let shown = terms-mean s model.0 terms (h.model model.0 model.1) (askable s now e terms h w is) in
    says-on places number s now e rest (Values terms) (values_text terms shown.0) again (current-after s now e (Values terms) h w is) is (model.0, last, (shown.0, shown.1, refl))
goes-behind places number s e rest again h w (Ok (now, Whole)) is =
    let asked = (lasting s now e Whole is).1 in
    let model = the-model s.last asked.1 in
    let last : now.last ≡ Some (Sat model.0) = asked.0.last ∙ model.1 in
    says-on places number s now e rest Whole (model_text (constants now) model.0) again (current-after s now e Whole h w is) is (model.0, last, refl)
goes-behind places number s e rest again h w (Ok (now, Core trees named)) is =
    let asked = (lasting s now e (Core trees named) is).1 in
    let last : now.last ≡ Some Unsat = asked.0.last ∙ the-core s.last asked.1 in
    let current = current-after s now e (Core trees named) h w is in
    let refuted = subst AreRefuted (sym asked.2) (current.refuted last) in
    says-on places number s now e rest (Core trees named) (core_text (places_of named) named) again current is
    (places_of named, λ holds. refuted.untrue (subst AreTrue (all-kept (places_of named) trees) holds), refl)
goes-behind places number s e rest again h w (Ok (now, Exit)) is = ([], λ few. tt, piece e (success now.success) ∷ [], [], 0, leaves s now e rest is)

pub continues : (places : ℕ) (script : Script) → IsWritten script → (number : ℕ) (s : State) → IsCurrent s → HasTranscript places number s script
continues places (halt end) w number s h = ([], λ few. tt, [], (end_line end).0, (end_line end).1, stops s end)
continues places (then e rest) w number s h = goes-behind places number s e rest (λ n t k. continues places rest w.1 n t k) h w.0 (after s e) refl

pub some-follow : SomeFollow
some-follow places script =
    let c = continues places (reads script) (reads-written script) 1 opening current-opening in
    (c.0, c.2, c.3, c.4, c.5, λ few. c.1 (omega (arith, few)))
