-- What is answered.
use Rattle.std.proofs.Common.{◌≡◌, ◌↔◌, ℕ, None, List, [], ◌∷◌, ◌++◌, map, refl, sym, ap, ◌∙◌, subst}
use Rattle.std.specs.Prelude.{All, IfErr, IsSomeAnd, OnOk, Result, Ok, Err}
use Rattle.std.proofs.lemmas.List.Elements.{All-from_recursion}
use Rattle.qv_words.specs.declared.op.Answer.{Answer}
use Rattle.qv_words.specs.declared.op.Answer.TheVariants as answer
use Rattle.qv_words.specs.Tree.{Tree}
use Rattle.qv_words.specs.Truth.{AreTrue, HasConstantsOf, HaveOneSort, HoldUnder, constants_of_each}
use Rattle.qv_words.specs.Problem.{Existential, Universal, Holds, Problem, in_order, problem_of}
use Rattle.qv_words.specs.GameLaws.{WinsFrom}
use Rattle.qv_meter.specs.declared.records.SpentKind.{SpentKind}
use Rattle.qv_meter.specs.Finals.{instances_of}
use Rattle.qv_meter.specs.Records.{Metering, Record, settled}
use Rattle.qv_cert.specs.declared.line.Line.{Line}
use Rattle.qv_prenex.specs.Posed.{values_for}
use Rattle.qv_cert.specs.declared.line.Line.TheVariants as line
use Rattle.qv_cert.specs.Line.{CertLine, Check, End, IsCertLine, IsNumber}
use Rattle.qv_solve_write.specs.Said.{lines_said}
use Rattle.qv_solve_section.specs.Sections.{IsClosed}
use Rattle.qv_solve.specs.declared.fault.SolveFault.{SolveFault}
use Rattle.qv_solve.specs.declared.fault.SolveFault.TheVariants.{PrefixLimit, NoMemory}
use Rattle.qv_solve.specs.declared.solved.Solved.{Solved}
use Rattle.qv_solve.specs.declared.solved.Solved.TheVariants.{Sat, Unsat, Unknown}
use Rattle.qv_solve.specs.Solutions.{GivesConstants, IsAnswerOf, IsDrawn, IsSettled, IsUnknown, answer_of, lines_of}
use Rattle.qv_solve.specs.Answering.{GivesValues, IsKnown, IsSolution, IsTrueOf, IsUnknownOf}
use Rattle.qv_solve.proofs.Constants.{constants-of}
use Rattle.qv_solve.proofs.Kept.{settled-instances, settled-limit}

-- what is true of the problem is so of the formulas
pub answer-true : (fs : List Tree) (a : Answer) → Holds (problem_of fs) ↔ AreTrue fs → IsTrueOf (problem_of fs) a → IsAnswerOf fs a
answer-true fs answer.Sat both h = both.0 h
answer-true fs answer.Unsat both h = λ true. h (both.1 true)
answer-true fs answer.Unknown both h = tt

pub gives-constants : (fs : List Tree) (s : Solved) → HaveOneSort fs → ((c : List ℕ) → HasConstantsOf c fs → WinsFrom (problem_of fs) Existential (values_for (map (λ k. k.0) (in_order (constants_of_each fs))) c) ↔ HoldUnder c fs) →
    GivesValues (problem_of fs) (map (λ k. k.0) (in_order (constants_of_each fs))) s → GivesConstants fs s
gives-constants fs (Sat section constants variables) one under h = constants-of fs constants.items one h under
gives-constants fs (Unsat section variables) one under h = tt
gives-constants fs (Unknown section kind) one under h = tt

-- what is drawn stays so where the record is settled
drawn-settled : (p : Problem) (number : ℕ) (a : Answer) (lines : List CertLine) (b c : Metering) → c ≡ settled b → IsDrawn p number a lines b → IsDrawn p number a lines c
drawn-settled p number answer.Sat lines b c is h = record { entries = h.entries; given = h.given; played = h.played; won = h.won; list = h.list; closed = subst (λ (n : ℕ). IsClosed p number answer.Sat n h.given lines) (settled-limit b c is) h.closed; counted = settled-instances b c (instances_of p Existential h.entries) is h.counted }
drawn-settled p number answer.Unsat lines b c is h = record { entries = h.entries; given = h.given; played = h.played; won = h.won; list = h.list; closed = subst (λ (n : ℕ). IsClosed p number answer.Unsat n h.given lines) (settled-limit b c is) h.closed; counted = settled-instances b c (instances_of p Universal h.entries) is h.counted }
drawn-settled p number answer.Unknown lines b c is h = tt

pub solution-settled : (p : Problem) (number : ℕ) (indices : List ℕ) (b c : Metering) (s : Solved) → c ≡ settled b → IsSolution p number indices b s → IsSolution p number indices c s
solution-settled p number indices b c s is h = record { section = h.section; form = h.form; holds = h.holds; drawn = drawn-settled p number (answer_of s) (lines_of s) b c is h.drawn; values = h.values }

pub known-settled : (p : Problem) (m : Metering) (s : Solved) → IsKnown s → IsSomeAnd m.newest (λ (r : Record). r.kept ≡ None) → IsSettled p m s
known-settled p m (Sat section constants variables) k h = h
known-settled p m (Unsat section variables) k h = h
known-settled p m (Unknown section kind) k h = absurd k

-- ---- where the meter is spent

pub two-lines : (none first all : List Line) (a b : Line) → none ≡ [] → first ≡ none ++ a ∷ [] → all ≡ first ++ b ∷ [] → all ≡ a ∷ b ∷ []
two-lines none first all a b e f g = g ∙ ap (λ (ls : List Line). ls ++ b ∷ []) (f ∙ ap (λ (ls : List Line). ls ++ a ∷ []) e)

-- what they say, as an unknown section has it
pub unknown-lines : (number : ℕ) (kind : SpentKind) (none first all : List Line) → IsNumber number → none ≡ [] → first ≡ none ++ line.Check number answer.Unknown ∷ [] → all ≡ first ++ line.End ∷ [] →
    (kind ≡ kind) × (lines_said all ≡ Check number answer.Unknown ∷ End ∷ []) × All IsCertLine (lines_said all)
unknown-lines number kind none first all own e f g =
    let two = two-lines none first all (line.Check number answer.Unknown) line.End e f g in (
      refl,
      ap lines_said two,
      subst (λ (ls : List Line). All IsCertLine (lines_said ls)) (sym two) (All-from_recursion IsCertLine (Check number answer.Unknown ∷ End ∷ []) (own, (tt, tt))),
    )

pub unknown-solution : (p : Problem) (number : ℕ) (indices : List ℕ) (kind : SpentKind) (m : Metering) (s : Solved) → IsUnknownOf number kind s → IsSolution p number indices m s
unknown-solution p number indices kind m (Sat section constants variables) h = absurd h
unknown-solution p number indices kind m (Unsat section variables) h = absurd h
unknown-solution p number indices kind m (Unknown section spent) h = record { section = record { section = h.1; counted = refl }; form = h.2; holds = tt; drawn = tt; values = tt }

pub unknown-settled : (p : Problem) (number : ℕ) (kind : SpentKind) (m : Metering) (s : Solved) → IsUnknownOf number kind s → IsUnknown p kind m → IsSettled p m s
unknown-settled p number kind m (Sat section constants variables) h k = absurd h
unknown-settled p number kind m (Unsat section variables) h k = absurd h
unknown-settled p number kind m (Unknown section spent) h k = subst (λ (x : SpentKind). IsUnknown p x m) (sym h.0) k

-- ---- results

pub when-ok : {A E : Type 0} {P : Type 0} (r : Result A E) → P → OnOk r P
when-ok (Ok x) h = h
when-ok (Err x) h = tt

pub limit-not : (r : Result Solved SolveFault) → IfErr r (λ fault. fault ≡ NoMemory) → r ≡ Err PrefixLimit → ⊥
limit-not r h e = let own : PrefixLimit ≡ NoMemory = subst (λ (x : Result Solved SolveFault). IfErr x (λ fault. fault ≡ NoMemory)) e h in absurd (cc)
