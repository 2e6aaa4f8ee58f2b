-- What the end of a section is owed.
use Rattle.std.proofs.Common.{◌≡◌, ℕ, ◌+◌, List, [], ◌∷◌, length, sym, ap, subst, ◌∙◌}
use Rattle.std.proofs.lemmas.List.{length-map}
use Rattle.qv_words.specs.declared.op.Answer.TheVariants.{Sat, Unsat}
use Rattle.qv_words.specs.Tree.{Tree}
use Rattle.qv_words.specs.Problem.{Problem, Existential, Universal}
use Rattle.qv_words.specs.Skolem.{SkolemTerm, goal_of}
use Rattle.qv_words.specs.Expansion.{ExpansionLine, leaves_of}
use Rattle.qv_words.specs.Linked.{Entry, chain, tree_of}
use Rattle.qv_words.specs.GameLaws.{HasWon, IsProblem}
use Rattle.qv_rewrite_passes.specs.Passes.{behind_all}
use Rattle.qv_entries.specs.Rows.{Row, entries_in, entry_in}
use Rattle.qv_meter.specs.Played.{IsPlayed}
use Rattle.qv_meter.specs.Records.{Metering}
use Rattle.qv_meter.specs.Units.{IsFinal}
use Rattle.qv_cert.specs.Line.{CertLine}
use Rattle.qv_cert.specs.Listed.{listed_by}
use Rattle.qv_game.specs.Starting.{HasCharged}
use Rattle.qv_solve_refute.specs.Refuting.{IsForFinal}
use Rattle.qv_solve_section.specs.Measured.{EachIsForFinal}
use Rattle.qv_solve_section.specs.Sections.{formulas_of}
use Rattle.qv_solve.proofs.Metered.{newest-weaker}

for-final : (p : Problem) (n : ℕ) (entries : List Entry) (m : Metering) (formulas : List Tree) → IsProblem p → HasCharged p n m → IsFinal p n entries formulas → IsForFinal m formulas
for-final p n entries m formulas problem charged final =
    newest-weaker m _ _
    (λ r k is. (
      subst IsProblem (sym is.0) problem,
      (entries, subst (λ (q : Problem). IsFinal q r.instances entries formulas) (sym is.0) (subst (λ (i : ℕ). IsFinal p i entries formulas) (sym is.1) final)),
      is.2,
    )) charged

pub owed-sat : (p : Problem) (trees : List Tree) (rows : List Row) (m : Metering) (given : List CertLine) → IsProblem p → HasCharged p (length rows) m → IsPlayed p (entries_in trees rows) → HasWon p Existential (entries_in trees rows) →
    (listed_by p given).terms ≡ chain p (entries_in trees rows) → EachIsForFinal m (formulas_of p Sat given)
owed-sat p trees rows m given problem charged played won is formulas (passes, behind) =
    for-final p (length rows) (entries_in trees rows) m formulas problem charged (record {
      winner = Existential;
      played = played;
      won = won;
      counted = length-map rows (entry_in trees);
      list = (passes, behind ∙ ap (λ (ts : List SkolemTerm). behind_all passes (goal_of p ts ∷ [])) is);
    })

pub owed-unsat : (p : Problem) (trees : List Tree) (rows : List Row) (m : Metering) (given : List CertLine) → IsProblem p → HasCharged p (length rows + length (tree_of p (entries_in trees rows))) m → IsPlayed p (entries_in trees rows) → HasWon p Universal (entries_in trees rows) →
    (listed_by p given).lines ≡ tree_of p (entries_in trees rows) → EachIsForFinal m (formulas_of p Unsat given)
owed-unsat p trees rows m given problem charged played won is formulas (passes, behind) =
    for-final p (length rows + length (tree_of p (entries_in trees rows))) (entries_in trees rows) m formulas problem charged (record {
      winner = Universal;
      played = played;
      won = won;
      counted = ap (λ (n : ℕ). n + length (tree_of p (entries_in trees rows))) (length-map rows (entry_in trees));
      list = (passes, behind ∙ ap (λ (ls : List ExpansionLine). behind_all passes (leaves_of p ls)) is);
    })
