-- What lines list, line by line, in a store that grows.
use Rattle.std.proofs.Common.{◌≡◌, ℕ, suc, ◌+◌, ◌≤◌, None, Some, List, ◌∷◌, length, drop, slice_get, sym, ap, subst, ◌∙◌, arith}
use Rattle.qv_words.specs.Tree.{Tree}
use Rattle.qv_words.specs.Problem.{Problem as PlainProblem}
use Rattle.qv_words.specs.GameLaws.{IsProblem}
use Rattle.qv_words.proofs.Elements.{dropped-at, dropped-none}
use Rattle.qv_store.specs.declared.problem.Problem.{Problem}
use Rattle.qv_store.specs.Stores.{Grows}
use Rattle.qv_store.specs.Problems.{IsPosedIn, places_of, problem_in}
use Rattle.qv_store.proofs.Replacement.{grows-more}
use Rattle.qv_cert.specs.declared.line.Line.{Line}
use Rattle.qv_cert.specs.LineView.{cert_line_of}
use Rattle.qv_cert.specs.Listed.{Listed as PlainListed, listed_behind, listed_by, listing, nothing}
use Rattle.qv_cert.specs.Faults.{faults_of, first_fit}
use Rattle.qv_cert.specs.Shown.{HaveNoFault}
use Rattle.qv_cert_nodes.specs.declared.listed.Listed.{Listed}
use Rattle.qv_cert_nodes.specs.Lists.{IsListed, listed_in}
use Rattle.qv_cert_nodes.specs.Pushing.{Lists}
use Rattle.qv_cert_nodes.proofs.Grown.{longer, same-store, stays}
use Rattle.qv_solve_write.specs.Said.{lines_said}

-- a problem in a store that has grown
pub problem-stays : (old new : List Tree) (p : Problem) → IsPosedIn old p → Grows old new → problem_in new p ≡ problem_in old p
problem-stays old new p h g = ap (λ (t : Tree). let q : PlainProblem = record { prefix = places_of p; matrix = t } in q) (stays old new p.matrix g h.below)

pub posed-stays : (old new : List Tree) (p : Problem) → IsPosedIn old p → Grows old new → IsPosedIn new p
posed-stays old new p h g = record {
  below = omega (arith, h.below, longer old new g);
  problem = subst IsProblem (sym (problem-stays old new p h g)) h.problem;
}

-- the first lines were taken
pub record IsTaking (old now : List Tree) (problem : Problem) (lines : List Line) (i : ℕ) (a : Listed) : Type 0 where
  pub grows : Grows old now
  pub kept : IsListed now (problem_in old problem) a
  pub lawful : HaveNoFault (problem_in old problem) (listed_in now a) (lines_said (drop i lines))
  pub whole : listed_behind (problem_in old problem) (listed_in now a) (lines_said (drop i lines)) ≡ listed_by (problem_in old problem) (lines_said lines)

pub taking-none : (old : List Tree) (problem : Problem) (lines : List Line) (a : Listed) → listed_in old a ≡ nothing → IsListed old (problem_in old problem) a →
    HaveNoFault (problem_in old problem) nothing (lines_said lines) → IsTaking old old problem lines 0 a
taking-none old problem lines a e kept lawful = record {
  grows = same-store old;
  kept = kept;
  lawful = subst (λ (l : PlainListed). HaveNoFault (problem_in old problem) l (lines_said lines)) (sym e) lawful;
  whole = ap (λ (l : PlainListed). listed_behind (problem_in old problem) l (lines_said lines)) e;
}

module _ (old now : List Tree) (problem : Problem) (lines : List Line) (i : ℕ) (a : Listed) (line : Line) (posed : IsPosedIn old problem) (at : slice_get lines i ≡ Some line) (h : IsTaking old now problem lines i a) where
  same : problem_in now problem ≡ problem_in old problem
  same = problem-stays old now problem posed h.grows

  first : lines_said (drop i lines) ≡ cert_line_of line ∷ lines_said (drop (suc i) lines)
  first = ap lines_said (dropped-at lines i line at)

  next : HaveNoFault (problem_in old problem) (listed_in now a) (cert_line_of line ∷ lines_said (drop (suc i) lines))
  next = subst (HaveNoFault (problem_in old problem) (listed_in now a)) first h.lawful

  -- the next line may be taken
  pub taking-kept : IsListed now (problem_in now problem) a
  taking-kept = subst (λ (p : PlainProblem). IsListed now p a) (sym same) h.kept

  pub taking-clean : first_fit (faults_of (problem_in now problem) (listed_in now a) (cert_line_of line)) ≡ None
  taking-clean = subst (λ (p : PlainProblem). first_fit (faults_of p (listed_in now a) (cert_line_of line)) ≡ None) (sym same) next.0

  -- and was
  pub taking-next : (new : List Tree) (j : ℕ) (b : Listed) → j ≡ i + 1 → Grows now new → Lists new (problem_in now problem) b (listing (problem_in now problem) (listed_in now a) (cert_line_of line)) → IsTaking old new problem lines j b
  taking-next new j b count grows taken =
      let p = problem_in old problem in
      let taken : Lists new p b (listing p (listed_in now a) (cert_line_of line)) = subst (λ (q : PlainProblem). Lists new q b (listing q (listed_in now a) (cert_line_of line))) same taken in
      let index : j ≡ suc i = omega (arith, count) in
      subst (λ k. IsTaking old new problem lines k b) (sym index) (record {
        grows = grows-more old now new h.grows grows;
        kept = taken.kept;
        lawful = subst (λ (l : PlainListed). HaveNoFault p l (lines_said (drop (suc i) lines))) (sym taken.listed) next.1;
        whole =
            ap (λ (l : PlainListed). listed_behind p l (lines_said (drop (suc i) lines))) taken.listed
            ∙ sym (ap (listed_behind p (listed_in now a)) first)
            ∙ h.whole;
      })

-- all were taken
pub taking-all : (old now : List Tree) (problem : Problem) (lines : List Line) (i : ℕ) (a : Listed) → length lines ≤ i → IsTaking old now problem lines i a →
    Lists now (problem_in old problem) a (listed_by (problem_in old problem) (lines_said lines))
taking-all old now problem lines i a all h = record {
  listed = sym (ap (λ (ls : List Line). listed_behind (problem_in old problem) (listed_in now a) (lines_said ls)) (dropped-none lines i all)) ∙ h.whole;
  kept = h.kept;
}
