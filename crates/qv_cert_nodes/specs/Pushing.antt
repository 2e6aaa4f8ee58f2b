-- One more node, term or line.
use Rattle.std.specs.Prelude.{◌≡◌, ◌==◌, ◌||◌, ℕ, List, [], ◌∷◌, ◌++◌}
use Rattle.qv_words.specs.Tree.{Tree}
use Rattle.qv_words.specs.Problem.{Problem}
use Rattle.qv_cert.specs.Listed.{Listed as PlainListed}
use Rattle.qv_cert_nodes.specs.declared.listed.Listed.{Listed}
use Rattle.qv_cert_nodes.specs.declared.listed.Term.{Term}
use Rattle.qv_cert_nodes.specs.declared.listed.Branch.{Branch}
use Rattle.qv_cert_nodes.specs.Lists.{listed_in, mark_at, IsListed}

pub record HasNode (old new : Listed) (id reach : ℕ) : Type 0 where
  pub nodes : new.nodes.items ≡ old.nodes.items ++ id ∷ []
  pub reaches : new.reaches.items ≡ old.reaches.items ++ reach ∷ []
  pub terms : new.terms.items ≡ old.terms.items
  pub marks : new.marks.items ≡ old.marks.items
  pub branches : new.branches.items ≡ old.branches.items

pub record HasTerm (old new : Listed) (t : Term) : Type 0 where
  pub nodes : new.nodes.items ≡ old.nodes.items
  pub reaches : new.reaches.items ≡ old.reaches.items
  pub terms : new.terms.items ≡ old.terms.items ++ t ∷ []
  pub marks : (place : ℕ) → mark_at new.marks.items place ≡ (mark_at old.marks.items place || t.place == place)
  pub branches : new.branches.items ≡ old.branches.items

pub record HasBranch (old new : Listed) (b : Branch) : Type 0 where
  pub nodes : new.nodes.items ≡ old.nodes.items
  pub reaches : new.reaches.items ≡ old.reaches.items
  pub terms : new.terms.items ≡ old.terms.items
  pub marks : new.marks.items ≡ old.marks.items
  pub branches : new.branches.items ≡ old.branches.items ++ b ∷ []

-- what stands for this was listed
pub record Lists (trees : List Tree) (p : Problem) (a : Listed) (l : PlainListed) : Type 0 where
  pub listed : listed_in trees a ≡ l
  pub kept : IsListed trees p a
