-- A blaster beside a store.
use Rattle.std.specs.Prelude.{◌≡◌, ℕ, suc, List, length}
use Rattle.qv_words.specs.Tree.{Tree}
use Rattle.qv_words.specs.Clauses.{Blasting}
use Rattle.qv_cnf.specs.Listing.{Listing}
use Rattle.qv_circuits_laws.specs.ClauseLaws.{standing}
use Rattle.qv_blast.specs.declared.blaster.Blaster.{Blaster}
use Rattle.qv_blast.specs.Blasters.{blasting_of, IsReady}

-- where the definition's list stands
abbrev pub blasting_at : List Tree → Blaster → Blasting
blasting_at trees b = blasting_of trees b.terms b.bits b.lists

-- the blaster was used with this store: each of its terms has its bits
pub record IsBlaster (trees : List Tree) (b : Blaster) : Type 0 where
  pub ready : IsReady trees b.terms b.bits b.lists
  pub all : length b.bits ≡ length b.terms

-- the blaster was used with this store, and has the clause list of these formulas
pub record HasFormulas (trees formulas : List Tree) (b : Blaster) : Type 0 where
  pub blaster : IsBlaster trees b
  pub stands : blasting_at trees b ≡ standing formulas

-- the greatest variable that it may take, and its clauses
abbrev pub limit_of : Blaster → ℕ
limit_of b = b.lists.limit

abbrev pub list_of : Blaster → Listing
list_of b = b.lists.list

-- the clauses that came have the ids behind those of the clauses before
pub record IsAdded (first end : ℕ) (old new : Blasting) : Type 0 where
  pub from : first ≡ suc (length old.clauses)
  pub to : end ≡ suc (length new.clauses)
