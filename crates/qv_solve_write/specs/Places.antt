-- The numbers of a walk's nodes.
use Rattle.std.specs.Prelude.{◌≡◌, ℕ, suc, Some, List, slice_get}
use Rattle.qv_cert.specs.Line.{IsNumber}

-- a term of a walk has the number behind its place
pub record IsNumbered (ids : List ℕ) (id number : ℕ) : Type 0 where
  pub place : ℕ
  pub at : slice_get ids place ≡ Some id
  pub number_is : number ≡ suc place
  pub small : IsNumber number
