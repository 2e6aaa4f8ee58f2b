-- A sink in memory that grows, as contracts see it.
use Rattle.std.specs.Prelude.{ℕ, List}

pub record TextSinkState : Type 0 where
  -- the bytes that it was given
  pub held : List ℕ
  -- how many calls failed
  pub faults : ℕ
