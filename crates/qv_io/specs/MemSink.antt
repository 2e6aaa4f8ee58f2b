-- A sink over memory, as contracts see it.
use Rattle.std.specs.Prelude.{◌≡◌, ℕ, ◌<◌, ◌⊎◌, List, length, Contains}
use Rattle.qv_io.specs.Count.{next_count}

pub record MemSinkState : Type 0 where
  -- the bytes that it holds
  pub held : List ℕ
  -- how many bytes it holds at most
  pub room : ℕ
  -- how many bytes a call takes at most
  pub piece : ℕ
  -- the numbers of the calls that fail
  pub failing : List ℕ
  -- how many calls were made
  pub calls : ℕ
  -- how many calls failed
  pub faults : ℕ

-- the sink is full, and the piece isn't empty
abbrev pub HasNoRoomFor : MemSinkState → List ℕ → Type 0
HasNoRoomFor sink piece = (length sink.held ≡ sink.room) × (0 < length piece)

-- the next call is one that fails, or finds no room
abbrev pub Refuses : MemSinkState → List ℕ → Type 0
Refuses sink piece = Contains sink.failing (next_count sink.calls) ⊎ HasNoRoomFor sink piece
