-- What a verdict says of the reader and its source, whether the source tells its bytes or not.
use Rattle.std.specs.Prelude.{◌≡◌, ◌≢◌, ℕ, ◌<◌, ◌≤◌, Option, None, Result, Ok, Err, List, length}
use Rattle.qv_io.specs.Count.{Rose}
use Rattle.qv_cert.specs.declared.kind.RefusalKind.TheVariants as kind
use Rattle.qv_cert.specs.CertReader.{Position, piece_size, read_limit, MeetsLimit}
use Rattle.qv_cert.specs.Took.{TookLines, TookSome, TookToLine, FailsBehind}
use Rattle.qv_check_lines.specs.declared.verdict.Verdict.{Verdict}
use Rattle.qv_check_lines.specs.declared.verdict.Verdict.TheVariants.{Accepted, Refused, PrefixLimit, ReadFault, ReadLimit, NoMemory}

-- the reader goes on: it gave a line, hasn't stopped, and took less than a piece behind that line
pub record ReadsOn (reader : Position) : Type 0 where
  pub begun : 0 < reader.given
  pub reads : reader.stopped ≡ None
  pub short : length reader.rest < piece_size

-- Behind an accepted section the reader goes on, and behind a refused line less than a piece was
-- taken. A failed read shows in the source's count of faults, before and after, and at the limit
-- that many bytes were taken. The limit on places is met before a section is read.
abbrev pub EndsBy : Verdict → (before after : ℕ) → Position → Type 0
EndsBy (Accepted answer) before after reader = ReadsOn reader
EndsBy (Refused line k) before after reader = k ≢ kind.Truncated → length reader.rest < piece_size
EndsBy PrefixLimit before after reader = ⊥
EndsBy ReadFault before after reader = Rose before after
EndsBy ReadLimit before after reader = read_limit ≤ reader.taken
EndsBy NoMemory before after reader = Unit {0}

-- Lines were passed, and behind them a buffer was filled in which no line stands, up to the limit;
-- all that was taken are whole lines and what is behind them.
pub record StopsAtLimit {S : Type 0} (call : S → ℕ → Option (List ℕ) → S → Type 0) (left : S → Option (List ℕ)) (old : Position) (source : S) (new : Position) (later : S) : Type 0 where
  pub rest : List ℕ
  pub taken : ℕ
  pub now : S
  pub lines : TookLines call left old source new.given rest taken now
  pub limit : MeetsLimit call rest taken now new.taken later
  pub took : TookSome call left old source new.given new.taken later

-- What was taken up to a verdict: whole lines up to that of the verdict, behind which the rest
-- begins, unless the bytes end inside that line; at the limit whole lines, and behind them bytes in
-- which none ends; where a call failed whatever is behind them. `call` says what one call makes of
-- the source, `left` what it has left. Of want of memory this says nothing.
abbrev pub TookBy : {S : Type 0} → (S → ℕ → Option (List ℕ) → S → Type 0) → (S → Option (List ℕ)) → Position → S → Verdict → Position → S → Type 0
TookBy call left old source (Accepted answer) new later = TookLines call left old source new.given new.rest new.taken later
TookBy call left old source (Refused line k) new later = TookToLine call left old source line k new later
TookBy call left old source PrefixLimit new later = TookLines call left old source new.given new.rest new.taken later
TookBy call left old source ReadFault new later = FailsBehind call left old source new.given new.taken later
TookBy call left old source ReadLimit new later = StopsAtLimit call left old source new later
TookBy call left old source NoMemory new later = Unit {0}

-- and up to a result: behind a value the reader goes on behind whole lines
abbrev pub TookWith : {S T : Type 0} → (S → ℕ → Option (List ℕ) → S → Type 0) → (S → Option (List ℕ)) → Position → S → Result T Verdict → Position → S → Type 0
TookWith call left old source (Ok value) new later = TookLines call left old source new.given new.rest new.taken later
TookWith call left old source (Err verdict) new later = TookBy call left old source verdict new later
