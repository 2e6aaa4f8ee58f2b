-- A sink over one of std's writers, as contracts see it.
use Rattle.std.specs.Prelude.{◌≡◌, ℕ, Option, Some, IfSome}
use Rattle.std.specs.Result.{result_ok}
use Rattle.std.specs.declared.io.Error.{Error}
use Rattle.qv_io.specs.declared.std_sink.StdSink.{StdSink}

-- the writer, where one was opened
abbrev pub writer_of : {W : Type 0} → StdSink W → Option W
writer_of sink = result_ok sink.opened

-- why it failed, if it did: at a call, or where no writer was opened
abbrev pub error_of : {W : Type 0} → StdSink W → Option Error
error_of sink = sink.error

-- how many calls failed
abbrev pub faults_of : {W : Type 0} → StdSink W → ℕ
faults_of sink = sink.faults

-- behind an error the writer isn't called again: it stays, and so does the error
abbrev pub StaysFailed : {W : Type 0} → StdSink W → StdSink W → Type 0
StaysFailed old new = IfSome (error_of old) (λ why. (error_of new ≡ Some why) × (writer_of new ≡ writer_of old))
