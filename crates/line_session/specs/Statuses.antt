-- The status with which a run ends, and the numbers of the statuses.
use Rattle.std.specs.Prelude.{ℕ, Bool, if◌then◌else◌}
use Rattle.cpe_io.specs.declared.sink.SinkFault.{SinkFault}
use Rattle.cpe_io.specs.declared.sink.SinkFault.TheVariants as sink
use Rattle.cpe_io.specs.declared.line.LineFault.{LineFault}
use Rattle.cpe_io.specs.declared.line.LineFault.TheVariants as line
use Rattle.line_session.specs.declared.status.Status.{Status}
use Rattle.line_session.specs.declared.status.Status.TheVariants.{Done, SomeRefused, Usage, ReadFault, WriteFault, Memory, Endless}

abbrev pub of_sink_fault : SinkFault → Status
of_sink_fault sink.Failed = WriteFault
of_sink_fault sink.Memory = Memory

abbrev pub of_line_fault : LineFault → Status
of_line_fault line.Read = ReadFault
of_line_fault line.Endless = Endless
of_line_fault line.Memory = Memory

-- the status at the end of the input, by whether a line was refused
abbrev pub status_of : Bool → Status
status_of refused = if refused then SomeRefused else Done

-- a status of a run that no fault ended
abbrev pub IsEnding : Status → Type 0
IsEnding Done = Unit {0}
IsEnding SomeRefused = Unit {0}
IsEnding Usage = Unit {0}
IsEnding ReadFault = ⊥
IsEnding WriteFault = ⊥
IsEnding Memory = ⊥
IsEnding Endless = ⊥

-- the exit status of the program
abbrev pub status_number : Status → ℕ
status_number Done = 0
status_number SomeRefused = 1
status_number Usage = 2
status_number ReadFault = 3
status_number WriteFault = 4
status_number Memory = 5
status_number Endless = 6
