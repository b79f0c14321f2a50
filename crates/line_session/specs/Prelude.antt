-- The definitions that most contracts of commands use.
pub use Rattle.step_count.specs.Within.{StepsWithin}
pub use Rattle.cpe_io.specs.Causes.{HasSinkCause, Rose}
pub use Rattle.cpe_io.specs.Writes.{AppendsPrefix}
pub use Rattle.line_session.specs.Pages.{IsBeforeOrAfter, IsAppended, Pours, AppendsPage}
pub use Rattle.line_session.specs.Ran.{Counted, Ran}
pub use Rattle.line_session.specs.Task.{Fixed}
