-- Lemmas: what was written at the end of a session.
use Rattle.std.proofs.Common.{◌≡◌, Bool, List, ℕ, ◌++◌, Option, sym, subst}
use Rattle.cpe_io.specs.declared.sink.SinkFault.{SinkFault}
use Rattle.cpe_io.specs.declared.sink.SinkFault.TheVariants as sink
use Rattle.cpe_io.specs.Writes.{AppendsPrefix}
use Rattle.line_session.specs.declared.status.Status.{Status}
use Rattle.line_session.specs.Statuses.{of_sink_fault}
use Rattle.line_session.specs.Pages.{Pours, Finishes}
use Rattle.line_session.proofs.Pouring.{Pours-rest}

-- lemma: `Finishes` is true after a fault of the sink, if a prefix of the text was written
poured_fault : (fault : SinkFault) (held held_now : Option (List ℕ)) (text : List ℕ) (refused : Bool) → AppendsPrefix held held_now text → Finishes held held_now text refused (of_sink_fault fault)
poured_fault sink.Failed held held_now text refused prefix = prefix
poured_fault sink.Memory held held_now text refused prefix = prefix

pub Finishes-poured_fault : (held held_then held_now : Option (List ℕ)) (page page_now text : List ℕ) (refused : Bool) (fault : SinkFault) (status : Status) → status ≡ of_sink_fault fault
    → Pours held held_then page page_now text → AppendsPrefix held_then held_now page_now → Finishes held held_now (page ++ text) refused status
Finishes-poured_fault held held_then held_now page page_now text refused fault status is pours prefix =
    subst (λ (st : Status). Finishes held held_now (page ++ text) refused st) (sym is) (poured_fault fault held held_now (page ++ text) refused (Pours-rest pours prefix))
