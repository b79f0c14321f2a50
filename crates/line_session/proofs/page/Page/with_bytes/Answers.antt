use Rattle.std.proofs.Common.{◌∙◌}
use Rattle.line_session.proofs.page.Page.with_bytes.Goals as goal

-- the bytes that were lent, and the bytes that the function returned
pub returns-in-Ok-clause-ok : goal.returns-in-Ok-clause-ok
returns-in-Ok-clause-ok g c = (c.into_bytes-bytes.result, c.in-Ok.bytes, c.into_bytes-bytes.ensures ∙ c.replace.ensures.value, c.in-Ok.ensures, c.from_bytes.ensures)
