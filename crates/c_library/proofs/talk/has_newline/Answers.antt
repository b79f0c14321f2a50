use Rattle.std.proofs.Common.{◌∙◌}
use Rattle.line_session.proofs.cpe_io.NewlineLemmas.{first_newline, is_some-newline}
use Rattle.c_library.proofs.talk.has_newline.Goals as goal

pub returns : goal.returns
returns c = c.is_some.ensures ∙ is_some-newline c.args.piece.now _ (first_newline c.args.piece.now _ c.memchr.ensures)
