-- The piece that was read, and the pieces after it. No public clause uses this.
use Rattle.std.specs.Prelude.{ℕ, Bool, true, false, List, []}
use Rattle.std.specs.Str.{str_to_ascii_lowercase}
use Rattle.advise_versions.specs.declared.piece.PieceKind.{PieceKind}
use Rattle.advise_versions.specs.declared.piece.PieceKind.TheVariants as kind
use Rattle.advise_versions.specs.declared.piece.Piece.{Piece}
use Rattle.advise_versions.specs.Pieces as piece

abbrev pub is_last : PieceKind → Bool
is_last kind.Word = false
is_last kind.End = true
is_last kind.Number = false

abbrev pub seen_by : PieceKind → List ℕ → piece.Piece
seen_by kind.Word text = piece.Word (str_to_ascii_lowercase text)
seen_by kind.End text = piece.End
seen_by kind.Number text = piece.Number text

abbrev pub piece_seen : Piece → piece.Piece
piece_seen p = seen_by p.kind p.text.now

abbrev pub behind_by : PieceKind → List ℕ → List piece.Piece
behind_by kind.Word behind = piece.version_pieces behind
behind_by kind.End behind = []
behind_by kind.Number behind = piece.version_pieces behind

abbrev pub pieces_behind : Piece → List piece.Piece
pieces_behind p = behind_by p.kind p.behind.now
