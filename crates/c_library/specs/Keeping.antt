-- What C's pointer to a session owns.
use Rattle.std.specs.Prelude.{Some, None}
use Rattle.std.specs.declared.option.Option.{Option}
use Rattle.std.specs.Coded.{coded_option}
use base.Fml.{Fml, ftrue}
use base.Stored.{Coded}
use denote.RawPtr.{Ptr}
use Rattle.std.specs.Box.Ownership.{box_owns}
use Rattle.std.specs.Global.{Global}
use Rattle.std.specs.contracts.impls.GlobalAllocator.TheImpl.{ghosts}
use Rattle.c_library.specs.contracts.talk.Talk.{the_row}

-- the content and the block of a box; nothing if there is no session
abbrev pub kept_owns : Global → Ptr → Option the_row.Denot → Fml
kept_owns alloc at None = ftrue
kept_owns alloc at (Some value) = box_owns (ghosts.dealloc_token alloc) the_row at value

-- how the logic stores the session
abbrev pub kept_coded : Coded (Option the_row.Denot)
kept_coded = coded_option the_row.coded
