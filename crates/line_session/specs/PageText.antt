-- The text that a page keeps.
use Rattle.std.specs.Prelude.{ℕ, List, take}
use Rattle.line_session.specs.declared.page.Page.TheInside.{Inside}

abbrev pub page_text : Inside → List ℕ
page_text p = take p.used p.room.items
