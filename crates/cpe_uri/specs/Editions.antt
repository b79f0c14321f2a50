-- The pieces that `scan_uri` finds in the component of the edition. No public contract uses this definition.
use Rattle.std.specs.Prelude.{ℕ, List, [], ◌∷◌}
use Rattle.cpe_uri.specs.declared.scan.Editions.{Editions}

abbrev pub edition_texts : Editions → List (List ℕ)
edition_texts x = x.edition.now ∷ x.sw_edition.now ∷ x.target_sw.now ∷ x.target_hw.now ∷ x.other.now ∷ []
