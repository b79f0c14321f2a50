use Rattle.std.proofs.Common.{◌≡◌, ◌∙◌, ◌<◌, ℕ, Some, length, List, [], ◌∷◌, position, sym, arith}
use Rattle.std.proofs.lemmas.Option.{none-some}
use Rattle.std.proofs.lemmas.List.Quantifiers.{position-Some}
use Rattle.cpe_rows.specs.cpe_name.Eleven.{Values}
use Rattle.cpe_rows.specs.Rows.{is_named}
use Rattle.cpe_rows.specs.declared.entry.Entry.{Entry}
use Rattle.name_index.specs.Table.{kept_at}
use Rattle.cpe_dictionary.specs.Kept.{entries_in}
use Rattle.cpe_dictionary.proofs.store.KeptDictionary.number_of.Goals as goal

-- the place of an entry is below the number of entries
place_within : (n : Values) (es : List Entry) (k : ℕ) → Some k ≡ position (is_named n) es → k < length es
place_within n [] k at = absurd (none-some k (sym at))
place_within n (e ∷ es) k at = (position-Some (is_named n) (e ∷ es) k e (sym at)).0

pub overflow_cast-result : goal.overflow_cast-result
overflow_cast-result c =
    let table = c.args.table.now in
    omega (arith, place_within (kept_at table c.args.id.0).name (entries_in table c.args.self.now) c.in-Some.place (sym c.in-Some.is ∙ c.place_of.ensures), c.requires.fits.kept.few)

pub returns-in-Some : goal.returns-in-Some
returns-in-Some c = sym c.in-Some.is ∙ c.place_of.ensures

pub returns-in-None : goal.returns-in-None
returns-in-None c = sym c.in-None.is ∙ c.place_of.ensures
