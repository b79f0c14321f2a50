use Rattle.name_index.proofs.Fitting.{held_fits, released_fits, added_fits, dropped_fits, fresh_held, number_fresh, pair_moves, held_live, held_name}
use Rattle.name_index.proofs.law.fitting_laws.Goals as goal

pub returns : goal.returns
returns c = record { held = held_fits; released = released_fits; added = added_fits; dropped = dropped_fits; fresh = fresh_held; present = pair_moves; number = number_fresh; live = held_live; named = held_name }
