use Rattle.std.proofs.Common.{sym, subst}
use Rattle.cpe_rows.specs.cpe_name.Lower.{IsLower}
use Rattle.cover_lines.proofs.CoverLemmas.{lower_name_again}
use Rattle.cover_lines.proofs.speaker.in_lower_case.Goals as goal

pub returns-clause-lower : goal.returns-clause-lower
returns-clause-lower c = subst IsLower (sym c.into_lower.ensures) (lower_name_again c.args.name)
