use Rattle.std.proofs.Common.{rules}
use Rattle.cpe_values.proofs.Texts.{text_of}
use Rattle.cpe_values.proofs.Lawful.{never_unprintable}
use Rattle.cpe_values.specs.Parts.{parts}
use Rattle.cpe_values.proofs.value.Pattern.new.Goals as goal

pub text_of-requires : goal.text_of-requires
text_of-requires c = text_of (parts c.args.lead c.args.body.now c.args.trail) (search rules) (search rules) (search rules) (search rules) (search rules)

pub returns-in-Ok-clause-lawful : goal.returns-in-Ok-clause-lawful
returns-in-Ok-clause-lawful c = text_of (parts c.args.lead c.args.body.now c.args.trail) (search rules) (search rules) (search rules) (search rules) (search rules)

pub returns-in-Some-clause-made : goal.returns-in-Some-clause-made
returns-in-Some-clause-made c = λ is. absurd (never_unprintable (parts c.args.lead c.args.body.now c.args.trail) c.in-Some.place c.in-Some.ensures is)
