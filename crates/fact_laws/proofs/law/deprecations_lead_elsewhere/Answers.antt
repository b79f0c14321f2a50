use Rattle.fact_laws.proofs.Moves.{led_there, led_asked, plain_asked, plain_there, led_kept}
use Rattle.fact_laws.proofs.law.deprecations_lead_elsewhere.Goals as goal

pub returns : goal.returns
returns c = record {
  there = λ rows mode e n h. led_there rows e n h mode;
  asked = λ rows mode e n h. led_asked rows e n h mode;
  plain = λ rows e n h. plain_asked rows e n h;
  plain_there = λ rows e n h. plain_there rows e n h;
  kept = led_kept;
}
