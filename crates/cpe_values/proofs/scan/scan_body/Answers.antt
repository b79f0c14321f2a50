use Rattle.std.proofs.Common.{◌∙◌, sym, ap, arith}
use Rattle.cpe_values.specs.Spelling.{is_bare}
use Rattle.cpe_values.proofs.SkippingLemmas.{skip_again, length-skip_while}
use Rattle.cpe_values.specs.Scanning.{body_end}
use Rattle.cpe_values.proofs.Bodies.{skip_same, body_over, shorter_character, character_step}
use Rattle.cpe_values.proofs.scan.scan_body.Goals as goal

pub loop-style-init : goal.loop-style-init
loop-style-init c = record {
  same = rw c.skip_bare-rest.ensures (skip_same c.args.style c.args.bytes.now);
  stops = rw c.skip_bare-rest.ensures (skip_again (is_bare c.args.style) c.args.bytes.now);
}

pub loop-style-smaller : goal.loop-style-smaller
loop-style-smaller c =
    let shorter = shorter_character c.args.style c.loop-style.rest.now c.in_ok-scan_character.field-0.now c.in_ok-scan_character.ensures in
    rw c.skip_bare-rest-in-loop-style.ensures (omega (arith, shorter, length-skip_while (is_bare c.args.style) c.in_ok-scan_character.field-0.now))

pub loop-style-preserved : goal.loop-style-preserved
loop-style-preserved c =
    let step = character_step c.args.style c.loop-style.rest.now c.in_ok-scan_character.field-0.now c.in_ok-scan_character.ensures in record {
      same = ap (body_end c.args.style) c.skip_bare-rest-in-loop-style.ensures ∙ skip_same c.args.style c.in_ok-scan_character.field-0.now ∙ sym step ∙ c.loop-style.invariant.same;
      stops = rw c.skip_bare-rest-in-loop-style.ensures (skip_again (is_bare c.args.style) c.in_ok-scan_character.field-0.now);
    }

pub returns : goal.returns
returns c = sym c.loop-style.invariant.same ∙ body_over c.args.style c.loop-style.rest.now c.loop-style.invariant.stops (sym c.is_at_backslash.ensures ∙ c.loop-style-test.false)
