use Rattle.std.proofs.Common.{refl, sym, ◌∙◌}
use Rattle.cpe_command.specs.Command.{command_of}
use Rattle.c_library.specs.Beginning.{words_of}
use Rattle.c_library.proofs.Opening.{begins_lines, begins_says}
use Rattle.c_library.proofs.beginning.begin.Goals as goal

pub returns-in-Some : goal.returns-in-Some
returns-in-Some c =
    let words = words_of c.args.word.now c.args.second.now in (
      begins_lines (command_of words) c.in-Some.speaking (sym c.in-Some.is ∙ c.speaking_of.ensures),
      record {
        phase = refl;
        says = λ bytes. begins_says c.new.result c.new.ensures.number c.new.ensures.refused bytes (command_of words) c.in-Some.speaking (sym c.in-Some.is ∙ c.speaking_of.ensures);
      },
    )
