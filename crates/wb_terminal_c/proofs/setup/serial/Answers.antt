use Rattle.wb_terminal_c.proofs.Serials.{none-passed}
use Rattle.wb_terminal_c.proofs.setup.serial.Goals as goal

pub returns-in_default-from_utf8 : goal.returns-in_default-from_utf8
returns-in_default-from_utf8 c = none-passed c.args.setup.now.serial c.in-Some.characters.now c.in-Some.ensures.before c.in_default-from_utf8.ensures.cases.0
