use Rattle.wb_program.proofs.TypedTexts.{Typed-line}
use Rattle.wb_program.proofs.performing.type_line.Goals as goal

pub returns : goal.returns
returns g c =
    Typed-line g.D.Store c.args.text.now _ _ _ _ _ _ _ _ _ _ _ _ c.type_byte-2.result c.in_ok-type_text.ensures c.in_ok-type_byte.ensures c.type_byte-2.ensures
