use Rattle.std.specs.Prelude.{codes}
use Rattle.workload_scripts.specs.Texts.{find_text, move_text}
use Rattle.workload_scripts.proofs.Parts.{on_ok, four}
use Rattle.workload_scripts.proofs.texts.transfer_text.Goals as goal

pub returns : goal.returns
returns c = on_ok c.extend-2.result
    (four c.args.out.now (codes "START_TRANSACTION READ_WRITE\n") (find_text c.args.transfer) (move_text c.args.transfer) (codes "; END_MODIFY\nEND_FOR END_FOR\nCOMMIT\n") _ _ _ _
    c.in_ok-extend.ensures.ok c.in_ok-find_text.ensures c.in_ok-move_text.ensures) c.extend-2.ensures.ok
