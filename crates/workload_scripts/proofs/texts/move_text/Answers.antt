use Rattle.std.specs.Prelude.{codes}
use Rattle.workload_scripts.specs.Texts.{numbered}
use Rattle.workload_scripts.proofs.Parts.{on_ok, two}
use Rattle.workload_scripts.proofs.texts.move_text.Goals as goal

pub returns : goal.returns
returns c = on_ok c.numbered-2.result
    (two c.args.out.now (numbered (codes "\nMODIFY A USING A.BAL = A.BAL - ") c.args.transfer.amount) (numbered (codes "; END_MODIFY\nMODIFY B USING B.BAL = B.BAL + ") c.args.transfer.amount) _ _ c.in_ok-numbered.ensures) c.numbered-2.ensures
