use Rattle.std.specs.Prelude.{codes}
use Rattle.workload_scripts.specs.Texts.{numbered}
use Rattle.workload_scripts.proofs.Parts.{on_ok, two}
use Rattle.workload_scripts.proofs.texts.find_text.Goals as goal

pub returns : goal.returns
returns c = on_ok c.numbered-2.result
    (two c.args.out.now (numbered (codes "FOR A IN ACCOUNTS WITH A.ID = ") c.args.transfer.from) (numbered (codes " FOR B IN ACCOUNTS WITH B.ID = ") c.args.transfer.to) _ _ c.in_ok-numbered.ensures) c.numbered-2.ensures
