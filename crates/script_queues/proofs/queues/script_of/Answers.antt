use Rattle.script_queues.proofs.Fewness.{few-whole}
use Rattle.script_queues.proofs.queues.script_of.Goals as goal

pub returns-clause-few : goal.returns-clause-few
returns-clause-few c = few-whole c.read_whole.result c.args.text.now c.read_whole.ensures.script c.requires.short
