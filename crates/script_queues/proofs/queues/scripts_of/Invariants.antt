use Rattle.std.proofs.Common.{◌≡◌, ◌<◌, ◌^◌, length, map, take, All}
use Rattle.script_queues.specs.Scripts.{whole_script}
use Rattle.script_queues.proofs.queues.scripts_of.Given as goal

abbrev pub invariant-loop-text : goal.invariant-loop-text
invariant-loop-text l = record {
  scripts : l.scripts.items ≡ map whole_script (take l.text-index l.texts);
  few : All (λ script. length script.items < 2 ^ 32) l.scripts.items;
}
