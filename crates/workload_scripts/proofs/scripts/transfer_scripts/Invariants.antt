use Rattle.std.proofs.Common.{◌≡◌, ◌≤◌, All, length}
use Rattle.workload_scripts.specs.Scripts.{drawn_before, transfer_scripts_to}
use Rattle.workload_scripts.proofs.scripts.transfer_scripts.Given as goal

abbrev pub invariant-loop-session : goal.invariant-loop-session
invariant-loop-session l = record {
  texts : l.texts.items ≡ transfer_scripts_to l.accounts l._session;
  number : l.number ≡ drawn_before l.accounts l._session;
  short : All (λ text. length text ≤ 10000) l.texts.items;
}
