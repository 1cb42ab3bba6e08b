use Rattle.journal_scan.proofs.Groups as groups
use Rattle.journal_scan.proofs.laws.finds_whole_groups.Goals as goal

pub returns : goal.returns
returns c = record {
  groups = groups.are_groups;
  only = groups.only;
  anywhere = groups.anywhere;
  next_number = groups.next_number;
  next_slot = groups.next_slot;
}
