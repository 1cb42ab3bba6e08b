use Rattle.std.proofs.Common.{ap, Some}
use Rattle.record_format.proofs.Lists.{read_none, read_more, read_all, read_stuck, read_again}
use Rattle.index_node.specs.Node.{entry_fields, IsEntry}
use Rattle.index_node.proofs.Entries.{entries_code}
use Rattle.index_node.proofs.node.read_entries.Goals as goal

pub loop-at-init : goal.loop-at-init
loop-at-init c = read_none entry_fields (IsEntry c.args.level) c.args.bytes.now c.args.from c.new-entries.result c.new-entries.ensures c.requires

pub loop-at-preserved : goal.loop-at-preserved
loop-at-preserved c =
    rw c.in_ok-push.ensures.ok
    (read_more entry_fields (IsEntry c.args.level) c.args.bytes.now c.args.from c.loop-at.at c.loop-at.entries c.in-Some.found.entry c.in-Some.found.end c.loop-at.invariant (rw c.in-Some.is at c.in_ok-found.ensures.found))

pub returns-in_default-clause-none : goal.returns-in_default-clause-none
returns-in_default-clause-none c =
    let bytes = c.args.bytes.now in
    read_stuck entry_fields (IsEntry c.args.level) bytes (entries_code c.args.level bytes) c.args.from c.loop-at.at c.loop-at.entries c.loop-at.invariant c.loop-at-test.true (rw c.in_default.is at c.in_ok-found.ensures.none)

pub returns-in_default-clause-again : goal.returns-in_default-clause-again
returns-in_default-clause-again c =
    let bytes = c.args.bytes.now in
    λ all is. absurd (read_stuck entry_fields (IsEntry c.args.level) bytes (entries_code c.args.level bytes) c.args.from c.loop-at.at c.loop-at.entries c.loop-at.invariant c.loop-at-test.true (rw c.in_default.is at c.in_ok-found.ensures.none) all is)

pub returns-clause-found : goal.returns-clause-found
returns-clause-found c = read_all entry_fields (IsEntry c.args.level) c.args.bytes.now c.args.from c.loop-at.at c.loop-at.entries c.loop-at.invariant c.loop-at-test.false

pub returns-clause-again : goal.returns-clause-again
returns-clause-again c =
    let bytes = c.args.bytes.now in
    λ all is. ap Some (read_again entry_fields (IsEntry c.args.level) bytes (entries_code c.args.level bytes) c.args.from c.loop-at.at c.loop-at.entries c.loop-at.invariant c.loop-at-test.false all is)
