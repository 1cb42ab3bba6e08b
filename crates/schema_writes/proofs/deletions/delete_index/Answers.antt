use Rattle.std.proofs.Common.{◌≡◌, List, rules, subst}
use Rattle.catalog.specs.declared.directory.PlacedLine.{PlacedLine}
use Rattle.statement_view.specs.Over.{knows_over}
use Rattle.schema_writes.specs.Deletions.{AreNodes}
use Rattle.schema_writes.proofs.Gone.{index_refused, index_lacks, index_gone, index_erases}
use Rattle.schema_writes.specs.Areas.{WantsArea, IsAreaNamed}
use Rattle.schema_writes.proofs.Kept.{index_wants, index_keeps}
use Rattle.schema_writes.proofs.deletions.delete_index.Goals as goal

pub returns-in-Err-clause-deletes : goal.returns-in-Err-clause-deletes
returns-in-Err-clause-deletes c = index_refused c.args.view.now c.args.view.now c.args.catalog.now c.args.name.now c.in-Err.stop c.from_check.result c.in-Err.ensures.refusal c.from_check.ensures

pub returns-in-Err-index_nodes-clause-deletes : goal.returns-in-Err-index_nodes-clause-deletes
returns-in-Err-index_nodes-clause-deletes c = index_lacks c.args.view.now c.args.view.now c.args.catalog.now c.args.name.now c.in-Err-index_nodes.stop c.in-Ok.ensures.refusal c.in-Err-index_nodes.ensures.stop

pub returns-clause-deletes : goal.returns-clause-deletes
returns-clause-deletes c =
    let same : c.as_slice.result.now ≡ c.args.catalog.now.lines = search rules in
    index_gone c.args.view.now c.erase_all.new.view c.erase_all-2.new.view c.args.catalog.now c.args.name.now c.in-Ok.lines c.as_slice-2.result.now c.in-Ok-index_nodes.nodes c.as_slice-3.result.now
    (search rules) (search rules) c.in-Ok.ensures.keys (subst (λ (ls : List PlacedLine). AreNodes (knows_over c.args.view.now) ls c.args.name.now c.in-Ok-index_nodes.nodes) same c.in-Ok-index_nodes.ensures.keys)
    c.in_ok-erase_all.ensures.stands c.in_ok-erase_all.ensures.laid c.in_ok-erase_all-2.ensures.stands c.in_ok-erase_all-2.ensures.laid c.in-Ok.ensures.refusal

pub returns-clause-nodes : goal.returns-clause-nodes
returns-clause-nodes c =
    let same : c.as_slice.result.now ≡ c.args.catalog.now.lines = search rules in
    index_erases c.args.view.now c.erase_all.new.view c.erase_all-2.new.view c.args.catalog.now c.args.name.now c.in-Ok.lines c.as_slice-2.result.now c.in-Ok-index_nodes.nodes c.as_slice-3.result.now
    (search rules) (search rules) c.in-Ok.ensures.keys (subst (λ (ls : List PlacedLine). AreNodes (knows_over c.args.view.now) ls c.args.name.now c.in-Ok-index_nodes.nodes) same c.in-Ok-index_nodes.ensures.keys)
    c.in_ok-erase_all.ensures.stands c.in_ok-erase_all.ensures.laid c.in_ok-erase_all-2.ensures.stands c.in_ok-erase_all-2.ensures.laid

pub returns-in-Err-index_nodes-clause-areas : goal.returns-in-Err-index_nodes-clause-areas
returns-in-Err-index_nodes-clause-areas c =
    let same : c.as_slice.result.now ≡ c.args.catalog.now.lines = search rules in
    index_wants c.args.view.now c.args.view.now c.args.catalog.now c.args.name.now c.in-Err-index_nodes.stop (subst (λ (ls : List PlacedLine). WantsArea (IsAreaNamed ls c.args.name.now) c.in-Err-index_nodes.stop) same c.in-Err-index_nodes.ensures.area)

pub returns-clause-areas : goal.returns-clause-areas
returns-clause-areas c =
    let same : c.as_slice.result.now ≡ c.args.catalog.now.lines = search rules in
    index_keeps c.args.view.now c.erase_all.new.view c.erase_all-2.new.view c.args.catalog.now c.args.name.now c.in-Ok.lines c.as_slice-2.result.now c.in-Ok-index_nodes.nodes c.as_slice-3.result.now
    (search rules) (search rules) c.in-Ok.ensures.keys (subst (λ (ls : List PlacedLine). AreNodes (knows_over c.args.view.now) ls c.args.name.now c.in-Ok-index_nodes.nodes) same c.in-Ok-index_nodes.ensures.keys)
    c.in_ok-erase_all.ensures.areas c.in_ok-erase_all-2.ensures.areas
