use Rattle.std.proofs.Common.{◌≡◌, List, rules, subst}
use Rattle.catalog.specs.declared.directory.PlacedLine.{PlacedLine}
use Rattle.statement_view.specs.Over.{knows_over}
use Rattle.schema_writes.specs.Deletions.{AreOwned}
use Rattle.schema_writes.proofs.Gone.{relation_refused, area_lacks, relation_gone, relation_erases}
use Rattle.schema_writes.specs.Areas.{WantsArea, IsAreaOwned}
use Rattle.schema_writes.proofs.Kept.{relation_wants, relation_keeps}
use Rattle.schema_writes.proofs.deletions.delete_relation.Goals as goal

pub returns-in-Err-clause-deletes : goal.returns-in-Err-clause-deletes
returns-in-Err-clause-deletes c = relation_refused c.args.view.now c.args.view.now c.args.catalog.now c.args.name.now c.in-Err.stop c.from_check.result c.in-Err.ensures.refusal c.from_check.ensures

pub returns-in-Err-owned_keys-clause-deletes : goal.returns-in-Err-owned_keys-clause-deletes
returns-in-Err-owned_keys-clause-deletes c = area_lacks c.args.view.now c.args.view.now c.args.catalog.now c.args.name.now c.in-Err-owned_keys.stop c.in-Ok.ensures.refusal c.in-Err-owned_keys.ensures.stop

pub returns-clause-deletes : goal.returns-clause-deletes
returns-clause-deletes c =
    let same : c.as_slice.result.now ≡ c.args.catalog.now.lines = search rules in
    relation_gone c.args.view.now c.erase_all.new.view c.erase_all-2.new.view c.args.catalog.now c.args.name.now c.area_named-area.result c.in-Ok.lines c.as_slice-2.result.now c.in-Ok-owned_keys.owned c.as_slice-3.result.now
    (search rules) (search rules) c.area_named-area.ensures c.in-Ok.ensures.keys (subst (λ (ls : List PlacedLine). AreOwned (knows_over c.args.view.now) c.area_named-area.result ls c.in-Ok-owned_keys.owned) same c.in-Ok-owned_keys.ensures.keys)
    c.in_ok-erase_all.ensures.stands c.in_ok-erase_all.ensures.laid c.in_ok-erase_all-2.ensures.stands c.in_ok-erase_all-2.ensures.laid c.in-Ok.ensures.refusal

pub returns-clause-nodes : goal.returns-clause-nodes
returns-clause-nodes c =
    let same : c.as_slice.result.now ≡ c.args.catalog.now.lines = search rules in
    relation_erases c.args.view.now c.erase_all.new.view c.erase_all-2.new.view c.args.catalog.now c.args.name.now c.area_named-area.result c.in-Ok.lines c.as_slice-2.result.now c.in-Ok-owned_keys.owned c.as_slice-3.result.now
    (search rules) (search rules) c.area_named-area.ensures c.in-Ok.ensures.keys (subst (λ (ls : List PlacedLine). AreOwned (knows_over c.args.view.now) c.area_named-area.result ls c.in-Ok-owned_keys.owned) same c.in-Ok-owned_keys.ensures.keys)
    c.in_ok-erase_all.ensures.stands c.in_ok-erase_all.ensures.laid c.in_ok-erase_all-2.ensures.stands c.in_ok-erase_all-2.ensures.laid

pub returns-in-Err-owned_keys-clause-areas : goal.returns-in-Err-owned_keys-clause-areas
returns-in-Err-owned_keys-clause-areas c =
    let same : c.as_slice.result.now ≡ c.args.catalog.now.lines = search rules in
    relation_wants c.args.view.now c.args.view.now c.args.catalog.now c.args.name.now c.area_named-area.result c.in-Err-owned_keys.stop c.area_named-area.ensures
    (subst (λ (ls : List PlacedLine). WantsArea (IsAreaOwned c.area_named-area.result ls) c.in-Err-owned_keys.stop) same c.in-Err-owned_keys.ensures.area)

pub returns-clause-areas : goal.returns-clause-areas
returns-clause-areas c =
    let same : c.as_slice.result.now ≡ c.args.catalog.now.lines = search rules in
    relation_keeps c.args.view.now c.erase_all.new.view c.erase_all-2.new.view c.args.catalog.now c.args.name.now c.area_named-area.result c.in-Ok.lines c.as_slice-2.result.now c.in-Ok-owned_keys.owned c.as_slice-3.result.now
    (search rules) (search rules) c.area_named-area.ensures c.in-Ok.ensures.keys (subst (λ (ls : List PlacedLine). AreOwned (knows_over c.args.view.now) c.area_named-area.result ls c.in-Ok-owned_keys.owned) same c.in-Ok-owned_keys.ensures.keys)
    c.in_ok-erase_all.ensures.areas c.in_ok-erase_all-2.ensures.areas
