use Rattle.std.proofs.Common.{◌≡◌, ◌<◌, length, slice_index_or, Some, sym, ap, subst, ◌∙◌}
use Rattle.std.specs.Prelude.{slice_get}
use Rattle.std.proofs.lemmas.Option.{same_Some, slice_get-get_or}
use Rattle.rdb_types.specs.declared.keys.Dbkey.{Dbkey}
use Rattle.disk_store.specs.declared.member.Member.{Member}
use Rattle.disk_store.specs.declared.member.MemberStage.TheVariants as stage
use Rattle.change_steps.proofs.ChangeCalls.{place-for}
use Rattle.change_steps.proofs.pushing.push_line.Goals as goal

pub unreachable-requires : goal.unreachable-requires
unreachable-requires g c =
    let m : Member = c.member-member.result.now in
    let one : c.requires.changes.member ≡ m = same_Some _ _ (sym c.requires.changes.is ∙ c.member-member.ensures) in
    let less : m.pushed < length c.keys.result.now = subst (λ ks. m.pushed < length ks) (sym c.keys.ensures.value) (subst (λ (x : Member). x.pushed < length x.written.keys) one c.requires.changes.less) in
    let is : (d : Dbkey) → slice_get m.written.keys m.pushed ≡ Some (slice_index_or c.keys.result.now m.pushed d) = λ d. ap (λ ks. slice_get ks m.pushed) (sym c.keys.ensures.value) ∙ slice_get-get_or c.keys.result.now m.pushed d less in
    let p = place-for c.args.held.now c.sound.ensures c.args.s.number m c.member-member.ensures m.pushed _ (is _) in
    c.in_default.ensures.none p.0 p.1

pub push_key-requires-clause-next : goal.push_key-requires-clause-next
push_key-requires-clause-next g c =
    let m : Member = c.member-member.result.now in
    let one : c.requires.changes.member ≡ m = same_Some _ _ (sym c.requires.changes.is ∙ c.member-member.ensures) in
    let less : m.pushed < length c.keys.result.now = subst (λ ks. m.pushed < length ks) (sym c.keys.ensures.value) (subst (λ (x : Member). x.pushed < length x.written.keys) one c.requires.changes.less) in
    let is : (d : Dbkey) → slice_get m.written.keys m.pushed ≡ Some (slice_index_or c.keys.result.now m.pushed d) = λ d. ap (λ ks. slice_get ks m.pushed) (sym c.keys.ensures.value) ∙ slice_get-get_or c.keys.result.now m.pushed d less in
    record { member = m; is = c.member-member.ensures; at = subst (λ (x : Member). x.stage ≡ stage.Changing) one c.requires.changes.at; next = is _ }
