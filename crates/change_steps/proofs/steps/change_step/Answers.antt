use Rattle.std.proofs.Common.{◌≡◌, length, sym, ap, subst, ◌∙◌, arith}
use Rattle.std.proofs.lemmas.Option.{same_Some}
use Rattle.disk_store.specs.declared.member.Member.{Member}
use Rattle.disk_store.specs.declared.member.MemberStage.TheVariants as stage
use Rattle.disk_store.proofs.OwnFiles.{own-none}
use Rattle.change_steps.proofs.steps.change_step.Goals as goal

pub journal_key-requires-clause-changes : goal.journal_key-requires-clause-changes
journal_key-requires-clause-changes g c =
    let m : Member = c.member-member.result.now in
    let at = c.requires.changes in
    let keys = ap (λ ks. length ks) c.keys.ensures.value in
    record {
      member = m;
      is = c.member-member.ensures;
      at = subst (λ (x : Member). x.stage ≡ stage.Changing) (same_Some at.member m (sym at.is ∙ c.member-member.ensures)) at.at;
      less = omega (arith, keys, c.if-journalled-count.true);
    }

pub push_line-requires-clause-changes : goal.push_line-requires-clause-changes
push_line-requires-clause-changes g c =
    let m : Member = c.member-member.result.now in
    let at = c.requires.changes in
    let keys = ap (λ ks. length ks) c.keys.ensures.value in
    record {
      member = m;
      is = c.member-member.ensures;
      at = subst (λ (x : Member). x.stage ≡ stage.Changing) (same_Some at.member m (sym at.is ∙ c.member-member.ensures)) at.at;
      all = omega (arith, keys, c.if-journalled-count.false);
      less = omega (arith, keys, c.if-pushed-count.true);
    }

pub end_change-requires-clause-through : goal.end_change-requires-clause-through
end_change-requires-clause-through g c =
    let m : Member = c.member-member.result.now in
    let at = c.requires.changes in
    let keys = ap (λ ks. length ks) c.keys.ensures.value in
    record {
      member = m;
      is = c.member-member.ensures;
      at = subst (λ (x : Member). x.stage ≡ stage.Changing) (same_Some at.member m (sym at.is ∙ c.member-member.ensures)) at.at;
      all = omega (arith, keys, c.if-journalled-count.false);
      through = omega (arith, keys, c.if-pushed-count.false);
    }

pub returns-clause-writes : goal.returns-clause-writes
returns-clause-writes g c = own-none (g.D.Disk.view c.args.disk.now)
