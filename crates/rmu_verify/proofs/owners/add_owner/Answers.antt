use Rattle.std.proofs.Common.{rules, ◌≡◌, true}
use Rattle.rmu_verify.proofs.Owning.{owner_added}
use Rattle.rmu_verify.proofs.owners.add_owner.Goals as goal

pub returns : goal.returns
returns c =
    let does : c.passes.result ≡ true = first_of (cc, search rules) in
    owner_added c.args.file c.args.number c.args.page.now c.u32_at-owner.result c.args.owners.now.keys c.insert.new.self.keys c.u32_at-owner.ensures (λ none. c.if-owner-eq0.false none) (c.passes.ensures.yes does) c.in_ok-_is_new.ensures.keys
