use Rattle.std.proofs.Common.{◌∙◌, ap, slice_set}
use Rattle.session_states.specs.declared.stage.Member.{Member}
use Rattle.lent_members.proofs.Places.{set-same}
use Rattle.lent_members.proofs.lending.take_back_at.Goals as goal

pub returns : goal.returns
returns g c =
    c.put_member.ensures ∙ (c.take_member-member.ensures.rest _ ∙ (ap (λ (m : Member). slice_set c.args.members.now.items c.args.at m) c.take_back.ensures ∙ set-same c.args.members.now.items c.args.at c.take_member-member.result c.take_member-member.ensures.taken))
