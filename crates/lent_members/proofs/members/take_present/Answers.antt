use Rattle.std.proofs.Common.{◌∙◌, List, Some, ap, slice_set, sym}
use Rattle.session_states.specs.declared.stage.Member.{Member}
use Rattle.lent_members.proofs.Places.{set-same}
use Rattle.lent_members.proofs.members.take_present.Goals as goal

pub returns-in-Ok-clause-taken : goal.returns-in-Ok-clause-taken
returns-in-Ok-clause-taken g c = c.take_member.ensures.taken ∙ ap Some (sym c.in-Ok.ensures.member)

pub returns-in-Err-clause-same : goal.returns-in-Err-clause-same
returns-in-Err-clause-same g c none =
    c.put_member.ensures ∙ (c.take_member.ensures.rest _ ∙ (ap (λ (m : Member). slice_set c.args.members.now.items c.args.at m) c.in-Err.ensures.back ∙ set-same c.args.members.now.items c.args.at c.take_member.result c.take_member.ensures.taken))

-- (it is put back, and so all are as before)
pub returns-in-Err-clause-rest : goal.returns-in-Err-clause-rest
returns-in-Err-clause-rest g c m =
    ap (λ (ms : List Member). slice_set ms c.args.at m)
    (c.put_member.ensures ∙ (c.take_member.ensures.rest _ ∙ (ap (λ (n : Member). slice_set c.args.members.now.items c.args.at n) c.in-Err.ensures.back ∙ set-same c.args.members.now.items c.args.at c.take_member.result c.take_member.ensures.taken)))
