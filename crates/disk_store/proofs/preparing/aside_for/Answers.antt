use Rattle.std.proofs.Common.{◌≡◌, ◌+◌, ◌⊎◌, inl, inr, [], List, sym, ap, subst, ◌∙◌}
use Rattle.line_view.specs.declared.writes.Write.{Write}
use Rattle.line_store.specs.Seats.{set_aside, group_of}
use Rattle.member_memory.specs.Memory.{AreKeysOf, writes_in}
use Rattle.member_rooms.specs.member_steps.declared.committing.CommitTurn.{CommitTurn}
use Rattle.disk_store.specs.declared.member.MemberStage.{MemberStage}
use Rattle.disk_store.specs.declared.member.MemberStage.TheVariants as stage
use Rattle.disk_store.specs.Seats.{seat_with}
use Rattle.disk_store.proofs.Written.{lines-counted}
use Rattle.disk_store.proofs.preparing.aside_for.Goals as goal

for-commit : (st : MemberStage) (ws : List Write) → (st ≡ stage.Prepared) ⊎ ((turn : CommitTurn) × (st ≡ stage.Committing turn)) → group_of ws ≡ set_aside (seat_with st ws [])
for-commit st ws (inl is) = ap (λ x. set_aside (seat_with x ws [])) (sym is)
for-commit st ws (inr is) = ap (λ x. set_aside (seat_with x ws [])) (sym is.1)

pub returns-in-Prepared : goal.returns-in-Prepared
returns-in-Prepared c =
    let lines = c.args.member.now.written.lines in
    let its = subst (AreKeysOf lines) (sym c.keys-lines.ensures.value) c.keys-lines.ensures.its in
    ap (λ n. 1 + n) (sym (lines-counted lines c.keys-lines.result.now its)) ∙ for-commit c.args.member.now.stage (writes_in lines) c.in-Prepared.is

pub returns-then-commits : goal.returns-then-commits
returns-then-commits c =
    let lines = c.args.member.now.written.lines in
    let its = subst (AreKeysOf lines) (sym c.keys-lines.ensures.value) c.keys-lines.ensures.its in
    ap (λ n. 1 + n) (sym (lines-counted lines c.keys-lines.result.now its))
    ∙ ap (λ b. set_aside (seat_with (stage.Dead b c.in-Dead.recovery) (writes_in lines) [])) (sym c.if-commits.true)
    ∙ ap (λ st. set_aside (seat_with st (writes_in lines) [])) (sym c.in-Dead.is)
