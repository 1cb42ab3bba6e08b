use Rattle.session_limits.specs.session_states.declared.stage.Life.TheVariants.{Alive}
use Rattle.std.proofs.Common.{refl, sym, subst}
use Rattle.std.proofs.lemmas.Bool.{or_right}
use Rattle.rdo_ast.specs.declared.reply.Reply.TheVariants as r
use Rattle.rdo_ast.specs.Views.{uttered_of}
use Rattle.lock_tree_laws.specs.declared.answer.Want.{Want}
use Rattle.session_measure.proofs.Wanted.{wants-between, wants-in, nearer-got}
use Rattle.stage_steps.specs.Asking.{IsReplyTo}
use Rattle.stage_steps.specs.Nearer.{is_for_journal}
use Rattle.stage_steps.specs.Turns.{at_stage}
use Rattle.stage_steps.proofs.Called.{got-step, noticed-step, asleep-step, got-seat, noticed-seat, asleep-seat}
use Rattle.stage_steps.proofs.Asked.{stands-within, wants-at_rest}
use Rattle.stage_steps.proofs.Goes.{goes-still}
use Rattle.stage_steps.proofs.Nearer.{asleep-near, noticed-near}
use Rattle.stage_steps.proofs.Seated.{bare-writing}
use Rattle.stage_steps.proofs.wanting.want.Goals as goal

pub returns-in-Got : goal.returns-in-Got
returns-in-Got g c =
    rw (c.at.ensures, c.behind_got.ensures) (goes-still c.args.s.number _ Alive _ Alive _ _ _ refl (λ f. got-seat _ c.args.s.number c.args.need c.args.terms.waits c.args.common.now.tree c.call.new.tree c.in-Ok.called c.in-Ok.ensures.called c.args.terms.standing c.args.terms.known c.args.terms.spoken c.args.terms.waits c.args.stage c.requires.statement (wants-at_rest c.args.stage c.args.need c.requires.statement c.requires.wants) (bare-writing _ c.requires.seat) c.requires.beside c.in-Got.is f) c.in-Ok.ensures.called.call.others (nearer-got c.args.s.number _ _ c.args.terms.standing c.args.terms.known c.args.terms.spoken c.args.terms.waits c.args.stage c.args.need c.requires.wants)
    (λ h shown dead. got-step g.S.Statements.stands g.met.S.Statements.orderly c.args.s.number c.args.common.now.word h c.args.common.now.tree c.call.new.tree dead c.args.terms.standing c.args.terms.known c.args.stage c.args.need c.args.terms.waits c.in-Ok.called c.in-Ok.ensures.called c.requires.wants c.args.terms.spoken c.args.terms.waits c.in-Got.is))

pub returns-in-NoticeTo : goal.returns-in-NoticeTo
returns-in-NoticeTo g c =
    rw c.at-in-NoticeTo.ensures (goes-still c.args.s.number _ Alive _ Alive _ _ _ refl (λ f. noticed-seat _ c.args.s.number c.args.need c.args.terms.waits c.args.common.now.tree c.call.new.tree c.in-Ok.called c.in-Ok.ensures.called c.args.terms.standing c.args.terms.known c.args.terms.spoken c.args.terms.waits c.args.stage c.requires.wants c.requires.beside c.in-NoticeTo.other c.in-NoticeTo.node c.in-NoticeTo.mode c.in-NoticeTo.is f) c.in-Ok.ensures.called.call.others (λ left total. noticed-near c.args.s.number c.args.need c.args.terms.waits c.args.common.now.tree c.call.new.tree c.in-Ok.called c.in-Ok.ensures.called _ _ (wants-between c.args.stage c.args.need c.requires.wants) (wants-in c.args.stage c.args.need c.requires.wants) left total c.in-NoticeTo.other c.in-NoticeTo.node c.in-NoticeTo.mode c.in-NoticeTo.is)
    (λ h shown dead. noticed-step g.S.Statements.stands g.met.S.Statements.orderly c.args.s.number c.args.common.now.word h c.args.common.now.tree c.call.new.tree dead c.args.terms.standing c.args.terms.known c.args.stage c.args.need c.args.terms.waits c.in-Ok.called c.in-Ok.ensures.called c.requires.wants c.args.terms.spoken c.args.terms.waits c.in-NoticeTo.other c.in-NoticeTo.node c.in-NoticeTo.mode c.in-NoticeTo.is))

pub returns-in-Asleep : goal.returns-in-Asleep
returns-in-Asleep g c =
    rw c.at-in-Asleep.ensures (goes-still c.args.s.number _ Alive _ Alive _ _ _ refl (λ f. asleep-seat _ c.args.s.number c.args.need c.args.terms.waits c.args.common.now.tree c.call.new.tree c.in-Ok.called c.in-Ok.ensures.called c.args.terms.standing c.args.terms.known c.args.terms.spoken c.args.terms.waits c.args.stage c.requires.wants c.requires.beside c.in-Asleep.other c.in-Asleep.is f) c.in-Ok.ensures.called.call.others (λ left total. asleep-near c.args.s.number c.args.need c.args.terms.waits c.args.common.now.tree c.call.new.tree c.in-Ok.called c.in-Ok.ensures.called _ (at_stage c.args.terms c.args.stage) (wants-between c.args.stage c.args.need c.requires.wants) (wants-in c.args.stage c.args.need c.requires.wants) left total c.in-Asleep.other c.in-Asleep.is (λ waits. or_right (is_for_journal c.args.stage) c.args.terms.waits waits))
    (λ h shown dead. asleep-step g.S.Statements.stands g.met.S.Statements.orderly c.args.s.number c.args.common.now.word h c.args.common.now.tree c.call.new.tree dead c.args.terms.standing c.args.terms.known c.args.stage c.args.need c.args.terms.waits c.in-Ok.called c.in-Ok.ensures.called c.requires.wants c.args.terms.spoken c.args.terms.waits c.in-Asleep.other c.in-Asleep.is))

pub returns-in-Conflict : goal.returns-in-Conflict
returns-in-Conflict g c =
    c.refuse.ensures c.args.common.now.tree c.args.stage c.args.need c.in-Ok.called.answer c.requires.wants c.item_in-in-Conflict.ensures.is c.in-Ok.ensures.called
    (subst (λ (a : Want). IsReplyTo (uttered_of c.item_in-in-Conflict.result) a (r.LockConflict c.in-Conflict.other)) (sym c.in-Conflict.is) (refl, c.item_in-in-Conflict.ensures.stays))

pub returns-in-Deadlock : goal.returns-in-Deadlock
returns-in-Deadlock g c =
    c.refuse-in-Deadlock.ensures c.args.common.now.tree c.args.stage c.args.need c.in-Ok.called.answer c.requires.wants c.item_in-in-Deadlock.ensures.is c.in-Ok.ensures.called
    (subst (λ (a : Want). IsReplyTo (uttered_of c.item_in-in-Deadlock.result) a c.cyclic-reply.result) (sym c.in-Deadlock.is) (c.cyclic-reply.ensures, c.item_in-in-Deadlock.ensures.stays))

pub returns-in_default : goal.returns-in_default
returns-in_default g c =
    c.forgo.ensures.forgoes c.args.common.now.tree c.args.stage c.in_default.ensures.err (wants-at_rest c.args.stage c.args.need c.requires.statement c.requires.wants) c.item_in.ensures.is

pub behind_got-requires : goal.behind_got-requires
behind_got-requires g c = record { within = stands-within c.args.stage c.args.need c.requires.wants }
