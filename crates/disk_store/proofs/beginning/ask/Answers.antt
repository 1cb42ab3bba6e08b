use Rattle.std.proofs.Common.{◌≡◌, ◌<◌, ◌+◌, ◌-◌, ◌≤◌, ℕ, refl, sym, subst, ap, ◌∙◌, arith}
use Rattle.line_store.specs.Calls.{IsDone, GoesOn}
use Rattle.line_store.specs.Seats.{done_at}
use Rattle.line_store.specs.Sights.{seat_or}
use Rattle.disk_store.specs.declared.member.Ceiling.TheVariants.{Asking, Raised}
use Rattle.disk_store.specs.declared.member.Member.{Member}
use Rattle.disk_store.specs.declared.member.MemberStage.TheVariants as stage
use Rattle.disk_store.specs.declared.held.Numbers.{Numbers}
use Rattle.disk_store.specs.Memory.{StoreMemory, with_member, with_number, at_stage}
use Rattle.disk_store.specs.Numbers.{kept_in, with_raised}
use Rattle.disk_store.specs.Seats.{stand_at, steps_at, steps_of, steps_in}
use Rattle.disk_store.specs.Shown.{DoesOn}
use Rattle.disk_store.proofs.Members.{set-here}
use Rattle.disk_store.proofs.Closing.{one-member}
use Rattle.disk_store.proofs.Failing.{does-fail}
use Rattle.disk_store.proofs.Drawing.{does-draw}
use Rattle.disk_store.proofs.Raising.{leads-nowhere, leads-root, may-draw, raised-before, raised-now, keeps-root, does-raise, does-refuse-now}
use Rattle.disk_store.proofs.OwnFiles.{own-none, own-root}
use Rattle.disk_store.proofs.beginning.ask.Goals as goal

free-below : (kept all : ℕ) (inside now : Numbers) → inside ≡ now → kept ≡ all → kept < inside.ceiling - inside.next → now.next + all < now.ceiling
free-below kept all inside now same value less = subst (λ (n : Numbers). n.next + all < n.ceiling) same (omega (arith, value, less))

few-kept : (kept all : ℕ) → kept ≡ all → kept ≤ 17 → all ≤ 17
few-kept kept all value few = omega (arith, value, few)

pub returns-then-kept-free-clause-comes : goal.returns-then-kept-free-clause-comes
returns-then-kept-free-clause-comes g c =
    let v = g.D.Disk.view c.args.disk.now in
    let s = c.args.s.number in
    let held = c.args.held.now in
    let at = c.requires.begins in
    let comes = c.draw_number.ensures in
    let same : comes.0 ≡ at.member = one-member held.members s comes.0 at.member comes.1 at.is in
    let numbers = ap (λ (x : StoreMemory). x.numbers) c.held.view_is in
    let below = free-below c.kept.result (kept_in held.members) c.held.inside.numbers held.numbers numbers c.kept.ensures.value (subst (λ (k : ℕ). c.kept.result < k) c.saturating_sub-free.ensures c.if-kept-free.true) in
    subst (λ new. DoesOn s (seat_or (stand_at held.members s) (done_at (stand_at held.members s))) (λ h k. IsDone s h k) v held v new)
    (sym (comes.2 ∙ ap (λ (x : Member). with_number s x held) same))
    (does-draw v v held s held.numbers.ceiling at.member Asking at.is c.requires.member at.at (leads-nowhere v held) (may-draw v held s at.member at.is at.at below))

pub returns-then-held-clause-comes : goal.returns-then-held-clause-comes
returns-then-held-clause-comes g c =
    let v = g.D.Disk.view c.args.disk.now in
    let s = c.args.s.number in
    let held = c.args.held.now in
    let at = c.requires.begins in
    let comes = c.set_stage.ensures.comes in
    let same : comes.0 ≡ at.member = one-member held.members s comes.0 at.member comes.1 at.is in
    let few : kept_in held.members ≤ 17 = few-kept c.kept.result (kept_in held.members) c.kept.ensures.value c.kept.ensures.few in
    let higher = subst (λ (n : Numbers). n.ceiling < n.written) (ap (λ (x : StoreMemory). x.numbers) c.held.view_is) c.if-held.true in
    subst (λ new. DoesOn s (stand_at held.members s) (λ h k. GoesOn s h k) v held v new)
    (sym (comes.2 ∙ ap (λ (x : Member). with_member s (at_stage (stage.Beginning Raised) x) held) same))
    (does-raise v v held s held.numbers.written at.member at.is at.at (leads-nowhere v held) (raised-before v held few higher))

pub returns-then-held-clause-less : goal.returns-then-held-clause-less
returns-then-held-clause-less g c more =
    let s = c.args.s.number in
    let held = c.args.held.now in
    let at = c.requires.begins in
    let comes = c.set_stage.ensures.comes in
    let next = at_stage (stage.Beginning Raised) comes.0 in
    let behind : steps_at c.set_stage.new.self.members s ≡ 0 = ap (λ (x : StoreMemory). steps_at x.members s) comes.2 ∙ ap steps_of (set-here held.members s next c.set_stage.ensures.within) in
    let before : steps_at held.members s ≡ 1 = ap steps_of at.is ∙ ap (λ x. steps_in x at.member) at.at in
    omega (arith, behind, before)

pub returns-in_default-clause-comes : goal.returns-in_default-clause-comes
returns-in_default-clause-comes g c =
    let held = c.args.held.now in
    let lower = subst (λ (n : Numbers). n.written ≤ n.ceiling) (ap (λ (x : StoreMemory). x.numbers) c.held.view_is) c.if-held.false in
    let over = c.in_default.ensures.none in
    let at = c.requires.begins in
    does-refuse-now (g.D.Disk.view c.args.disk.now) held c.args.s.number at.member at.is (λ changes. cc) c.root_file.result 0 (omega (arith, lower, over))

pub returns-in_default-raise_ceiling-clause-comes : goal.returns-in_default-raise_ceiling-clause-comes
returns-in_default-raise_ceiling-clause-comes g c =
    let v = g.D.Disk.view c.args.disk.now in
    let w = g.D.Disk.view c.raise_ceiling.new.disk in
    let s = c.args.s.number in
    let held = c.args.held.now in
    let at = c.requires.begins in
    let root = c.in-Some.root in
    let lower = subst (λ (n : Numbers). n.written ≤ n.ceiling) (ap (λ (x : StoreMemory). x.numbers) c.held.view_is) c.if-held.false in
    does-fail v w held s at.member at.is (λ reads. cc) (keeps-root v w held root c.raise_ceiling.ensures.writes c.in-Some.ensures.higher c.in-Some.ensures.limits lower c.raise_ceiling.ensures.roots c.raise_ceiling.ensures.keeps s at.member
    (λ tells. g.met.D.Disk.content_left c.raise_ceiling.new.disk w.moment tells (omega arith))) (λ changes. cc) (c.in_default-raise_ceiling.ensures.counts.cause refl)

pub returns-clause-comes : goal.returns-clause-comes
returns-clause-comes g c =
    let v = g.D.Disk.view c.args.disk.now in
    let w = g.D.Disk.view c.raise_ceiling.new.disk in
    let s = c.args.s.number in
    let held = c.args.held.now in
    let at = c.requires.begins in
    let root = c.in-Some.root in
    let comes = c.set_raised.ensures.comes in
    let same : comes.0 ≡ at.member = one-member held.members s comes.0 at.member comes.1 at.is in
    let lower = subst (λ (n : Numbers). n.written ≤ n.ceiling) (ap (λ (x : StoreMemory). x.numbers) c.held.view_is) c.if-held.false in
    let few : kept_in held.members ≤ 17 = few-kept c.kept.result (kept_in held.members) c.kept.ensures.value c.kept.ensures.few in
    subst (λ new. DoesOn s (stand_at held.members s) (λ h k. GoesOn s h k) v held w new)
    (sym (comes.2 ∙ ap (λ (x : Member). with_raised s root.ceiling x held) same))
    (does-raise v w held s root.ceiling at.member at.is at.at
    (leads-root v w held root c.raise_ceiling.ensures.writes c.in-Some.ensures.higher c.in-Some.ensures.limits lower c.raise_ceiling.ensures.roots c.raise_ceiling.ensures.keeps)
    (raised-now v w held root c.raise_ceiling.ensures.writes c.in-Some.ensures.higher c.in-Some.ensures.limits lower c.raise_ceiling.ensures.roots c.raise_ceiling.ensures.keeps c.in-Ok.ensures.stands few))

pub returns-clause-less : goal.returns-clause-less
returns-clause-less g c more =
    let s = c.args.s.number in
    let held = c.args.held.now in
    let at = c.requires.begins in
    let comes = c.set_raised.ensures.comes in
    let next = at_stage (stage.Beginning Raised) comes.0 in
    let behind : steps_at c.set_raised.new.self.members s ≡ 0 = ap (λ (x : StoreMemory). steps_at x.members s) comes.2 ∙ ap steps_of (set-here held.members s next c.set_raised.ensures.within) in
    let before : steps_at held.members s ≡ 1 = ap steps_of at.is ∙ ap (λ x. steps_in x at.member) at.at in
    omega (arith, behind, before)

pub returns-then-kept-free-clause-writes : goal.returns-then-kept-free-clause-writes
returns-then-kept-free-clause-writes g c = own-none (g.D.Disk.view c.args.disk.now)

pub returns-then-held-clause-writes : goal.returns-then-held-clause-writes
returns-then-held-clause-writes g c = own-none (g.D.Disk.view c.args.disk.now)

pub returns-in_default-clause-writes : goal.returns-in_default-clause-writes
returns-in_default-clause-writes g c = own-none (g.D.Disk.view c.args.disk.now)

pub returns-in_default-raise_ceiling-clause-writes : goal.returns-in_default-raise_ceiling-clause-writes
returns-in_default-raise_ceiling-clause-writes g c = own-root 0 (g.D.Disk.view c.args.disk.now) (g.D.Disk.view c.raise_ceiling.new.disk) c.raise_ceiling.ensures.writes

pub returns-clause-writes : goal.returns-clause-writes
returns-clause-writes g c = own-root 0 (g.D.Disk.view c.args.disk.now) (g.D.Disk.view c.raise_ceiling.new.disk) c.raise_ceiling.ensures.writes
