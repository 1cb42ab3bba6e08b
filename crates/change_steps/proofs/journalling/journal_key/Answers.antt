use Rattle.std.proofs.Common.{◌≡◌, ◌<◌, ◌++◌, ◌∷◌, [], ℕ, List, false, arith, Err, Ok, length, slice_index_or, Some, sym, ap, subst, ◌∙◌}
use Rattle.std.specs.Prelude.{slice_get}
use Rattle.std.proofs.lemmas.Option.{same_Some, slice_get-get_or}
use Rattle.rdb_types.specs.declared.keys.Dbkey.{Dbkey}
use Rattle.rdb_outside.specs.Disk.{View}
use Rattle.stable_lines.specs.Slots.{Undo}
use Rattle.disk_seats.specs.Ledgers.{changing, Ledger, stands_as}
use Rattle.rdb_outside.specs.Moments.{each_slot}
use Rattle.line_store.specs.Calls.{Fails, GoesOn}
use Rattle.line_store.specs.declared.answers.Fault.TheVariants.{Bad}
use Rattle.line_store.specs.Seats.{failed_at}
use Rattle.disk_seats.specs.Members.{LedgerFacts}
use Rattle.member_steps.specs.Journalling.{ledger_with}
use Rattle.member_steps.specs.declared.journalling.Journalled.{Journalled}
use Rattle.member_steps.specs.declared.journalling.Journalled.TheVariants.{Header, BeforeImage}
use Rattle.disk_store.specs.declared.member.Member.{Member}
use Rattle.disk_store.specs.declared.member.MemberStage.TheVariants as stage
use Rattle.disk_store.specs.Memory.{StoreMemory, at_stage, with_member}
use Rattle.disk_store.specs.Seats.{stand_at}
use Rattle.disk_store.specs.Shown.{DoesOn}
use Rattle.disk_store.specs.ChangeSteps.{named_now, journalled_more}
use Rattle.disk_store.proofs.Closing.{one-member}
use Rattle.change_steps.proofs.ChangeCalls.{place-for, fewer-at}
use Rattle.change_steps.proofs.JournalSteps.{does-name, named-fewer, does-journal, journalled-fewer, header-facts, does-unnamed, does-fault}
use Rattle.disk_store.proofs.OwnFiles.{own-journal}
use Rattle.change_steps.proofs.journalling.journal_key.Goals as goal

behind-image : (w : View) (what : Journalled) (s : ℕ) (all : List Undo) (undo : Undo) (stable : ℕ) (g : Ledger) → what ≡ BeforeImage → LedgerFacts w (ledger_with what s all undo stable g) → LedgerFacts w (stands_as s (changing (all ++ undo ∷ []) stable) g)
behind-image w what s all undo stable g same facts = subst (λ (x : Journalled). LedgerFacts w (ledger_with x s all undo stable g)) same facts

behind-header : (w : View) (what : Journalled) (s : ℕ) (all : List Undo) (undo : Undo) (stable : ℕ) (g : Ledger) → what ≡ Header → LedgerFacts w (ledger_with what s all undo stable g) → LedgerFacts w g
behind-header w what s all undo stable g same facts = subst (λ (x : Journalled). LedgerFacts w (ledger_with x s all undo stable g)) same facts

pub unreachable-requires : goal.unreachable-requires
unreachable-requires g c =
    let m : Member = c.member-member.result.now in
    let one : c.requires.changes.member ≡ m = same_Some _ _ (sym c.requires.changes.is ∙ c.member-member.ensures) in
    let less : m.journalled < length c.keys.result.now = subst (λ ks. m.journalled < length ks) (sym c.keys.ensures.value) (subst (λ (x : Member). x.journalled < length x.written.keys) one c.requires.changes.less) in
    let is : (d : Dbkey) → slice_get m.written.keys m.journalled ≡ Some (slice_index_or c.keys.result.now m.journalled d) = λ d. ap (λ ks. slice_get ks m.journalled) (sym c.keys.ensures.value) ∙ slice_get-get_or c.keys.result.now m.journalled d less in
    let p = place-for c.args.held.now c.sound.ensures c.args.s.number m c.member-member.ensures m.journalled _ (is _) in
    c.in_default.ensures.none p.0 p.1

pub returns-then-named-clause-comes : goal.returns-then-named-clause-comes
returns-then-named-clause-comes g c =
    let v = g.D.Disk.view c.args.disk.now in
    let w = g.D.Disk.view c.journal_next.new.disk in
    let s = c.args.s.number in
    let held : StoreMemory = c.args.held.now in
    let m : Member = c.member-member.result.now in
    let one : c.requires.changes.member ≡ m = same_Some _ _ (sym c.requires.changes.is ∙ c.member-member.ensures) in
    let at : m.stage ≡ stage.Changing = subst (λ (x : Member). x.stage ≡ stage.Changing) one c.requires.changes.at in
    let comes = c.set_stage.ensures.comes in
    let same : comes.0 ≡ m = one-member held.members s comes.0 m comes.1 c.member-member.ensures in
    subst (λ (new : StoreMemory). DoesOn s (failed_at (stand_at held.members s)) (λ h k. Fails s (Bad c.ruj_file.result 0) h k) v held w new) (sym (comes.2 ∙ ap (λ (x : Member). with_member s (at_stage stage.Broken x) held) same))
    (does-unnamed v w held s m c.member-member.ensures c.sound.ensures at c.journal_next.ensures.writes.0 c.journal_next.ensures.writes.1
    (λ t ledger has facts. c.journal_next.ensures.keeps t ledger has.transaction has.all has.stable facts has.stands has.is_open has.number has.count)
    c.ruj_file.result 0 c.if-named.true (λ t. c.in-Ok-Header.ensures.another (ap Ok c.in-Ok-Header.field-0-is) t))

pub returns-in-Err-clause-comes : goal.returns-in-Err-clause-comes
returns-in-Err-clause-comes g c =
    let v = g.D.Disk.view c.args.disk.now in
    let w = g.D.Disk.view c.journal_next.new.disk in
    let s = c.args.s.number in
    let held : StoreMemory = c.args.held.now in
    let m : Member = c.member-member.result.now in
    let one : c.requires.changes.member ≡ m = same_Some _ _ (sym c.requires.changes.is ∙ c.member-member.ensures) in
    let at : m.stage ≡ stage.Changing = subst (λ (x : Member). x.stage ≡ stage.Changing) one c.requires.changes.at in
    let comes = c.set_stage-in-Err.ensures.comes in
    let same : comes.0 ≡ m = one-member held.members s comes.0 m comes.1 c.member-member.ensures in
    subst (λ (new : StoreMemory). DoesOn s (failed_at (stand_at held.members s)) (λ h k. Fails s c.in-Err.fault h k) v held w new) (sym (comes.2 ∙ ap (λ (x : Member). with_member s (at_stage stage.Broken x) held) same))
    (does-fault v w held s m c.member-member.ensures c.sound.ensures at c.journal_next.ensures.writes.0 c.journal_next.ensures.writes.1
    (λ t ledger has facts. c.journal_next.ensures.keeps t ledger has.transaction has.all has.stable facts has.stands has.is_open has.number has.count) c.in-Err.fault
    (λ e. c.in-Err.ensures.failed (ap Err e)) (λ h shown file slot e. c.in-Err.ensures.bad file slot (ap Err e) shown.tells (record { first = c.requires.member.first; last = c.requires.member.last }) shown.ledger shown.facts))

pub returns-in-Ok-BeforeImage-clause-comes : goal.returns-in-Ok-BeforeImage-clause-comes
returns-in-Ok-BeforeImage-clause-comes g c =
    let v = g.D.Disk.view c.args.disk.now in
    let w = g.D.Disk.view c.journal_next.new.disk in
    let s = c.args.s.number in
    let held : StoreMemory = c.args.held.now in
    let m : Member = c.member-member.result.now in
    let one : c.requires.changes.member ≡ m = same_Some _ _ (sym c.requires.changes.is ∙ c.member-member.ensures) in
    let at : m.stage ≡ stage.Changing = subst (λ (x : Member). x.stage ≡ stage.Changing) one c.requires.changes.at in
    let less : m.journalled < length c.keys.result.now = subst (λ ks. m.journalled < length ks) (sym c.keys.ensures.value) (subst (λ (x : Member). x.journalled < length x.written.keys) one c.requires.changes.less) in
    let is : (d : Dbkey) → slice_get m.written.keys m.journalled ≡ Some (slice_index_or c.keys.result.now m.journalled d) = λ d. ap (λ ks. slice_get ks m.journalled) (sym c.keys.ensures.value) ∙ slice_get-get_or c.keys.result.now m.journalled d less in
    let comes = c.count_journalled.ensures in
    let same : comes.0 ≡ m = one-member held.members s comes.0 m comes.1 c.member-member.ensures in
    subst (λ (new : StoreMemory). DoesOn s (stand_at held.members s) (λ h k. GoesOn s h k) v held w new) (sym (comes.2 ∙ ap (λ (x : Member). with_member s (journalled_more x) held) same))
    (does-journal v w held s m c.member-member.ensures c.sound.ensures at c.journal_next.ensures.writes.0 c.journal_next.ensures.writes.1 _ (is _) (λ tells. each_slot v v.content (g.met.D.Disk.content_left c.args.disk.now v.moment tells (omega arith)))
    (λ t ledger o all stable facts stands open-is tsn count none left within. behind-image w _ s all _ stable ledger c.in-Ok-BeforeImage.field-0-is (c.in-Ok-BeforeImage.ensures.goes_on t ledger o all stable facts stands open-is tsn count none left within)))

pub returns-else-named-clause-comes : goal.returns-else-named-clause-comes
returns-else-named-clause-comes g c =
    let v = g.D.Disk.view c.args.disk.now in
    let w = g.D.Disk.view c.journal_next.new.disk in
    let s = c.args.s.number in
    let held : StoreMemory = c.args.held.now in
    let m : Member = c.member-member.result.now in
    let one : c.requires.changes.member ≡ m = same_Some _ _ (sym c.requires.changes.is ∙ c.member-member.ensures) in
    let at : m.stage ≡ stage.Changing = subst (λ (x : Member). x.stage ≡ stage.Changing) one c.requires.changes.at in
    let less : m.journalled < length c.keys.result.now = subst (λ ks. m.journalled < length ks) (sym c.keys.ensures.value) (subst (λ (x : Member). x.journalled < length x.written.keys) one c.requires.changes.less) in
    let is : (d : Dbkey) → slice_get m.written.keys m.journalled ≡ Some (slice_index_or c.keys.result.now m.journalled d) = λ d. ap (λ ks. slice_get ks m.journalled) (sym c.keys.ensures.value) ∙ slice_get-get_or c.keys.result.now m.journalled d less in
    let comes = c.note_named.ensures in
    let same : comes.0 ≡ m = one-member held.members s comes.0 m comes.1 c.member-member.ensures in
    subst (λ (new : StoreMemory). DoesOn s (stand_at held.members s) (λ h k. GoesOn s h k) v held w new) (sym (comes.2 ∙ ap (λ (x : Member). with_member s (named_now x) held) same))
    (does-name v w held s m c.member-member.ensures c.sound.ensures at c.journal_next.ensures.writes.0 c.journal_next.ensures.writes.1
    (header-facts v w held s m c.member-member.ensures c.sound.ensures _ (is _) (λ t ledger o all stable facts stands open-is tsn count none left within. behind-header w _ s all _ stable ledger c.in-Ok-Header.field-0-is (c.in-Ok-Header.ensures.goes_on t ledger o all stable facts stands open-is tsn count none left within))) c.if-named.false
    (λ t. c.in-Ok-Header.ensures.names (ap Ok c.in-Ok-Header.field-0-is) t))

pub returns-in-Ok-BeforeImage-clause-less : goal.returns-in-Ok-BeforeImage-clause-less
returns-in-Ok-BeforeImage-clause-less g c more =
    let s = c.args.s.number in
    let held : StoreMemory = c.args.held.now in
    let comes = c.count_journalled.ensures in
    let one : c.requires.changes.member ≡ comes.0 = same_Some _ _ (sym c.requires.changes.is ∙ comes.1) in
    fewer-at held.members c.count_journalled.new.self.members s comes.0 (journalled_more comes.0) comes.1 (ap (λ (x : StoreMemory). x.members) comes.2)
    (journalled-fewer comes.0 (subst (λ (x : Member). x.stage ≡ stage.Changing) one c.requires.changes.at) (subst (λ (x : Member). x.journalled < length x.written.keys) one c.requires.changes.less))

pub returns-else-named-clause-less : goal.returns-else-named-clause-less
returns-else-named-clause-less g c more =
    let s = c.args.s.number in
    let held : StoreMemory = c.args.held.now in
    let comes = c.note_named.ensures in
    let one : c.requires.changes.member ≡ comes.0 = same_Some _ _ (sym c.requires.changes.is ∙ comes.1) in
    let same : c.member-member.result.now ≡ comes.0 = same_Some _ _ (sym c.member-member.ensures ∙ comes.1) in
    fewer-at held.members c.note_named.new.self.members s comes.0 (named_now comes.0) comes.1 (ap (λ (x : StoreMemory). x.members) comes.2)
    (named-fewer comes.0 (subst (λ (x : Member). x.stage ≡ stage.Changing) one c.requires.changes.at) (subst (λ (x : Member). x.named ≡ false) same c.if-named.false))

pub returns-then-named-clause-writes : goal.returns-then-named-clause-writes
returns-then-named-clause-writes g c = let writes = c.journal_next.ensures.writes in own-journal c.args.s.number writes.0 (g.D.Disk.view c.args.disk.now) (g.D.Disk.view c.journal_next.new.disk) writes.1

pub returns-in-Err-clause-writes : goal.returns-in-Err-clause-writes
returns-in-Err-clause-writes g c = let writes = c.journal_next.ensures.writes in own-journal c.args.s.number writes.0 (g.D.Disk.view c.args.disk.now) (g.D.Disk.view c.journal_next.new.disk) writes.1

pub returns-in-Ok-BeforeImage-clause-writes : goal.returns-in-Ok-BeforeImage-clause-writes
returns-in-Ok-BeforeImage-clause-writes g c = let writes = c.journal_next.ensures.writes in own-journal c.args.s.number writes.0 (g.D.Disk.view c.args.disk.now) (g.D.Disk.view c.journal_next.new.disk) writes.1

pub returns-else-named-clause-writes : goal.returns-else-named-clause-writes
returns-else-named-clause-writes g c = let writes = c.journal_next.ensures.writes in own-journal c.args.s.number writes.0 (g.D.Disk.view c.args.disk.now) (g.D.Disk.view c.journal_next.new.disk) writes.1
