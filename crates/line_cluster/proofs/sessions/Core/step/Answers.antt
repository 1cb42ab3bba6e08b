use Rattle.std.proofs.Common.{◌∙◌, ◌+◌, ◌++◌, ◌&&◌, ◌≡◌, ℕ, Bool, true, List, length, refl, sym, ap, subst, map, is_some, slice_get, slice_set, append-nil, inl, inr}
use Rattle.rdb_types.specs.declared.session.Cause.TheVariants.{Device}
use Rattle.rdb_account.specs.Events.{event_of}
use Rattle.line_store.specs.Sights.{Sight}
use Rattle.session_states.specs.declared.stage.Member.{Member}
use Rattle.session_states.specs.States.{session}
use Rattle.rdb_drive.specs.Boards.{Less}
use Rattle.line_account.specs.stage_steps.declared.happening.Happening.{Happening}
use Rattle.line_account.specs.stage_steps.Happenings.{events_of, handed_back}
use Rattle.line_account.specs.stage_steps.Scenes.{Scene, NearerIn, beside, scene}
use Rattle.lent_members.specs.line_arms.declared.allotment.Allotment.{Allotment}
use Rattle.line_cluster.specs.declared.behind.Behind.{Behind}
use Rattle.line_cluster.specs.Behind.{halt_behind}
use Rattle.line_cluster.specs.Deaths.{device_deaths, failures, faults_in, faults_of}
use Rattle.line_cluster.specs.Measured.{measure_by}
use Rattle.line_cluster.specs.Turned.{Sessions, sessions, rounds_at}
use Rattle.lent_members.specs.Whereabouts.{member_of, phase_at}
use Rattle.line_cluster.proofs.Coming.{went, came-from, came-served, fell}
use Rattle.line_cluster.proofs.Faults.{counts-failed, counts-fewer, failed-death}
use Rattle.line_cluster.proofs.Measured.{set-found}
use Rattle.line_cluster.proofs.Room.{room-before, room-behind, room-still, room-within}
use Rattle.line_cluster.proofs.Nearing.{lives-on, turned-nearer, served-nearer, is-due}
use Rattle.line_cluster.specs.Sound.{AreWhole, IsSound, is_over_slot, is_unsound}
use Rattle.line_cluster.specs.declared.sessions.Turn.{Turn}
use Rattle.line_cluster.specs.declared.sessions.Turn.TheVariants as turn
use Rattle.line_cluster.proofs.Stepping.{among, seated-at, has-work, moving-keeps, noticed-keeps, put-lives, turned}
use Rattle.std.proofs.lemmas.Bool.{false≢true}
use Rattle.session_states.specs.declared.stage.Life.TheVariants.{Dead}
use Rattle.lent_members.specs.Going.{with_life}
use Rattle.line_cluster.proofs.Unbroken.{whole-moved, whole-noticed, whole-fallen, whole-broken}
use Rattle.line_cluster.proofs.sessions.Core.step.Goals as goal

pub go_on_from-turned-requires-clause-seated : goal.go_on_from-turned-requires-clause-seated
go_on_from-turned-requires-clause-seated g c = seated-at (g.L.LineStore.sight c.args.self.now.common.store).stand c.args.self.now.common.tree c.args.self.now.members.items c.args.s.number c.args.at (member_of c.in-Some.present) c.requires.one.first c.requires.at c.in-Some.ensures.taken (c.requires.alive (member_of c.in-Some.present) c.in-Some.ensures.taken) (c.requires.sound.seated c.requires.going)

pub go_on_from-turned-requires-clause-among : goal.go_on_from-turned-requires-clause-among
go_on_from-turned-requires-clause-among g c = among (scene c.args.self.now.common.word (g.L.LineStore.sight c.args.self.now.common.store) c.args.self.now.common.tree) c.args.self.now.members.items c.args.s.number (c.requires.sound.seated c.requires.going)

pub go_on_from-turned-requires-clause-going : goal.go_on_from-turned-requires-clause-going
go_on_from-turned-requires-clause-going g c = c.requires.work (member_of c.in-Some.present) c.in-Some.ensures.taken

pub returns-in-Nothing-clause-sound : goal.returns-in-Nothing-clause-sound
returns-in-Nothing-clause-sound g c =
    turned g.S.Statements.stands g.met.S.Statements.orderly g.O.Origin.told g.O.Origin.opening g.O.Origin.faults _ _ (g.L.LineStore.stands c.go_on_from-turned.new.common.store) _ _ _ _ c.args.s.number c.args.at (member_of c.in-Some.present) _ _ _ _ _ c.requires.one.first c.requires.at c.requires.going c.requires.lives c.in-Some.ensures.taken
    (c.requires.alive (member_of c.in-Some.present) c.in-Some.ensures.taken) c.requires.sound c.go_on_from-turned.ensures.goes c.go_on_from-turned.ensures.some (λ none. moving-keeps _ (c.behind_of-then.ensures.nothing c.in-Nothing.is)) (ap faults_in c.requires.going) (ap is_unsound c.requires.going ∙ (ap (λ (b : Behind). is_unsound (halt_behind b)) (sym c.in-Nothing.is) ∙ c.behind_of-then.ensures.unsound)) (ap is_over_slot c.requires.going ∙ (ap (λ (b : Behind). is_over_slot (halt_behind b)) (sym c.in-Nothing.is) ∙ c.behind_of-then.ensures.slot)) c.go_on_from-turned.ensures.backed (c.put_member.ensures ∙ c.take_present.ensures.rest _) c.record.ensures.events

pub returns-in-Stop-clause-sound : goal.returns-in-Stop-clause-sound
returns-in-Stop-clause-sound g c =
    turned g.S.Statements.stands g.met.S.Statements.orderly g.O.Origin.told g.O.Origin.opening g.O.Origin.faults _ _ (g.L.LineStore.stands c.go_on_from-turned.new.common.store) _ _ _ _ c.args.s.number c.args.at (member_of c.in-Some.present) _ _ _ _ _ c.requires.one.first c.requires.at c.requires.going c.requires.lives c.in-Some.ensures.taken
    (c.requires.alive (member_of c.in-Some.present) c.in-Some.ensures.taken) c.requires.sound c.go_on_from-turned.ensures.goes c.go_on_from-turned.ensures.some (λ none. cc none) (ap (λ (b : Behind). faults_in (halt_behind b)) (sym c.in-Stop.is) ∙ c.behind_of-then.ensures.stop) (ap (λ (b : Behind). is_unsound (halt_behind b)) (sym c.in-Stop.is) ∙ c.behind_of-then.ensures.unsound) (ap (λ (b : Behind). is_over_slot (halt_behind b)) (sym c.in-Stop.is) ∙ c.behind_of-then.ensures.slot) c.go_on_from-turned.ensures.backed (c.put_member.ensures ∙ c.take_present.ensures.rest _) c.record.ensures.events

pub serve_notice-requires-clause-sound : goal.serve_notice-requires-clause-sound
serve_notice-requires-clause-sound g c =
    turned g.S.Statements.stands g.met.S.Statements.orderly g.O.Origin.told g.O.Origin.opening g.O.Origin.faults _ _ (g.L.LineStore.stands c.go_on_from-turned.new.common.store) _ _ _ _ c.args.s.number c.args.at (member_of c.in-Some.present) _ _ _ _ _ c.requires.one.first c.requires.at c.requires.going c.requires.lives c.in-Some.ensures.taken
    (c.requires.alive (member_of c.in-Some.present) c.in-Some.ensures.taken) c.requires.sound c.go_on_from-turned.ensures.goes c.go_on_from-turned.ensures.some (λ none. noticed-keeps _ _ (c.behind_of-then.ensures.serve c.in-Serve.notice c.in-Serve.is)) (ap faults_in c.requires.going) (ap is_unsound c.requires.going ∙ (ap (λ (b : Behind). is_unsound (halt_behind b)) (sym c.in-Serve.is) ∙ c.behind_of-then.ensures.unsound)) (ap is_over_slot c.requires.going ∙ (ap (λ (b : Behind). is_over_slot (halt_behind b)) (sym c.in-Serve.is) ∙ c.behind_of-then.ensures.slot)) c.go_on_from-turned.ensures.backed (c.put_member.ensures ∙ c.take_present.ensures.rest _) c.record.ensures.events

pub serve_notice-requires-clause-lives : goal.serve_notice-requires-clause-lives
serve_notice-requires-clause-lives g c = lives-on _ _ c.args.at (member_of c.in-Some.present) _ _ c.in-Some.ensures.taken (c.put_member.ensures ∙ c.take_present.ensures.rest _) c.requires.lives

pub returns-in-Nothing-clause-came : goal.returns-in-Nothing-clause-came
returns-in-Nothing-clause-came g c =
    went (g.O.Origin.opening).stops c.args.s.number c.args.at _ _ (member_of c.in-Some.present) _ c.go_on_from-turned.result.happened c.requires.at c.in-Some.ensures.taken (has-work ((g.O.Origin.opening).stops c.args.s.number) (member_of c.in-Some.present) (c.requires.alive (member_of c.in-Some.present) c.in-Some.ensures.taken) (c.requires.work (member_of c.in-Some.present) c.in-Some.ensures.taken)) refl
    (c.put_member.ensures ∙ c.take_present.ensures.rest _) c.record.ensures.events

pub returns-in-Stop-clause-came : goal.returns-in-Stop-clause-came
returns-in-Stop-clause-came g c = (
  refl,
  went (g.O.Origin.opening).stops c.args.s.number c.args.at _ _ (member_of c.in-Some.present) _ c.go_on_from-turned.result.happened c.requires.at c.in-Some.ensures.taken (has-work ((g.O.Origin.opening).stops c.args.s.number) (member_of c.in-Some.present) (c.requires.alive (member_of c.in-Some.present) c.in-Some.ensures.taken) (c.requires.work (member_of c.in-Some.present) c.in-Some.ensures.taken)) refl
      (c.put_member.ensures ∙ c.take_present.ensures.rest _) c.record.ensures.events,
)

pub serve_notice-requires-clause-due : goal.serve_notice-requires-clause-due
serve_notice-requires-clause-due g c =
    let sight = g.L.LineStore.sight in
    let was : Scene = scene c.args.self.now.common.word (sight c.args.self.now.common.store) c.args.self.now.common.tree in
    let is : Scene = scene c.go_on_from-turned.new.common.word (sight c.go_on_from-turned.new.common.store) c.go_on_from-turned.new.common.tree in
    is-due g.S.Statements.stands c.args.s.number c.args.at was is c.args.self.now.members.items c.put_member.new.members.items c.args.self.now.allotments c.put.new.self (member_of c.in-Some.present) c.go_on_from-turned.new.left c.go_on_from-turned.result.phase c.go_on_from-turned.result.happened c.take-allotment.result c.go_on_from-turned.new.allotment c.args.self.now.halt
    c.requires.one.first c.requires.at c.requires.going (c.requires.alive (member_of c.in-Some.present) c.in-Some.ensures.taken) c.in-Some.ensures.taken c.take-allotment.ensures.taken c.go_on_from-turned.ensures.rounds
    (c.go_on_from-turned.ensures.goes (noticed-keeps _ _ (c.behind_of-then.ensures.serve c.in-Serve.notice c.in-Serve.is))) (c.put_member.ensures ∙ c.take_present.ensures.rest _) (c.put.ensures ∙ c.take-allotment.ensures.rest _)
    c.in-Serve.notice (c.behind_of-then.ensures.serve c.in-Serve.notice c.in-Serve.is)

pub returns-in-Nothing-clause-nearer : goal.returns-in-Nothing-clause-nearer
returns-in-Nothing-clause-nearer g c = λ moved.
    let sight = g.L.LineStore.sight in
    let was : Scene = scene c.args.self.now.common.word (sight c.args.self.now.common.store) c.args.self.now.common.tree in
    let is : Scene = scene c.go_on_from-turned.new.common.word (sight c.go_on_from-turned.new.common.store) c.go_on_from-turned.new.common.tree in
    turned-nearer g.S.Statements.stands c.args.s.number c.args.at was is c.args.self.now.members.items c.put_member.new.members.items c.args.self.now.allotments c.put.new.self (member_of c.in-Some.present) c.go_on_from-turned.new.left c.go_on_from-turned.result.phase c.go_on_from-turned.result.happened c.take-allotment.result c.go_on_from-turned.new.allotment c.args.self.now.halt
    c.requires.one.first c.requires.at c.requires.going (c.requires.alive (member_of c.in-Some.present) c.in-Some.ensures.taken) c.in-Some.ensures.taken c.take-allotment.ensures.taken c.go_on_from-turned.ensures.rounds
    (c.go_on_from-turned.ensures.goes (moving-keeps _ (c.behind_of-then.ensures.nothing c.in-Nothing.is))) (c.put_member.ensures ∙ c.take_present.ensures.rest _) (c.put.ensures ∙ c.take-allotment.ensures.rest _)
    c.args.self.now.halt c.requires.going (c.behind_of-then.ensures.nothing c.in-Nothing.is) (c.requires.awake (member_of c.in-Some.present) c.in-Some.ensures.taken)

pub returns-in-Serve-clause-came : goal.returns-in-Serve-clause-came
returns-in-Serve-clause-came g c =
    let old : Sessions = sessions c.args.self.now.members.items c.args.self.now.events.items c.args.self.now.allotments (g.L.LineStore.sight c.args.self.now.common.store) c.args.self.now.common.tree c.args.self.now.halt in
    let mid : Sessions = sessions c.put_member.new.members.items c.record.new.events.items c.put.new.self (g.L.LineStore.sight c.go_on_from-turned.new.common.store) c.go_on_from-turned.new.common.tree c.args.self.now.halt in
    let m : Member = member_of c.in-Some.present in
    let alive = c.requires.alive m c.in-Some.ensures.taken in
    let put = c.put_member.ensures ∙ c.take_present.ensures.rest _ in
    came-served (g.O.Origin.opening).stops c.args.s.number c.args.at old mid _ m _ c.go_on_from-turned.result.happened c.in-Serve.notice c.serve_notice.result c.serve_notice.ensures.done (c.behind_of-then.ensures.serve c.in-Serve.notice c.in-Serve.is) c.requires.at c.in-Some.ensures.taken
    (has-work ((g.O.Origin.opening).stops c.args.s.number) m alive (c.requires.work m c.in-Some.ensures.taken)) refl put c.record.ensures.events c.serve_notice.ensures.members c.serve_notice.ensures.events
    (λ fallen. c.serve_notice.ensures.died fallen _ (ap (λ (ms : List Member). slice_get ms c.args.at) put ∙ set-found c.args.at c.args.self.now.members.items m _ c.in-Some.ensures.taken)) c.serve_notice.ensures.death

pub returns-in-Serve-clause-nearer : goal.returns-in-Serve-clause-nearer
returns-in-Serve-clause-nearer g c = λ moved.
    let sight = g.L.LineStore.sight in
    let was : Scene = scene c.args.self.now.common.word (sight c.args.self.now.common.store) c.args.self.now.common.tree in
    let is : Scene = scene c.go_on_from-turned.new.common.word (sight c.go_on_from-turned.new.common.store) c.go_on_from-turned.new.common.tree in
    let served = c.serve_notice.ensures.falls moved in
    let before : List ℕ = measure_by (is_some c.args.self.now.halt) c.args.self.now.members.items (rounds_at c.args.self.now.allotments) (beside was) in
    let halt = c.serve_notice.new.self.halt in
    let tree = c.serve_notice.new.self.common.tree in
    let then : Sight = sight c.serve_notice.new.self.common.store in
    subst (λ (xs : List Member). Less (measure_by (is_some halt) xs (rounds_at c.serve_notice.new.self.allotments) (record { locks = tree; steps = then.steps })) before) (sym (c.serve_notice.ensures.members moved))
    (subst (λ (xs : List Allotment). Less (measure_by (is_some halt) c.put_member.new.members.items (rounds_at xs) (record { locks = tree; steps = then.steps })) before) (sym (c.serve_notice.ensures.allotments moved))
    (subst (λ (v : Sight). Less (measure_by (is_some halt) c.put_member.new.members.items (rounds_at c.put.new.self) (record { locks = tree; steps = v.steps })) before) (sym (ap sight (c.serve_notice.ensures.store moved)))
    (served-nearer g.S.Statements.stands c.args.s.number c.args.at was is c.args.self.now.members.items c.put_member.new.members.items c.args.self.now.allotments c.put.new.self (member_of c.in-Some.present) c.go_on_from-turned.new.left c.go_on_from-turned.result.phase c.go_on_from-turned.result.happened c.take-allotment.result c.go_on_from-turned.new.allotment c.args.self.now.halt
    c.requires.one.first c.requires.at c.requires.going (c.requires.alive (member_of c.in-Some.present) c.in-Some.ensures.taken) c.in-Some.ensures.taken c.take-allotment.ensures.taken c.go_on_from-turned.ensures.rounds
    (c.go_on_from-turned.ensures.goes (noticed-keeps _ _ (c.behind_of-then.ensures.serve c.in-Serve.notice c.in-Serve.is))) (c.put_member.ensures ∙ c.take_present.ensures.rest _) (c.put.ensures ∙ c.take-allotment.ensures.rest _)
    halt tree c.in-Serve.notice served.0 (c.behind_of-then.ensures.serve c.in-Serve.notice c.in-Serve.is) (c.serve_notice.ensures.parties moved) c.serve_notice.ensures.writer served.1)))

pub fall-requires-clause-sound : goal.fall-requires-clause-sound
fall-requires-clause-sound g c =
    let failed = c.behind_of-then.ensures.die c.in-Die.is in
    turned g.S.Statements.stands g.met.S.Statements.orderly g.O.Origin.told g.O.Origin.opening g.O.Origin.faults _ _ (g.L.LineStore.stands c.go_on_from-turned.new.common.store) _ _ _ _ c.args.s.number c.args.at (member_of c.in-Some.present) _ _ _ _ _ c.requires.one.first c.requires.at c.requires.going c.requires.lives c.in-Some.ensures.taken
    (c.requires.alive (member_of c.in-Some.present) c.in-Some.ensures.taken) c.requires.sound c.go_on_from-turned.ensures.goes c.go_on_from-turned.ensures.some (λ none. ap handed_back failed) (ap faults_in c.requires.going) (ap is_unsound c.requires.going ∙ (ap (λ (b : Behind). is_unsound (halt_behind b)) (sym c.in-Die.is) ∙ c.behind_of-then.ensures.unsound)) (ap is_over_slot c.requires.going ∙ (ap (λ (b : Behind). is_over_slot (halt_behind b)) (sym c.in-Die.is) ∙ c.behind_of-then.ensures.slot)) c.go_on_from-turned.ensures.backed (c.put_member.ensures ∙ c.take_present.ensures.rest _)
    (sym (append-nil (map event_of c.args.self.now.events.items)) ∙ ap (λ (h : Happening). map event_of c.args.self.now.events.items ++ events_of c.args.s.number h) (sym failed))

pub fall-requires-clause-caused : goal.fall-requires-clause-caused
fall-requires-clause-caused g c = λ told.
    let sight = g.L.LineStore.sight in
    let was : Scene = scene c.args.self.now.common.word (sight c.args.self.now.common.store) c.args.self.now.common.tree in
    let is : Scene = scene c.go_on_from-turned.new.common.word (sight c.go_on_from-turned.new.common.store) c.go_on_from-turned.new.common.tree in
    let failed = c.behind_of-then.ensures.die c.in-Die.is in
    let m = session c.in-Some.present.left c.in-Some.present.total (phase_at c.in-Some.present.presence) in
    let n = session c.go_on_from-turned.new.left c.in-Some.present.total c.go_on_from-turned.result.phase in
    let events = map event_of c.args.self.now.events.items in
    counts-fewer g.O.Origin.faults (device_deaths events + faults_of Device) (failures events c.args.self.now.halt + 1) (sight c.go_on_from-turned.new.common.store) (failed-death events c.args.self.now.halt)
    (counts-failed g.O.Origin.faults c.args.s.number (sight c.args.self.now.common.store) (sight c.go_on_from-turned.new.common.store) (failures events c.args.self.now.halt)
    (subst (λ (h : Happening). NearerIn g.S.Statements.stands c.args.s.number h was is m n) failed ((c.go_on_from-turned.ensures.goes (ap handed_back failed)).nearer c.in-Some.present.total)) (c.requires.sound.causes told))

pub fall-requires-clause-lives : goal.fall-requires-clause-lives
fall-requires-clause-lives g c =
    put-lives c.args.self.now.members.items c.put_member.new.members.items c.args.at (member_of c.in-Some.present) _ c.in-Some.ensures.taken (c.put_member.ensures ∙ c.take_present.ensures.rest _)
    (c.requires.alive (member_of c.in-Some.present) c.in-Some.ensures.taken)

pub fall-requires-clause-mortal : goal.fall-requires-clause-mortal
fall-requires-clause-mortal g c = λ m found. (c.requires.mortal c.args.s.number).0

pub returns-in-Die-clause-came : goal.returns-in-Die-clause-came
returns-in-Die-clause-came g c =
    let put = c.put_member.ensures ∙ c.take_present.ensures.rest _ in
    fell (g.O.Origin.opening).stops c.args.s.number c.args.at Device _ _ c.put_member.new.members.items (member_of c.in-Some.present) _ refl c.requires.at c.in-Some.ensures.taken (has-work ((g.O.Origin.opening).stops c.args.s.number) (member_of c.in-Some.present) (c.requires.alive (member_of c.in-Some.present) c.in-Some.ensures.taken) (c.requires.work (member_of c.in-Some.present) c.in-Some.ensures.taken)) put
    (c.fall.ensures.died _ (ap (λ (ms : List Member). slice_get ms c.args.at) put ∙ set-found c.args.at c.args.self.now.members.items (member_of c.in-Some.present) _ c.in-Some.ensures.taken)) c.fall.ensures.events

-- room is kept

pub returns-in-Nothing-clause-kept : goal.returns-in-Nothing-clause-kept
returns-in-Nothing-clause-kept g c = room-still _ _ (room-behind c.args.self.now.members.items c.put_member.new.members.items c.args.at _ _ _ _ _ c.requires.one.few (c.put_member.ensures ∙ c.take_present.ensures.rest _) c.record.ensures.len c.record.ensures.capacity c.requires.room)

pub returns-in-Stop-clause-kept : goal.returns-in-Stop-clause-kept
returns-in-Stop-clause-kept g c = room-still _ _ (room-behind c.args.self.now.members.items c.put_member.new.members.items c.args.at _ _ _ _ _ c.requires.one.few (c.put_member.ensures ∙ c.take_present.ensures.rest _) c.record.ensures.len c.record.ensures.capacity c.requires.room)

pub serve_notice-requires-clause-room : goal.serve_notice-requires-clause-room
serve_notice-requires-clause-room g c = room-behind c.args.self.now.members.items c.put_member.new.members.items c.args.at _ _ _ _ _ c.requires.one.few (c.put_member.ensures ∙ c.take_present.ensures.rest _) c.record.ensures.len c.record.ensures.capacity c.requires.room

pub serve_notice-requires-clause-alive : goal.serve_notice-requires-clause-alive
serve_notice-requires-clause-alive g c =
    put-lives c.args.self.now.members.items c.put_member.new.members.items c.args.at (member_of c.in-Some.present) _ c.in-Some.ensures.taken (c.put_member.ensures ∙ c.take_present.ensures.rest _)
    (c.requires.alive (member_of c.in-Some.present) c.in-Some.ensures.taken)

pub fall-requires-clause-kept : goal.fall-requires-clause-kept
fall-requires-clause-kept g c =
    room-within c.args.self.now.members.items c.put_member.new.members.items c.args.at _ _ _ c.requires.one.few (c.put_member.ensures ∙ c.take_present.ensures.rest _) c.requires.room

-- its job is out, and nothing changed

pub stop-requires-clause-sound : goal.stop-requires-clause-sound
stop-requires-clause-sound g c =
    subst (λ (ms : List Member). IsSound g.S.Statements.stands g.O.Origin.told g.O.Origin.opening g.O.Origin.faults (scene c.args.self.now.common.word (g.L.LineStore.sight c.args.self.now.common.store) c.args.self.now.common.tree) ms (map event_of c.args.self.now.events.items) c.args.self.now.halt)
    (sym (c.take_present.ensures.same c.in-None.is)) c.requires.sound

pub returns-in-None-clause-count : goal.returns-in-None-clause-count
returns-in-None-clause-count g c = ap length (c.stop.ensures.members ∙ c.take_present.ensures.same c.in-None.is)

pub returns-in-None-clause-came : goal.returns-in-None-clause-came
returns-in-None-clause-came g c =
    came-from (g.O.Origin.opening).stops c.args.s.number _ _ _ c.stop.result (c.take_present.ensures.same c.in-None.is) refl c.stop.ensures.on (c.stop.ensures.came c.args.s.number)

pub returns-in-None-clause-kept : goal.returns-in-None-clause-kept
returns-in-None-clause-kept g c =
    rw c.stop.ensures.events (rw (c.stop.ensures.members ∙ c.take_present.ensures.same c.in-None.is) (room-before c.args.self.now.members.items _ _ c.requires.one.few c.requires.room))

stopped-moves : turn.Stopped ≡ turn.Moved → ⊥
stopped-moves e = cc e

pub returns-in-None-clause-nearer : goal.returns-in-None-clause-nearer
returns-in-None-clause-nearer g c = λ moved. absurd (stopped-moves (sym c.stop.ensures.stopped ∙ moved))

-- none that lives is broken

pub go_on_from-turned-requires-clause-whole : goal.go_on_from-turned-requires-clause-whole
go_on_from-turned-requires-clause-whole g c = c.requires.unbroken c.args.at (member_of c.in-Some.present) c.in-Some.ensures.taken (c.requires.alive (member_of c.in-Some.present) c.in-Some.ensures.taken)

pub returns-in-Nothing-clause-unbroken : goal.returns-in-Nothing-clause-unbroken
returns-in-Nothing-clause-unbroken g c = λ none.
    whole-moved g.S.Statements.stands c.args.s.number c.args.at (scene c.args.self.now.common.word (g.L.LineStore.sight c.args.self.now.common.store) c.args.self.now.common.tree) (scene c.go_on_from-turned.new.common.word (g.L.LineStore.sight c.go_on_from-turned.new.common.store) c.go_on_from-turned.new.common.tree) c.args.self.now.members.items c.put_member.new.members.items (member_of c.in-Some.present) c.go_on_from-turned.new.left c.go_on_from-turned.result.phase c.go_on_from-turned.result.happened
    c.in-Some.ensures.taken (c.requires.alive (member_of c.in-Some.present) c.in-Some.ensures.taken) c.go_on_from-turned.ensures.one (c.go_on_from-turned.ensures.goes (moving-keeps _ (c.behind_of-then.ensures.nothing c.in-Nothing.is))) (c.put_member.ensures ∙ c.take_present.ensures.rest _) c.requires.unbroken (c.behind_of-then.ensures.nothing c.in-Nothing.is)

pub returns-in-Serve-clause-unbroken : goal.returns-in-Serve-clause-unbroken
returns-in-Serve-clause-unbroken g c = λ none.
    let n : Member = (record { left = c.go_on_from-turned.new.left; total = c.in-Some.present.total; phase = c.go_on_from-turned.result.phase; life = c.in-Some.present.life }) in
    let mid : AreWhole c.put_member.new.members.items =
    whole-noticed g.S.Statements.stands c.args.s.number c.args.at (scene c.args.self.now.common.word (g.L.LineStore.sight c.args.self.now.common.store) c.args.self.now.common.tree) (scene c.go_on_from-turned.new.common.word (g.L.LineStore.sight c.go_on_from-turned.new.common.store) c.go_on_from-turned.new.common.tree) c.args.self.now.members.items c.put_member.new.members.items (member_of c.in-Some.present) c.go_on_from-turned.new.left c.go_on_from-turned.result.phase c.go_on_from-turned.result.happened
    c.in-Some.ensures.taken (c.requires.alive (member_of c.in-Some.present) c.in-Some.ensures.taken) c.go_on_from-turned.ensures.one (c.go_on_from-turned.ensures.goes (noticed-keeps _ _ (c.behind_of-then.ensures.serve c.in-Serve.notice c.in-Serve.is))) (c.put_member.ensures ∙ c.take_present.ensures.rest _) c.requires.unbroken c.in-Serve.notice (c.behind_of-then.ensures.serve c.in-Serve.notice c.in-Serve.is) in
    elim c.serve_notice.ensures.done [
      | inl moved ↦ subst AreWhole (sym (c.serve_notice.ensures.members moved)) mid
      | inr died ↦ whole-fallen c.put_member.new.members.items _ c.args.at n (c.serve_notice.ensures.died died n (ap (λ (ms : List Member). slice_get ms c.args.at) (c.put_member.ensures ∙ c.take_present.ensures.rest _) ∙ set-found c.args.at c.args.self.now.members.items (member_of c.in-Some.present) (record { left = c.go_on_from-turned.new.left; total = c.in-Some.present.total; phase = c.go_on_from-turned.result.phase; life = c.in-Some.present.life }) c.in-Some.ensures.taken)) mid
    ]

pub returns-in-Die-clause-unbroken : goal.returns-in-Die-clause-unbroken
returns-in-Die-clause-unbroken g c = λ none.
    let n : Member = (record { left = c.go_on_from-turned.new.left; total = c.in-Some.present.total; phase = c.go_on_from-turned.result.phase; life = c.in-Some.present.life }) in
    whole-broken c.args.self.now.members.items _ c.args.at n
    (c.fall.ensures.died n (ap (λ (ms : List Member). slice_get ms c.args.at) (c.put_member.ensures ∙ c.take_present.ensures.rest _) ∙ set-found c.args.at c.args.self.now.members.items (member_of c.in-Some.present) (record { left = c.go_on_from-turned.new.left; total = c.in-Some.present.total; phase = c.go_on_from-turned.result.phase; life = c.in-Some.present.life }) c.in-Some.ensures.taken) ∙ ap (λ (ms : List Member). slice_set ms c.args.at (with_life Dead n)) (c.put_member.ensures ∙ c.take_present.ensures.rest _)) c.requires.unbroken

pub returns-in-None-clause-unbroken : goal.returns-in-None-clause-unbroken
returns-in-None-clause-unbroken g c = λ none. absurd (false≢true (sym (ap is_some none) ∙ c.stop.ensures.halted))
