-- What a session's transaction sees, on each shelf that is shown.
use Rattle.std.proofs.Common.{◌≡◌, ◌==◌, ◌∙◌, ℕ, Bool, true, false, cond, [], Option, Some, None, Result, Ok, Err, IfOk, refl, sym, ap, subst}
use Rattle.std.specs.Prelude.{slice_get}
use Rattle.std.proofs.lemmas.Bool.{eqb-true}
use Rattle.rdb_types.specs.declared.keys.Dbkey.{Dbkey}
use Rattle.rdb_page.specs.Page.{IsOwner}
use Rattle.rdb_outside.specs.Disk.{View, LeftNow}
use Rattle.line_view.specs.Knowledge.{Lines, IsInOrder, line_in, lines_in}
use Rattle.line_view.specs.Writes.{laid_all}
use Rattle.line_versions.specs.Versions.{Start}
use Rattle.line_store.specs.Seats.{IsAtRest, reading}
use Rattle.line_store.specs.Shelves.{Shelf, seen_by, seen_from}
use Rattle.stable_lines.specs.Slots.{IsAreaFile}
use Rattle.line_moves.specs.declared.places.Place.{Place}
use Rattle.line_moves.specs.Changes.{IsPlaceOf}
use Rattle.ledger_versions.specs.disk_seats.Ledgers.{Ledger}
use Rattle.ledger_versions.specs.disk_seats.Members.{LedgerFacts}
use Rattle.member_rooms.proofs.of_member_steps.Standings.{same_lines}
use Rattle.member_memory.specs.Memory.{writes_in}
use Rattle.member_memory.proofs.Laying.{same-lines}
use Rattle.reader_lines.proofs.of_committed_lines.Nowhere.{nowhere}
use Rattle.member_rooms.specs.committed_tables.Tables.{WereUsed}
use Rattle.member_rooms.proofs.of_committed_tables.EverUsed.{used_begin}
use Rattle.reader_lines.specs.seen_lines.Seen as seen
use Rattle.reader_lines.proofs.of_seen_lines.Gathered.{in_area, in_order}
use Rattle.reader_lines.specs.Readers.{IsReader}
use Rattle.reader_lines.proofs.Unseen.{unseen_nowhere}
use Rattle.disk_store.specs.declared.member.Member.{Member}
use Rattle.disk_store.specs.declared.member.MemberStage.{MemberStage}
use Rattle.disk_store.specs.declared.member.MemberStage.TheVariants as stage
use Rattle.disk_store.specs.Memory.{StoreMemory}
use Rattle.disk_store.specs.Seats.{seat_with}
use Rattle.disk_store.specs.Shown.{Sits, SitsAs, pages_of, Shown}

-- what follows of each value holds of the answer
pub ok-as : {T E : Type 0} {P Q : T → Type 0} (r : Result T E) → IfOk r P → ((x : T) → P x → Q x) → IfOk r Q
ok-as (Ok x) holds f = f x holds
ok-as (Err e) holds f = tt

-- who is at rest and doesn't read, writes
pub at-rest : (st : MemberStage) → IsAtRest (seat_with st [] []) → (st ≡ stage.Reading → ⊥) → st ≡ stage.Writing
at-rest stage.Outside is other = absurd is
at-rest (stage.Beginning ceiling) is other = absurd is
at-rest stage.Writing is other = refl
at-rest stage.Changing is other = absurd is
at-rest stage.Broken is other = absurd is
at-rest stage.Prepared is other = absurd is
at-rest (stage.Committing turn) is other = absurd is
at-rest stage.RollingBack is other = absurd is
at-rest stage.Closing is other = absurd is
at-rest stage.Reading is other = absurd (other refl)
at-rest (stage.Dead commits left) is other = absurd is

module _ (v : View) (held : StoreMemory) (s : ℕ) (m : Member) (was : slice_get held.members s ≡ Some m) (h : Shelf) (shown : Shown v held h) where
  sat : SitsAs v shown.ledger s m (h.seat s)
  sat = subst (λ (x : Option Member). Sits v shown.ledger s x (h.seat s)) was (shown.seats s)

  -- ---- a session that writes

  pub sees-written : m.stage ≡ stage.Writing → seen.seen_by m.written shown.ledger.base.lines ≡ seen_by s h
  sees-written at =
      let seat : h.seat s ≡ seat_with stage.Writing (writes_in m.written.lines) sat.start = sat.is ∙ ap (λ (st : MemberStage). seat_with st (writes_in m.written.lines) sat.start) at in
      ap (λ (l : Lines). laid_all (writes_in m.written.lines) l) (sym shown.lines.now) ∙ ap (λ x. seen_from x h.now) (sym seat)

  -- the committed lines were used
  pub committed-used : (file : ℕ) → IsAreaFile file → WereUsed (pages_of held.tables file) file shown.ledger.base.lines
  committed-used file is = used_begin (pages_of held.tables file) file shown.ledger.base.lines (shown.tables.committed file is)

  -- ---- a session that reads

  pub record Began : Type 0 where
    pub start : Lines
    pub sees : start ≡ seen_by s h
    pub reader : IsReader v shown.ledger held.limits.snaps m.reader start
    pub ordered : IsInOrder start
    pub used : (file : ℕ) → IsAreaFile file → WereUsed (pages_of held.tables file) file start

  pub began : m.stage ≡ stage.Reading → Began
  began at =
      let seat : h.seat s ≡ reading sat.start = sat.is ∙ ap (λ (st : MemberStage). seat_with st (writes_in m.written.lines) sat.start) at in
      let it = shown.versions.reading s m sat.start was at seat in
      record {
        start = sat.start;
        sees = ap (λ x. seen_from x h.now) (sym seat);
        reader = record {
          facts = shown.facts;
          course = shown.versions.course;
          versions = shown.versions.readers.versions;
          session = s;
          reading = it.reading;
          goes = it.goes;
          kept = sym it.kept;
          shows = it.lines;
        };
        ordered = it.ordered;
        used = λ file is. shown.versions.used s file it.reading sat.start is it.goes it.lines;
      }

-- ---- a number that no file has an area of

no-lines : (a : ℕ) (all : Lines) → IsInOrder all → ((q : Dbkey) → q.area ≡ a → line_in q all ≡ None) → lines_in a all ≡ []
no-lines a all sorted none = same-lines (lines_in a all) [] (in_order a all sorted) refl (λ q. in_area a q all ∙ by q (q.area == a) refl)
  where
    by : (q : Dbkey) (b : Bool) → (q.area == a) ≡ b → cond b (line_in q all) None ≡ None
    by q true is = none q (eqb-true q.area a is)
    by q false is = refl

pub committed-order : (v : View) (g : Ledger) → LedgerFacts v g → IsInOrder g.base.lines
committed-order v g facts = subst (λ (l : Lines). IsInOrder l) (same_lines v g facts) facts.facts.in_order

module _ (v : View) (left : LeftNow v v.content) (a : ℕ) (none : (file : ℕ) → IsOwner file a → ⊥) where
  no-place : (q : Dbkey) → q.area ≡ a → (place : Place) → IsPlaceOf q place → ⊥
  no-place q is place lies = none place.file (subst (λ (n : ℕ). IsOwner place.file n) is lies.owner)

  pub none-committed : (g : Ledger) → LedgerFacts v g → lines_in a g.base.lines ≡ []
  none-committed g facts = no-lines a g.base.lines (committed-order v g facts) (λ q is. nowhere v left g facts q (no-place q is))

  pub none-at-start : (g : Ledger) (limit : ℕ) (start : Start) (lines : Lines) → IsReader v g limit start lines → IsInOrder lines → lines_in a lines ≡ []
  none-at-start g limit start lines is ordered = no-lines a lines ordered (λ q of. unseen_nowhere v left g limit start lines is q (no-place q of))
