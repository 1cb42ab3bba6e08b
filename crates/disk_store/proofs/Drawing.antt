-- A transaction draws its number.
use Rattle.std.proofs.Common.{◌≡◌, ◌≤◌, ◌<◌, ◌==◌, ◌+◌, ℕ, false, IsTrue, List, [], Some, None, ◌⊎◌, inl, refl, sym, ap, subst, ◌∙◌, arith}
use Rattle.std.specs.Prelude.{slice_get, slice_set, if◌then◌else◌}
use Rattle.std.proofs.lemmas.Option.{none-some}
use Rattle.rdb_outside.specs.Disk.{View, Pending, LeavesOnly, IsPending}
use Rattle.root_file.specs.declared.Root.{Root}
use Rattle.root_file.specs.Root.{IsRoot}
use Rattle.new_database.specs.Maker.{root_file}
use Rattle.line_view.specs.declared.writes.Write.{Write}
use Rattle.line_view.specs.Knowledge.{Lines}
use Rattle.line_store.specs.Seats.{beginning, writing, in_flight, done_at, IsMember}
use Rattle.line_store.specs.Shelves.{Shelf}
use Rattle.line_store.specs.Calls.{IsDone}
use Rattle.line_store.specs.Sights.{seat_or}
use Rattle.ledger_versions.specs.disk_seats.Ledgers.{Standing, resting, changing, begun_by, Ledger}
use Rattle.ledger_versions.specs.disk_seats.Members.{LedgerFacts, MemberStands}
use Rattle.ledger_versions.proofs.of_disk_seats.Begins.{begun_facts}
use Rattle.ledger_versions.proofs.of_disk_seats.Standings.{not_resting}
use Rattle.ledger_versions.specs.disk_versions.Courses.{course_begun}
use Rattle.ledger_versions.specs.Readers.{set_waiting}
use Rattle.ledger_versions.proofs.MembersEnd.{member_begins}
use Rattle.member_memory.specs.Memory.{writes_in}
use Rattle.disk_store.specs.declared.member.Ceiling.{Ceiling}
use Rattle.disk_store.specs.declared.member.Member.{Member}
use Rattle.disk_store.specs.declared.member.MemberStage.TheVariants as stage
use Rattle.disk_store.specs.declared.held.Numbers.{Numbers}
use Rattle.disk_store.specs.Memory.{StoreMemory, with_number, begun_with}
use Rattle.disk_store.specs.Numbers.{kept_in}
use Rattle.disk_store.specs.Seats.{seat_with, stand_of, stand_at}
use Rattle.disk_store.specs.Standing.{HasJournalled, StageStands}
use Rattle.disk_store.specs.Shown.{DoesOn, CeilingStands, Shown}
use Rattle.disk_store.proofs.Moving.{itself}
use Rattle.disk_store.proofs.Beside.{SameHeader, StaysOf, stays-there}
use Rattle.disk_store.proofs.Stepping.{ComesTo, Becomes, does-step, space-same}
use Rattle.disk_store.proofs.Passing.{Passes, tables-pass, slots-pass}

-- with this ceiling in each root that a crash may leave
abbrev pub with_ceiling : ℕ → Numbers → Numbers
with_ceiling ceiling numbers = record numbers { ceiling = ceiling }

abbrev pub held_below : ℕ → StoreMemory → StoreMemory
held_below ceiling held = record held { numbers = with_ceiling ceiling held.numbers }

-- The next number is below the ceiling, and not kept for another.
pub record MayDraw (w : View) (held : StoreMemory) (s ceiling : ℕ) (n : Member) : Type 0 where
  pub stands : CeilingStands w (with_ceiling ceiling held.numbers)
  pub below : held.numbers.next < ceiling
  pub free : held.numbers.next + 1 + kept_in (slice_set held.members s n) ≤ held.numbers.written

-- what a call does, behind which it is drawn
pub record Leads (v w : View) (held : StoreMemory) : Type 0 where
  pub told : w.tells ≡ v.tells
  pub later : v.moment ≤ w.moment
  pub no_fewer : v.faults ≤ w.faults
  pub leaves : IsTrue v.tells → LeavesOnly v w (λ image. IsPending v image ⊎ IsPending w image)
  pub passes : IsTrue v.tells → Passes v w
  -- headers of before-image journals read as they did
  pub headers : IsTrue v.tells → (t : ℕ) → SameHeader t v w
  pub facts : (h : Shelf) (shown : Shown v held h) → LedgerFacts w shown.ledger

module _ (v w : View) (held : StoreMemory) (s ceiling : ℕ) (m : Member) (asked : Ceiling) (was : slice_get held.members s ≡ Some m) (is-member : IsMember s) (begins : m.stage ≡ stage.Beginning asked) (leads : Leads v w held)
    (may : (h : Shelf) → Shown v held h → MayDraw w held s ceiling (begun_with held.numbers.next m)) where
  abbrev n : Member
  n = begun_with held.numbers.next m

  abbrev behind : StoreMemory
  behind = with_number s m (held_below ceiling held)

  still : (ws : List Write) (start : Lines) → in_flight (seat_with m.stage ws start) ≡ None
  still ws start = ap (λ x. in_flight (seat_with x ws start)) begins

  module _ (h : Shelf) (shown : Shown v held h) (stands : StageStands m.stage v shown.ledger s m) where
    abbrev g : Ledger
    g = shown.ledger

    p : Passes v w
    p = leads.passes shown.tells

    draws : MayDraw w held s ceiling n
    draws = may h shown

    facts-there : LedgerFacts w g
    facts-there = leads.facts h shown

    rests : g.standing s ≡ resting
    rests = subst (λ x. StageStands x v g s m) begins stands

    going : g.base.going s ≡ None
    going = subst (λ (x : Standing). MemberStands v g.base s x) rests (shown.facts.member s)

    room : (content : List ℕ) (root : Root) → Pending w root_file 0 content → IsRoot content root → g.base.next_tsn < root.ceiling
    room content root q is = omega (arith, shown.numbers.number, draws.stands.pending content root q is, draws.below)

    facts : LedgerFacts w (begun_by s g)
    facts = begun_facts w g s facts-there (record { first = is-member.first; last = is-member.last }) rests (subst (λ (k : ℕ). 1 ≤ k) (sym shown.numbers.number) shown.numbers.first) room (not_resting w g s facts-there rests)

    stays : (t : ℕ) → (t == s) ≡ false → StaysOf t g (begun_by s g)
    stays t apart = record {
      standing = inl (ap (λ b. if b then changing [] 0 else g.standing t) apart);
      going = ap (λ b. if b then Some (record { tsn = record { number = g.base.next_tsn }; entries = [] }) else g.base.going t) apart;
      commit = refl;
    }

    mine : HasJournalled (begun_by s g) s n
    mine = record {
      begun = record {
        transaction = record { tsn = record { number = g.base.next_tsn }; entries = [] };
        all = [];
        stable = 0;
        stands = ap (λ b. if b then changing [] 0 else g.standing s) (itself s);
        is_open = ap (λ b. if b then Some (record { tsn = record { number = g.base.next_tsn }; entries = [] }) else g.base.going s) (itself s);
        number = λ i. record { number = sym shown.numbers.number i };
        count = refl;
        keys = λ i undo at. absurd (none-some _ at);
      };
      all_written = refl;
    }

    one-more : (next below : ℕ) → next < below → next + 1 ≤ below
    one-more next below less = omega (arith, less)

    ceiling-behind : CeilingStands w behind.numbers
    ceiling-behind = record { pending = draws.stands.pending; written = draws.stands.written; below = one-more held.numbers.next ceiling draws.below; raised = draws.stands.raised }

    abbrev comes : ComesTo v w behind s n g shown.versions.course shown.versions.waiting
    comes = record {
      ledger = begun_by s g;
      facts = facts;
      limits = refl;
      none = λ t apart rests. ap (λ b. if b then changing [] 0 else g.standing t) apart ∙ rests;
      others = λ t x apart got stands. stays-there v w g (begun_by s g) t p.areas (stays t apart) x (leads.headers shown.tells t) stands;
      mine = mine;
      numbered = record { number = ap (λ k. k + 1) shown.numbers.number; first = omega (arith, shown.numbers.first); ceiling = ceiling-behind; group = record { in_slot = shown.numbers.group.in_slot; numbered = shown.numbers.group.numbered } };
      kept = draws.free;
      tabled = tables-pass v w p g (begun_by s g) held.tables refl shown.tables;
      course_behind = course_begun shown.versions.course;
      waiting_behind = set_waiting s [] shown.versions.waiting;
      readers = member_begins w g held.limits.snaps shown.versions.course shown.versions.waiting s facts-there rests going (p.readers g held.limits.snaps shown.versions.course shown.versions.waiting shown.versions.readers);
      slots = slots-pass v w p shown.versions.course.followed held.limits.snaps held.slots shown.versions.slots;
      used = shown.versions.used;
      unused = shown.versions.unused;
      waits = ap (λ b. if b then [] else shown.versions.waiting s) (itself s);
      waits_beside = λ t apart. ap (λ b. if b then [] else shown.versions.waiting t) apart;
      reads = λ t. refl;
    }

  abbrev becomes : Becomes held behind s n
  becomes = record {
    limits = refl;
    members = refl;
    space_of = λ space. space;
    spaced = λ space has. record { limits = has.limits; pages = has.pages; snaps = has.snaps; slots = has.slots };
  }

  stood : stand_at held.members s ≡ beginning
  stood = ap stand_of was ∙ ap (λ st. seat_with st [] []) begins

  pub does-draw : DoesOn s (seat_or (stand_at held.members s) (done_at (stand_at held.members s))) (λ h g. IsDone s h g) v held w behind
  does-draw = subst (λ seat. DoesOn s (seat_or seat (done_at seat)) (λ h g. IsDone s h g) v held w behind) (sym stood)
      (does-step v w held behind s m n was becomes (λ e. cc) leads.told leads.leaves comes leads.later leads.no_fewer (writing []) (λ h g. IsDone s h g) refl
      still (λ h shown stands. record { lines = refl; journal = refl; commit = refl }) space-same
      (λ h g start related moves. record { seat = writing []; comes = ap done_at related.seat ∙ ap (λ x. done_at (seat_with x (writes_in m.written.lines) start)) begins; moves = moves }))
