-- What the standing of a member says of its transaction.
use Rattle.std.proofs.Common.{◌≡◌, ◌≢◌, ℕ, List, [], Option, Some, None, slice_get, ⊎_elim, ap, sym, subst, ◌∙◌, refl}
use Rattle.rdb_types.specs.declared.keys.Dbkey.{Dbkey}
use Rattle.rdb_types.specs.declared.keys.Tsn.{Tsn}
use Rattle.rdb_outside.specs.Disk.{View, LeftNow, Pending}
use Rattle.stable_lines.specs.Slots.{Undo, file_of, slot_of, line_at}
use Rattle.stable_lines.specs.Progress.{Open, Flight, Progress}
use Rattle.stable_lines.specs.Facts.{IsChanged}
use Rattle.stable_lines.proofs.Turns.{some_same}
use Rattle.line_moves.proofs.Runs.{pends}
use Rattle.disk_seats.specs.line_seat.declared.commit.CommitStage.{CommitStage}
use Rattle.disk_seats.specs.line_seat.declared.commit.CommitStage.TheVariants.{Changing, Imaging, Gathering, Sealing, Landing, Committed}
use Rattle.disk_seats.specs.line_seat.Stages.{progress_at}
use Rattle.disk_seats.specs.Ledgers.{Standing, resting, changing, broken, committing, undoing, entries_of, Commit, Ledger, progress_with, progress_of}
use Rattle.disk_seats.specs.Members.{MemberStands, LedgerFacts}
use Rattle.ledger_versions.specs.Readers.{HasBefore}

-- ---- who is open

-- with or without a group that flies the same are open
at_stage : (stage : CommitStage) (base : Progress) (f : Flight) → stage ≢ Committed → (m : ℕ) → (progress_at stage base f).going m ≡ base.going m
at_stage (Changing at) base f off m = refl
at_stage (Imaging at) base f off m = refl
at_stage Gathering base f off m = refl
at_stage Sealing base f off m = refl
at_stage Landing base f off m = refl
at_stage Committed base f off m = absurd (off refl)

with_commit : (commit : Option Commit) (base : Progress) → ((c : Commit) → commit ≡ Some c → c.stage ≢ Committed) → (m : ℕ) → (progress_with commit base).going m ≡ base.going m
with_commit None base off m = refl
with_commit (Some c) base off m = at_stage c.stage base c.flight (off c refl) m

pub same_going : (v : View) (g : Ledger) → LedgerFacts v g → (m : ℕ) → (progress_of g).going m ≡ g.base.going m
same_going v g was m = with_commit g.commit g.base (λ c is. (was.commit c is).under_way) m

pub is_open_there : (v : View) (g : Ledger) → LedgerFacts v g → (m : ℕ) (o : Open) → g.base.going m ≡ Some o → (progress_of g).going m ≡ Some o
is_open_there v g was m o is = same_going v g was m ∙ is

-- no two have one number
pub one_number : (v : View) (g : Ledger) → LedgerFacts v g → (m n : ℕ) (o p : Open) → g.base.going m ≡ Some o → g.base.going n ≡ Some p → p.tsn.number ≡ o.tsn.number → n ≡ m
one_number v g was m n o p is too same = (was.facts.going m o (is_open_there v g was m o is)).alone n p (is_open_there v g was n p too) same

-- ---- what it has written

-- the before-images that stand are those of the standing
of_standing : (v : View) (base : Progress) (m : ℕ) (standing : Standing) (p : Open) → MemberStands v base m standing → base.going m ≡ Some p → (i : ℕ) (undo : Undo) → slice_get p.entries i ≡ Some undo → slice_get (entries_of standing) i ≡ Some undo
of_standing v base m resting p stands is i undo got = let bad : None ≡ Some p = sym stands ∙ is in cc
of_standing v base m (changing all stable) p stands is i undo got =
    let same : stands.transaction ≡ p = some_same stands.transaction p (sym stands.seat.is_open ∙ is) in
    let none : p.entries ≡ [] = subst (λ (q : Open). q.entries ≡ []) same stands.seat.none_stands in
    let bad : slice_get [] i ≡ Some undo = subst (λ (es : List Undo). slice_get es i ≡ Some undo) none got in cc
of_standing v base m broken p stands is i undo got =
    let same : stands.transaction ≡ p = some_same stands.transaction p (sym stands.is_open ∙ is) in
    subst (λ (es : List Undo). slice_get es i ≡ Some undo) (subst (λ (q : Open). q.entries ≡ []) same stands.entries) got
of_standing v base m (committing all) p stands is i undo got =
    let same : stands.transaction ≡ p = some_same stands.transaction p (sym stands.is_open ∙ is) in
    subst (λ (es : List Undo). slice_get es i ≡ Some undo) (subst (λ (q : Open). q.entries ≡ all) same stands.entries) got
of_standing v base m (undoing all left) p stands is i undo got =
    let same : stands.transaction ≡ p = some_same stands.transaction p (sym stands.is_open ∙ is) in
    subst (λ (es : List Undo). slice_get es i ≡ Some undo) (subst (λ (q : Open). q.entries ≡ all) same stands.entries) got

pub its_entries : (v : View) (g : Ledger) → LedgerFacts v g → (m : ℕ) (p : Open) → g.base.going m ≡ Some p → (i : ℕ) (undo : Undo) → slice_get p.entries i ≡ Some undo → slice_get (entries_of (g.standing m)) i ≡ Some undo
its_entries v g was m p is i undo got = of_standing v g.base m (g.standing m) p (was.member m) is i undo got

-- a line that bears a transaction has a before-image of its member
pub its_line : (v : View) (g : Ledger) → LedgerFacts v g → LeftNow v v.content → (m : ℕ) (o : Open) → g.base.going m ≡ Some o → (key : Dbkey) → (line_at v.content key).tsn.number ≡ o.tsn.number → HasBefore (entries_of (g.standing m)) key
its_line v g was left m o is key bears = ⊎_elim (λ c. absurd (c.not_open m o (is_open_there v g was m o is) bears)) by
    (was.facts.line key (v.content (file_of key) (slot_of key)) (pends v left (file_of key) (slot_of key)))
  where
    by : IsChanged (Pending v) (progress_of g) key (line_at v.content key) → HasBefore (entries_of (g.standing m)) key
    by c =
        let at : c.member ≡ m = (was.facts.going m o (is_open_there v g was m o is)).alone c.member c.transaction c.is_open (ap (λ (t : Tsn). t.number) (sym c.tsn) ∙ bears) in
        let same : c.transaction ≡ o = some_same c.transaction o (sym c.is_open ∙ ap (λ (k : ℕ). (progress_of g).going k) at ∙ is_open_there v g was m o is) in
        record {
          index = c.index;
          undo = record { key = key; before = c.before };
          is = its_entries v g was m o is c.index (record { key = key; before = c.before }) (subst (λ (p : Open). slice_get p.entries c.index ≡ Some (record { key = key; before = c.before })) same c.entry);
          key_is = refl;
        }

-- a line of which another has a before-image doesn't bear the transaction
pub not_its_line : (v : View) (g : Ledger) → LedgerFacts v g → LeftNow v v.content → (m n : ℕ) (o : Open) → g.base.going m ≡ Some o → n ≢ m → (key : Dbkey) → HasBefore (entries_of (g.standing n)) key → (line_at v.content key).tsn.number ≢ o.tsn.number
not_its_line v g was left m n o is apart key theirs bears =
    let mine = its_line v g was left m o is key bears in
    was.apart n m theirs.index mine.index theirs.undo mine.undo apart theirs.is mine.is (theirs.key_is ∙ sym mine.key_is)
