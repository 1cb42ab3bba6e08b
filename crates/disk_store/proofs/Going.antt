-- Which transactions go on, by what memory has of the members.
use Rattle.std.proofs.Common.{◌≡◌, ◌==◌, ◌||◌, ℕ, zero, suc, Bool, true, false, cond, List, [], ◌∷◌, map, Option, Some, None, refl, sym, ap, subst, ◌∙◌}
use Rattle.std.specs.Prelude.{slice_get}
use Rattle.std.specs.List.{filter, list_any}
use Rattle.std.proofs.lemmas.Bool.{true≢false, eqb-true, eq-eqb}
use Rattle.std.proofs.lemmas.Option.{same_Some, none-some}
use Rattle.rdb_outside.specs.Disk.{View}
use Rattle.line_store.specs.Shelves.{Shelf}
use Rattle.line_versions.specs.Course.{Course, AreActive}
use Rattle.stable_lines.specs.Progress.{Open}
use Rattle.ledger_versions.specs.disk_seats.Ledgers.{Standing, resting, Ledger}
use Rattle.ledger_versions.specs.disk_seats.Members.{MemberStands}
use Rattle.ledger_versions.specs.disk_versions.Versions.{IsOpenNumber}
use Rattle.member_rooms.specs.member_steps.declared.committing.CommitTurn.TheVariants.{Entering, Securing, Going}
use Rattle.disk_store.specs.declared.member.Member.{Member}
use Rattle.disk_store.specs.declared.member.MemberStage.{MemberStage}
use Rattle.disk_store.specs.declared.member.MemberStage.TheVariants as stage
use Rattle.disk_store.specs.declared.member.Recovery.TheVariants as recovery
use Rattle.disk_store.specs.Memory.{StoreMemory}
use Rattle.disk_store.specs.Readers.{goes_at, numbers_going}
use Rattle.disk_store.specs.Standing.{HasBegun, IsCommitOf, IsUndone, StageStands}
use Rattle.disk_store.specs.Shown.{Sits, SitsAs, Shown}

-- ---- numbers in a list of members

abbrev is : ℕ → ℕ → Bool
is t = λ a. a == t

or-later : (a b : Bool) → b ≡ true → (a || b) ≡ true
or-later true b h = refl
or-later false b h = h

any-later : (x : Member) (xs : List Member) (t : ℕ) → list_any (is t) (numbers_going xs) ≡ true → list_any (is t) (numbers_going (x ∷ xs)) ≡ true
any-later x xs t any = by (goes_at x.stage)
  where
    by : (b : Bool) → list_any (is t) (map (λ (m : Member). m.tsn.number) (cond b (x ∷ filter (λ (m : Member). goes_at m.stage) xs) (filter (λ (m : Member). goes_at m.stage) xs))) ≡ true
    by true = or-later (x.tsn.number == t) (list_any (is t) (numbers_going xs)) any
    by false = any

any-here : (x : Member) (xs : List Member) (t : ℕ) → goes_at x.stage ≡ true → x.tsn.number ≡ t → list_any (is t) (numbers_going (x ∷ xs)) ≡ true
any-here x xs t goes same =
    ap (λ b. list_any (is t) (map (λ (m : Member). m.tsn.number) (cond b (x ∷ filter (λ (m : Member). goes_at m.stage) xs) (filter (λ (m : Member). goes_at m.stage) xs)))) goes
    ∙ ap (λ b. b || list_any (is t) (numbers_going xs)) (eq-eqb x.tsn.number t same)

has-number : (ms : List Member) (i : ℕ) (m : Member) (t : ℕ) → slice_get ms i ≡ Some m → goes_at m.stage ≡ true → m.tsn.number ≡ t → list_any (is t) (numbers_going ms) ≡ true
has-number [] i m t at goes same = absurd (none-some _ at)
has-number (x ∷ xs) zero m t at goes same = let e : m ≡ x = sym (same_Some _ _ at) in any-here x xs t (subst (λ (y : Member). goes_at y.stage ≡ true) e goes) (subst (λ (y : Member). y.tsn.number ≡ t) e same)
has-number (x ∷ xs) (suc i) m t at goes same = any-later x xs t (has-number xs i m t at goes same)

-- a member whose transaction goes on has this number
pub record Numbered (ms : List Member) (t : ℕ) : Type 0 where
  pub place : ℕ
  pub member : Member
  pub at : slice_get ms place ≡ Some member
  pub goes : goes_at member.stage ≡ true
  pub number : member.tsn.number ≡ t

behind-one : (x : Member) (xs : List Member) (t : ℕ) → Numbered xs t → Numbered (x ∷ xs) t
behind-one x xs t n = record { place = suc n.place; member = n.member; at = n.at; goes = n.goes; number = n.number }

pub numbered : (ms : List Member) (t : ℕ) → list_any (is t) (numbers_going ms) ≡ true → Numbered ms t
numbered [] t any = absurd (true≢false (sym any))
numbered (x ∷ xs) t any = by (λ more. behind-one x xs t (numbered xs t more)) (goes_at x.stage) refl any
  where
    here : (list_any (is t) (numbers_going xs) ≡ true → Numbered (x ∷ xs) t) → (c : Bool) → goes_at x.stage ≡ true → (x.tsn.number == t) ≡ c → (c || list_any (is t) (numbers_going xs)) ≡ true → Numbered (x ∷ xs) t
    here later true goes same any = record { place = 0; member = x; at = refl; goes = goes; number = eqb-true x.tsn.number t same }
    here later false goes other any = later any

    by : (list_any (is t) (numbers_going xs) ≡ true → Numbered (x ∷ xs) t) → (b : Bool) → goes_at x.stage ≡ b → list_any (is t) (map (λ (m : Member). m.tsn.number) (cond b (x ∷ filter (λ (m : Member). goes_at m.stage) xs) (filter (λ (m : Member). goes_at m.stage) xs))) ≡ true → Numbered (x ∷ xs) t
    by later true goes any = here later (x.tsn.number == t) goes refl any
    by later false goes any = later any

-- ---- by the ledger

module _ (v : View) (held : StoreMemory) (h : Shelf) (shown : Shown v held h) where
  abbrev g : Ledger
  g = shown.ledger

  abbrev course : Course
  course = shown.versions.course

  -- a session's open transaction, which has the number that memory has
  record HasNumber (s : ℕ) (m : Member) : Type 0 where
    pub transaction : Open
    pub is_open : g.base.going s ≡ Some transaction
    pub number : m.tsn ≡ transaction.tsn

  begun : (s : ℕ) (m : Member) → HasBegun g s m → HasNumber s m
  begun s m x = record { transaction = x.transaction; is_open = x.is_open; number = x.number }

  commits : (s : ℕ) (m : Member) (at : _) → IsCommitOf g s m at → HasNumber s m
  commits s m at c =
      let stands = shown.facts.commit _ c.under_way in
      record { transaction = _; is_open = ap (λ (n : ℕ). g.base.going n) (sym c.its) ∙ stands.is.is_open; number = sym c.number }

  undone : (s : ℕ) (m : Member) (left : ℕ) → IsUndone g s m left → HasNumber s m
  undone s m left x = record { transaction = x.transaction; is_open = x.is_open; number = x.number }

  opens : (s : ℕ) (m : Member) (st : MemberStage) → StageStands st v g s m → goes_at st ≡ true → HasNumber s m
  opens s m stage.Outside x goes = absurd (true≢false (sym goes))
  opens s m (stage.Beginning ceiling) x goes = absurd (true≢false (sym goes))
  opens s m stage.Writing x goes = begun s m x.begun
  opens s m stage.Changing x goes = begun s m x.begun
  opens s m stage.Broken x goes = record { transaction = x.transaction; is_open = x.is_open; number = x.number }
  opens s m stage.Prepared x goes = begun s m x.begun
  opens s m (stage.Committing (Entering n)) x goes = begun s m x.journalled.begun
  opens s m (stage.Committing Securing) x goes = begun s m x.journalled.begun
  opens s m (stage.Committing (Going n)) x goes = commits s m n x.commit
  opens s m stage.RollingBack x goes = absurd (true≢false (sym goes))
  opens s m stage.Closing x goes = absurd (true≢false (sym goes))
  opens s m stage.Reading x goes = absurd (true≢false (sym goes))
  opens s m (stage.Dead how recovery.Ending) x goes = absurd (true≢false (sym goes))
  opens s m (stage.Dead how recovery.Judging) x goes = commits s m x.at x.commit
  opens s m (stage.Dead how (recovery.Undoing left)) x goes = undone s m left x
  opens s m (stage.Dead how recovery.Restoring) x goes = undone s m 0 x

  rests : (s : ℕ) (m : Member) (st : MemberStage) → StageStands st v g s m → goes_at st ≡ false → g.standing s ≡ resting
  rests s m stage.Outside x goes = x
  rests s m (stage.Beginning ceiling) x goes = x
  rests s m stage.Writing x goes = absurd (true≢false goes)
  rests s m stage.Changing x goes = absurd (true≢false goes)
  rests s m stage.Broken x goes = absurd (true≢false goes)
  rests s m stage.Prepared x goes = absurd (true≢false goes)
  rests s m (stage.Committing turn) x goes = absurd (true≢false goes)
  rests s m stage.RollingBack x goes = x
  rests s m stage.Closing x goes = x
  rests s m stage.Reading x goes = x
  rests s m (stage.Dead how recovery.Ending) x goes = x
  rests s m (stage.Dead how recovery.Judging) x goes = absurd (true≢false goes)
  rests s m (stage.Dead how (recovery.Undoing left)) x goes = absurd (true≢false goes)
  rests s m (stage.Dead how recovery.Restoring) x goes = absurd (true≢false goes)

  not-resting : (s : ℕ) (o : Open) → g.base.going s ≡ Some o → g.standing s ≡ resting → ⊥
  not-resting s o is_open rest = none-some _ (sym (subst (λ (st : Standing). MemberStands v g.base s st) rest (shown.facts.member s)) ∙ is_open)

  sits : (s : ℕ) (m : Member) → slice_get held.members s ≡ Some m → SitsAs v g s m (h.seat s)
  sits s m at = subst (λ (x : Option Member). Sits v g s x (h.seat s)) at (shown.seats s)

  module _ (t : ℕ) (o : IsOpenNumber g.base t) where
    its-number : (m : Member) → HasNumber o.member m → m.tsn.number ≡ t
    its-number m n = ap (λ x. x.number) n.number ∙ ap (λ (x : Open). x.tsn.number) (same_Some _ _ (sym n.is_open ∙ o.is_open)) ∙ o.number

    at-stage : (m : Member) → slice_get held.members o.member ≡ Some m → (b : Bool) → goes_at m.stage ≡ b → list_any (is t) (numbers_going held.members) ≡ true
    at-stage m at true on = has-number held.members o.member m t at on (its-number m (opens o.member m m.stage (sits o.member m at).stands on))
    at-stage m at false off = absurd (not-resting o.member o.transaction o.is_open (rests o.member m m.stage (sits o.member m at).stands off))

    among : (x : Option Member) → slice_get held.members o.member ≡ x → list_any (is t) (numbers_going held.members) ≡ true
    among None none = absurd (not-resting o.member o.transaction o.is_open (subst (λ (y : Option Member). Sits v g o.member y (h.seat o.member)) none (shown.seats o.member)).1)
    among (Some m) at = at-stage m at (goes_at m.stage) refl

  -- memory has the number of each transaction that goes on
  all-there : (t : ℕ) → course.going t ≡ true → list_any (is t) (numbers_going held.members) ≡ true
  all-there t goes = let o = shown.versions.readers.versions.going t goes in among t o (slice_get held.members o.member) refl

  -- and no other
  none-else : (t : ℕ) → course.going t ≡ false → list_any (is t) (numbers_going held.members) ≡ false
  none-else t ends = by (list_any (is t) (numbers_going held.members)) refl
    where
      on : Numbered held.members t → course.going t ≡ true
      on n =
          let o : HasNumber n.place n.member = opens n.place n.member n.member.stage (sits n.place n.member n.at).stands n.goes in
          subst (λ (x : ℕ). course.going x ≡ true) (sym (ap (λ x. x.number) o.number) ∙ n.number) (shown.versions.readers.versions.goes n.place o.transaction o.is_open)

      by : (b : Bool) → list_any (is t) (numbers_going held.members) ≡ b → list_any (is t) (numbers_going held.members) ≡ false
      by true any = absurd (true≢false (sym (on (numbered held.members t any)) ∙ ends))
      by false none = none

  pub are-active : AreActive (numbers_going held.members) course
  are-active = record { all = all-there; only = none-else }
