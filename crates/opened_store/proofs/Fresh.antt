-- Sessions of which none has a transaction.
use Rattle.std.proofs.Common.{◌≡◌, ℕ, suc, List, [], ◌∷◌, Option, Some, None, slice_get, refl, sym, ap, subst, ◌∙◌, arith}
use Rattle.std.proofs.lemmas.List.Sums.{sum_by-cons}
use Rattle.rdb_outside.specs.Disk.{View}
use Rattle.line_store.specs.Seats.{outside}
use Rattle.member_memory.specs.Memory.{writes_in}
use Rattle.disk_seats.specs.Ledgers.{Ledger, resting}
use Rattle.disk_store.specs.declared.member.Member.{Member}
use Rattle.disk_store.specs.declared.member.MemberStage.{MemberStage}
use Rattle.disk_store.specs.declared.member.MemberStage.TheVariants as stage
use Rattle.disk_store.specs.Numbers.{kept_at, kept_by, kept_in}
use Rattle.disk_store.specs.Opening.{IsFresh, AreFresh}
use Rattle.disk_store.specs.Seats.{seat_with, stand_at, stand_of}
use Rattle.disk_store.specs.Standing.{StageStands}
use Rattle.disk_store.specs.Shown.{Sits, WaitsAs}
use Rattle.line_view.specs.Knowledge.{Lines}
use Rattle.line_view.specs.declared.writes.Write.{Write}
use Rattle.ledger_versions.specs.Readers.{Waiting}

seat-of : (m : Member) (ws : List Write) (start : Lines) → IsFresh m → seat_with m.stage ws start ≡ outside
seat-of m ws start fresh = ap (λ (st : MemberStage). seat_with st ws start) fresh.at

stands-outside : (x : Option Member) → ((m : Member) → x ≡ Some m → IsFresh m) → stand_of x ≡ outside
stands-outside None fresh = refl
stands-outside (Some m) fresh = seat-of m [] [] (fresh m refl)

sits-outside : (v : View) (g : Ledger) (s : ℕ) → g.standing s ≡ resting → (x : Option Member) → ((m : Member) → x ≡ Some m → IsFresh m) → Sits v g s x outside
sits-outside v g s rests None fresh = (refl, rests)
sits-outside v g s rests (Some m) fresh = record {
  start = [];
  is = sym (seat-of m (writes_in m.written.lines) [] (fresh m refl));
  stands = subst (λ (st : MemberStage). StageStands st v g s m) (sym (fresh m refl).at) rests;
}

module _ (members : List Member) (fresh : AreFresh members) where
  pub all-outside : (s : ℕ) → stand_at members s ≡ outside
  all-outside s = stands-outside (slice_get members s) (fresh s)

  pub all-sit : (v : View) (g : Ledger) → ((s : ℕ) → g.standing s ≡ resting) → (s : ℕ) → Sits v g s (slice_get members s) outside
  all-sit v g rests s = sits-outside v g s (rests s) (slice_get members s) (fresh s)

  pub none-waits : (waiting : Waiting) (s : ℕ) (m : Member) → slice_get members s ≡ Some m → WaitsAs m.stage waiting s m
  none-waits waiting s m is = subst (λ (st : MemberStage). WaitsAs st waiting s m) (sym (fresh s m is).at) tt

  pub none-reads : (s : ℕ) (m : Member) → slice_get members s ≡ Some m → m.stage ≡ stage.Reading → ⊥
  none-reads s m is reads = let bad : stage.Outside ≡ stage.Reading = sym (fresh s m is).at ∙ reads in absurd (cc)

-- no number is kept free
pub none-kept : (members : List Member) → AreFresh members → kept_in members ≡ 0
none-kept [] fresh = refl
none-kept (m ∷ ms) fresh =
    let sum = sum_by-cons kept_by m ms in
    let here : kept_by m ≡ 0 = ap kept_at (fresh 0 m refl).at in
    let rest = none-kept ms (λ s x is. fresh (suc s) x is) in
    omega (arith, sum, here, rest)
